use Rattle.std.proofs.Common.{rules, ◌≡◌, None, ◌∙◌}
use Rattle.std.specs.Str.{bytes_eq}
use Rattle.indexmap.specs.IndexMap.{get}
use Rattle.indexmap.proofs.CallerLemmas.{insert_entry-new}
use Rattle.dine_lines.proofs.names.insert_free.Goals as goal

-- the name was free, so it goes last
pub returns-in-Vacant-clause-bound : goal.returns-in-Vacant-clause-bound
returns-in-Vacant-clause-bound c told =
    let tasks = c.args.tasks.now in
    let free : get bytes_eq tasks c.args.name ≡ None = search rules in
    search rules ∙ insert_entry-new bytes_eq tasks c.args.name c.args.task free
