use Rattle.std.proofs.Common.{sym, ap, ◌∙◌}
use Rattle.dine_lines.specs.Names.{task_named}
use Rattle.dine_lines.proofs.FirstBytes.{same_name}
use Rattle.dine_lines.proofs.names.Names.task.Goals as goal

-- the hint led to this very name
pub returns-in-Some : goal.returns-in-Some
returns-in-Some c =
    let found = c.in-Some.ensures in
    let halves = c.halves-low.ensures in
    sym found.bound
    ∙ ap (task_named c.args.self.now) (same_name found.name c.args.name found.letters halves.name (found.halves ∙ sym halves.letters))
