use Rattle.std.proofs.Common.{sym, ◌∙◌}
use Rattle.std.proofs.lemmas.Bool.{false_from_ne_true}
use Rattle.dine_table.specs.Table.{are_in_conflict}
use Rattle.dine_journal.proofs.Replaying.{conflict-separated}
use Rattle.dine_journal.proofs.overtaking.are_in_conflict.Goals as goal

pub returns-in_default : goal.returns-in_default
returns-in_default c =
    let t = c.args.arbiter.now.table in
    sym (false_from_ne_true (are_in_conflict t c.args.task c.args.other) (λ apart. c.in_default.not-Done (c.reply_to.ensures ∙ conflict-separated t c.requires c.args.task c.args.other apart)))
