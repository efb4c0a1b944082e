use Rattle.std.proofs.Common.{ap, refl, ◌∙◌}
use Rattle.dine_words.specs.declared.limits.Limits.{Limits}
use Rattle.dine_table.specs.Table.{Table, opening_table}
use Rattle.dine_journal.specs.Overtaking.{overtakes_somebody, some_entry}
use Rattle.dine_journal.proofs.Noting.{most-told}
use Rattle.dine_journal.proofs.overtaking.most_overtakes.Goals as goal

pub some_entry_overtakes_somebody-is_overtaken-requires :
    goal.some_entry_overtakes_somebody-is_overtaken-requires
some_entry_overtakes_somebody-is_overtaken-requires c = rw c.in_ok-arbiter.ensures.table refl

pub returns-clause-value : goal.returns-clause-value
returns-clause-value c =
    let j = c.args.journal.now in
    let found = c.some_entry_overtakes_somebody-is_overtaken.ensures ∙ ap (λ (t : Table). some_entry overtakes_somebody t c.entries.result) c.in_ok-arbiter.ensures.table ∙ ap (λ (l : Limits). some_entry overtakes_somebody (opening_table l) c.entries.result) c.limits.ensures ∙ ap (some_entry overtakes_somebody (opening_table j.limits)) c.entries.ensures.entries in
    most-told j.limits j.entries c.some_entry_overtakes_somebody-is_overtaken.result _ c.entries.ensures.legal found c.from.ensures
