use Rattle.std.proofs.Common.{ap, cond, sym, refl, ◌∙◌}
use Rattle.dine_words.specs.declared.limits.Limits.{Limits}
use Rattle.dine_table.specs.Table.{Table, opening_table}
use Rattle.dine_table.proofs.CallerLemmas.{sound_at_opening}
use Rattle.dine_journal.specs.Overtaking.{overtakes_at, some_entry}
use Rattle.dine_journal.proofs.Noting.{one_if}
use Rattle.dine_journal.proofs.OvertakenOnce.{overtaken-is}
use Rattle.dine_journal.proofs.overtaking.overtakes.Goals as goal

pub some_entry_overtakes-is_overtaken-requires :
    goal.some_entry_overtakes-is_overtaken-requires
some_entry_overtakes-is_overtaken-requires c =
    record {
      clock = rw c.in_ok-arbiter.ensures.table refl;
      sound = rw c.in_ok-arbiter.ensures.table (sound_at_opening c.limits.result);
    }

-- it is one where an entry overtakes, and there is no second one
pub returns-clause-value : goal.returns-clause-value
returns-clause-value c =
    let j = c.args.journal.now in
    let test = overtakes_at c.args.task c.args.other in
    let found = c.some_entry_overtakes-is_overtaken.ensures ∙ ap (λ (t : Table). some_entry test t c.entries.result) c.in_ok-arbiter.ensures.table ∙ ap (λ (l : Limits). some_entry test (opening_table l) c.entries.result) c.limits.ensures ∙ ap (some_entry test (opening_table j.limits)) c.entries.ensures.entries in
    c.from.ensures ∙ one_if _ ∙ ap (λ b. cond b 1 0) found ∙ sym (overtaken-is j.limits j.entries c.args.task c.args.other c.entries.ensures.legal)
