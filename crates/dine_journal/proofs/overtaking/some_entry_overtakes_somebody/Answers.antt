use Rattle.std.proofs.Common.{◌<◌, length, arith, refl, sym, ◌∙◌}
use Rattle.dine_journal.specs.Overtaking.{overtakes_somebody}
use Rattle.dine_journal.proofs.Given.{at_given, clock_given, past_given}
use Rattle.dine_journal.proofs.Replaying.{past_all}
use Rattle.dine_journal.proofs.overtaking.some_entry_overtakes_somebody.Goals as goal

pub loop-place-init : goal.loop-place-init
loop-place-init c = record { clock = omega arith; whole = refl }

pub returns-then-overtakes_somebody : goal.returns-then-overtakes_somebody
returns-then-overtakes_somebody c =
    let within : c.loop-place.place < length c.args.history.now = omega arith in
    sym (at_given overtakes_somebody _ _ _ _ _ _ (c.at-entry.ensures _) within c.apply.ensures.table c.loop-place.invariant.whole (sym c.overtakes_somebody.ensures ∙ c.if-overtakes_somebody.true))

pub loop-place-preserved : goal.loop-place-preserved
loop-place-preserved c =
    let within : c.loop-place.place < length c.args.history.now = omega arith in
    record {
      clock = clock_given overtakes_somebody _ _ _ _ _ _ (c.at-entry.ensures _) within c.apply.ensures.table c.loop-place.invariant.whole c.loop-place.invariant.clock;
      whole = past_given overtakes_somebody _ _ _ _ _ _ (c.at-entry.ensures _) within c.apply.ensures.table c.loop-place.invariant.whole (sym c.overtakes_somebody.ensures ∙ c.if-overtakes_somebody.false);
    }

pub returns : goal.returns
returns c =
    sym (past_all overtakes_somebody _ _ c.args.history.now c.loop-place.place (omega arith) c.loop-place.invariant.whole)
