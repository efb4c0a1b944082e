use Rattle.std.proofs.Common.{◌<◌, length, arith, refl, sym, ◌∙◌}
use Rattle.dine_journal.specs.Overtaking.{overtakes_at}
use Rattle.dine_journal.proofs.Given.{at_given, clock_given, past_given, sound_given}
use Rattle.dine_journal.proofs.Replaying.{past_all}
use Rattle.dine_journal.proofs.overtaking.some_entry_overtakes.Goals as goal

pub loop-place-init : goal.loop-place-init
loop-place-init c = record { sound = c.requires.sound; clock = omega arith; whole = refl }

pub overtakes_at-requires : goal.overtakes_at-requires
overtakes_at-requires c =
    let within : c.loop-place.place < length c.args.history.now = omega arith in
    sound_given (overtakes_at c.args.task c.args.other) _ _ _ _ _ _ (c.at-entry.ensures _) within c.apply.ensures.table c.loop-place.invariant.whole c.loop-place.invariant.sound

pub returns-then-overtakes_at : goal.returns-then-overtakes_at
returns-then-overtakes_at c =
    let within : c.loop-place.place < length c.args.history.now = omega arith in
    sym (at_given (overtakes_at c.args.task c.args.other) _ _ _ _ _ _ (c.at-entry.ensures _) within c.apply.ensures.table c.loop-place.invariant.whole (sym c.overtakes_at.ensures ∙ c.if-overtakes_at.true))

pub loop-place-preserved : goal.loop-place-preserved
loop-place-preserved c =
    let within : c.loop-place.place < length c.args.history.now = omega arith in
    record {
      sound = sound_given (overtakes_at c.args.task c.args.other) _ _ _ _ _ _ (c.at-entry.ensures _) within c.apply.ensures.table c.loop-place.invariant.whole c.loop-place.invariant.sound;
      clock = clock_given (overtakes_at c.args.task c.args.other) _ _ _ _ _ _ (c.at-entry.ensures _) within c.apply.ensures.table c.loop-place.invariant.whole c.loop-place.invariant.clock;
      whole = past_given (overtakes_at c.args.task c.args.other) _ _ _ _ _ _ (c.at-entry.ensures _) within c.apply.ensures.table c.loop-place.invariant.whole (sym c.overtakes_at.ensures ∙ c.if-overtakes_at.false);
    }

pub returns : goal.returns
returns c =
    sym (past_all (overtakes_at c.args.task c.args.other) _ _ c.args.history.now c.loop-place.place (omega arith) c.loop-place.invariant.whole)
