use Rattle.std.proofs.Common.{List, ℕ, Option, Err, ap, ◌∙◌, arith}
use Rattle.std.specs.Prelude.{IsErrOf}
use Rattle.dine_replay.specs.declared.audit_answer.AuditFault.{AuditFault}
use Rattle.dine_replay.specs.declared.audit_answer.AuditFault.TheVariants.{Read}
use Rattle.dine_replay.specs.declared.replayed.Replayed.{Replayed}
use Rattle.dine_replay.proofs.Bounds.{at_first, before_reading, ok_reads, out_before_reading, past_answered, past_later, read_out, read_to_end}
use Rattle.dine_replay.proofs.Steps.{err_is}
use Rattle.dine_replay.proofs.read_by_read.check_bounded.Goals as goal

pub returns-then-is_of_reading-clause-answered : goal.returns-then-is_of_reading-clause-answered
returns-then-is_of_reading-clause-answered g c =
    past_answered (g.R.Source.remaining c.args.reader.now) (g.R.Source.mark c.args.reader.now) (g.R.Source.mark c.replay_within.new.reader) c.new-bound.result c.new-bound.ensures
    (c.in-Err.ensures.mark.failed (ap (λ (f : AuditFault). Err f) (c.is_of_reading.ensures.read c.if-is_of_reading.true)))

pub returns-clause-answered : goal.returns-clause-answered
returns-clause-answered g c =
    let first : Option (List ℕ) = g.R.Source.remaining c.args.reader.now in
    let mark = g.R.Source.mark c.hear_to_end.new.reader in
    past_answered first (g.R.Source.mark c.args.reader.now) mark c.new-bound.result c.new-bound.ensures
    (past_later mark first (g.R.Source.remaining c.replay_within.new.reader) c.new-bound.result c.replay_within.new.bound
    (c.in-Err.ensures.within (λ same. c.is_of_reading.ensures.other c.if-is_of_reading.false (err_is c.in-Err.fault same)))
    c.in-Err-hear_to_end.ensures.failed)

-- nothing was read yet
pub returns-in_default-clause-answered : goal.returns-in_default-clause-answered
returns-in_default-clause-answered g c =
    let first : Option (List ℕ) = g.R.Source.remaining c.args.reader.now in
    let told = c.fault_before_reading.ensures in
    before_reading first (g.R.Source.remaining c.fault_before_reading.new.reader) _ _ c.fault_before_reading.result told.one told.read told.memory

pub returns-in_default-clause-whole : goal.returns-in_default-clause-whole
returns-in_default-clause-whole g c =
    let first : Option (List ℕ) = g.R.Source.remaining c.args.reader.now in
    let told = c.fault_before_reading.ensures in
    out_before_reading first (g.R.Source.remaining c.fault_before_reading.new.reader) _ _ c.fault_before_reading.result told.one told.memory

-- no line is at fault
pub returns-in-Ok-replay_within-clause-whole : goal.returns-in-Ok-replay_within-clause-whole
returns-in-Ok-replay_within-clause-whole g c =
    let first : Option (List ℕ) = g.R.Source.remaining c.args.reader.now in
    let now : Option (List ℕ) = g.R.Source.remaining c.replay_within.new.reader in
    λ _. read_out first now _ _
    (read_to_end first now (c.in-Ok-replay_within.ensures.within (ok_reads c.in-Ok-replay_within.replayed) 16777216 first (at_first 16777216 first c.new-bound.result c.new-bound.ensures (omega arith))) c.in-Ok-replay_within.ensures.end)
    c.in-Ok-replay_within.ensures.mark.unmarked

-- the rest was read behind the line at fault
pub returns-in-Ok-hear_to_end-clause-whole : goal.returns-in-Ok-hear_to_end-clause-whole
returns-in-Ok-hear_to_end-clause-whole g c =
    let first : Option (List ℕ) = g.R.Source.remaining c.args.reader.now in
    λ other.
    let alone = λ (same : IsErrOf {T = Replayed} (Err c.in-Err.fault) Read). c.is_of_reading.ensures.other c.if-is_of_reading.false (err_is c.in-Err.fault same) in
    read_out first (g.R.Source.remaining c.hear_to_end.new.reader) _ _
    (c.in-Ok-hear_to_end.ensures.end 16777216 first (c.in-Err.ensures.within alone 16777216 first (at_first 16777216 first c.new-bound.result c.new-bound.ensures (omega arith))))
    (c.in-Ok-hear_to_end.ensures.unmarked ∙ c.in-Err.ensures.mark.read_alone alone)
