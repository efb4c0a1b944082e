use Rattle.std.proofs.Common.{◌≡◌, ℕ, List, Result, Ok, Err, Bool}
use Rattle.std.specs.Prelude.{IfSome, OnOk}
use Rattle.std.proofs.lemmas.Option.{IfSome_then}
use Rattle.dine_replay.specs.Checking.{IsChecked}
use Rattle.dine_replay.specs.Replaying.{IsReplayed}
use Rattle.dine_replay.proofs.Bounds.{ok_reads, unless_read}
use Rattle.dine_replay.proofs.read_by_read.check_long.Goals as goal

-- what holds is so in the face of a success
on_ok : {X E : Type 0} (P : Type 0) (r : Result X E) → P → OnOk r P
on_ok P (Ok x) p = p
on_ok P (Err e) p = tt

-- what was replayed to its end is answered, and no read failed
pub returns-clause-answered : goal.returns-clause-answered
returns-clause-answered g c =
    let same : g.R.Source.mark c.replay.new.reader ≡ g.R.Source.mark c.args.reader.now = c.in_ok-replayed.ensures.answered.mark.unmarked in
    record {
      answer = IfSome_then (g.R.Source.remaining c.args.reader.now) c.in_ok-replayed.ensures.answered.answer c.answer_of.ensures.answer;
      mark = record { failed = λ err. absurd (c.answer_of.ensures.reads_none err); unmarked = on_ok _ c.answer_of.result same; read_alone = λ other. same };
    }

pub returns-in_err-replayed-clause-heard : goal.returns-in_err-replayed-clause-heard
returns-in_err-replayed-clause-heard g c =
    unless_read _ c.from_residual.result c.in_err-replayed.field-0.0 c.from_residual.ensures.1 c.in_err-replayed.ensures.heard

pub returns-clause-heard : goal.returns-clause-heard
returns-clause-heard g c = λ _. c.in_ok-replayed.ensures.heard (ok_reads c.in_ok-replayed.replayed)
