use Rattle.dine_serve.proofs.Words.{◌≡◌, Err, [], ◌∙◌, refl, rules, sym, seen_lines, Memory, Write, reading_of, counted, said_from, said_to, begun, gathered, moved, partly, whole}
use Rattle.dine_serve.proofs.Answering.{has_room, said_from-first, standing_from-first}
use Rattle.dine_serve.proofs.Served.{says-in_lines, says-in_part}
use Rattle.dine_serve.proofs.serving.answer_lines.Goals as goal

pub loop-rest-init : goal.loop-rest-init
loop-rest-init g c = record {
  whole = c.requires.whole;
  after = refl;
  progress = rw c.requires.pending (begun (said_from c.args.broker.now (seen_lines [] c.args.text.now)) _);
  unmarked = refl;
}

pub loop-rest-preserved : goal.loop-rest-preserved
loop-rest-preserved g c =
    let s = c.loop-rest.broker in
    let s' = c.take_front.new.self in
    let now = seen_lines [] c.loop-rest.rest.now in
    let taken = c.in_ok-rest.ensures in
    let lines = seen_lines [] c.in_ok-rest.rest.now in
    record {
      whole = taken.first.begun ∙ c.loop-rest.invariant.whole;
      after = sym (standing_from-first s s' taken.line now lines taken.first.seen taken.leaves) ∙ c.loop-rest.invariant.after;
      progress = moved _ _ c.in_ok-write_if_enough.ensures.ok (gathered (said_to (counted s) (reading_of s.is_numbered taken.line)) (said_from s' lines) _ (said_from-first s s' taken.line now lines taken.first.seen taken.leaves) taken.said c.loop-rest.invariant.progress);
      unmarked = c.in_ok-write_if_enough.ensures.unmarked ∙ c.loop-rest.invariant.unmarked;
    }

pub take_front-requires-clause-room : goal.take_front-requires-clause-room
take_front-requires-clause-room g c = has_room c.loop-rest.broker (sym c.is_worn_out.ensures ∙ c.if-is_worn_out.false)

-- no more lines are counted
pub returns-then-is_worn_out-clause-says : goal.returns-then-is_worn_out-clause-says
returns-then-is_worn_out-clause-says g c = says-in_lines (Err Memory) _ _ _ _ _ _ refl (whole c.loop-rest.invariant.progress)

-- memory is wanting
pub returns-in_err-rest-clause-says : goal.returns-in_err-rest-clause-says
returns-in_err-rest-clause-says g c =
    let is : c.from_residual.result ≡ Err Memory = search rules in
    says-in_lines c.from_residual.result _ _ _ _ _ _ is (whole c.loop-rest.invariant.progress)

-- a write fails
pub returns-in_err-write_if_enough-clause-says : goal.returns-in_err-write_if_enough-clause-says
returns-in_err-write_if_enough-clause-says g c =
    let s = c.loop-rest.broker in
    let s' = c.take_front.new.self in
    let taken = c.in_ok-rest.ensures in
    let lines = seen_lines [] c.in_ok-rest.rest.now in
    let first = said_from-first s s' taken.line (seen_lines [] c.loop-rest.rest.now) lines taken.first.seen taken.leaves in
    let is : c.from_residual-in_err-write_if_enough.result ≡ Err Write = search rules in
    says-in_part c.from_residual-in_err-write_if_enough.result _ _ _ _ _ _ is
    (partly _ c.in_err-write_if_enough.ensures.err (gathered (said_to (counted s) (reading_of s.is_numbered taken.line)) (said_from s' lines) _ first taken.said c.loop-rest.invariant.progress))
    c.in_err-write_if_enough.ensures.marked

pub returns-in_err-flush-clause-says : goal.returns-in_err-flush-clause-says
returns-in_err-flush-clause-says g c =
    let is : c.from_residual-in_err-flush.result ≡ Err Write = search rules in
    says-in_part c.from_residual-in_err-flush.result _ _ _ _ _ _ is (partly _ c.in_err-flush.ensures.part c.loop-rest.invariant.progress) c.in_err-flush.ensures.mark
