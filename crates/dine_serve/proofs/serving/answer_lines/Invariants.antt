use Rattle.dine_serve.proofs.Words.{◌≡◌, [], length, begun_line, seen_lines, said_from, standing_from, Progress}
use Rattle.dine_serve.proofs.serving.answer_lines.Given as goal

-- what is said to the lines so far is written or pending
abbrev pub invariant-loop-rest : goal.invariant-loop-rest
invariant-loop-rest g l = record {
  whole : begun_line [] l.rest ≡ [];
  after : standing_from l.broker (seen_lines [] l.rest) ≡ standing_from l.initial.broker (seen_lines [] l.fn.text);
  progress : Progress (said_from l.initial.broker (seen_lines [] l.fn.text)) (g.W.Sink.contents l.initial.writer) (g.W.Sink.contents l.writer) l.pending.items (said_from l.broker (seen_lines [] l.rest));
  unmarked : g.W.Sink.mark l.writer ≡ g.W.Sink.mark l.initial.writer;
}

-- each line takes a byte of the rest
abbrev pub decreases-loop-rest : goal.decreases-loop-rest
decreases-loop-rest g l = length l.rest
