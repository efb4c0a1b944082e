use Rattle.dine_serve.proofs.Words.{◌≡◌, []}
use Rattle.dine_serve.proofs.Hearing.{IsAnswered}
use Rattle.dine_serve.proofs.serving.answer_all.Given as goal

-- what was heard so far is answered, and nothing waits to be written
abbrev pub invariant-reads : goal.invariant-reads
invariant-reads g l = record {
  none_pending : l.pending.items ≡ [];
  answered : IsAnswered l.initial.broker l.broker l.buffer (g.R.Source.remaining l.initial.reader) (g.R.Source.remaining l.reader) (g.W.Sink.contents l.initial.writer) (g.W.Sink.contents l.writer);
  read_unmarked : g.R.Source.mark l.reader ≡ g.R.Source.mark l.initial.reader;
  write_unmarked : g.W.Sink.mark l.writer ≡ g.W.Sink.mark l.initial.writer;
}
