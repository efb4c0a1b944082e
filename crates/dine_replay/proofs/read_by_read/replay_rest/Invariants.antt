use Rattle.std.proofs.Common.{◌≡◌, ◌-◌, ◌^◌, ◌<◌, ◌≤◌, List, ℕ, Option, length}
use Rattle.dine_replay.specs.Bounds.{StaysWithinBound}
use Rattle.dine_replay.specs.Replaying.{IsReplaying}
use Rattle.dine_replay.proofs.read_by_read.replay_rest.Given as goal

-- all whole lines that were heard are replayed, whatever was heard before the first read here
abbrev pub invariant-reads : goal.invariant-reads
invariant-reads g l =
    record {
      going : (first : Option (List ℕ)) → IsReplaying first (g.R.Source.remaining l.fn.reader) l.fn.buffer l.fn.replayed → IsReplaying first (g.R.Source.remaining l.reader) l.buffer l.replayed;
      few : l.replayed.entries < 2 ^ 64 - 1;
      counted : (first : Option (List ℕ)) (before : IsReplaying first (g.R.Source.remaining l.fn.reader) l.fn.buffer l.fn.replayed) → l.counter ≤ length (going first before).heard;
      within : StaysWithinBound (g.R.Source.remaining l.fn.reader) (g.R.Source.remaining l.reader) l.fn.bound l.bound;
      mark : g.R.Source.mark l.reader ≡ g.R.Source.mark l.fn.reader;
    }
