use Rattle.dine_forks.proofs.Lemmas.{◌-◌, ◌*◌, ◌≤◌, bit_in, ◌≡◌, ℕ, ◌+◌, ◌<◌, length}
use Rattle.dine_forks.proofs.slot_set.first_set.Given as goal

-- no bit that was passed over is set: those of the words before, and of this one those that are skipped
abbrev pub invariant-loop-word : goal.invariant-loop-word
invariant-loop-word l =
    record {
      part : l.skipped < 64;
      reach : l.from ≤ 64 * l.word + l.skipped;
      end : 64 * l.word + l.skipped ≤ 64 * length l.words;
      before : (place : ℕ) → l.from ≤ place → place < 64 * l.word + l.skipped → bit_in l.words place ≡ 0;
    }

-- each word leaves fewer behind it
abbrev pub decreases-loop-word : goal.decreases-loop-word
decreases-loop-word l = length l.words - l.word
