use Rattle.std.specs.Prelude.{◌≡◌, ℕ, ◌<◌, Some, slice_get}
use Rattle.dine_words.specs.declared.call.Call.{Call}
use Rattle.dine_journal.specs.declared.hall.Answer.{Answer}
use Rattle.dine_race.proofs.racing.are_first.Given as goal

-- the places so far are their own
abbrev pub invariant-loop-place : goal.invariant-loop-place
invariant-loop-place l = (k : ℕ) (receipt : Call × Answer) → k < l.place → slice_get l.receipts k ≡ Some receipt → receipt.1.place ≡ k
