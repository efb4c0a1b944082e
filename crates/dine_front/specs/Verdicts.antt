-- The verdict over a journal and the passes that were handed in.
use Rattle.std.specs.Prelude.{◌≡◌, ◌≢◌, ℕ, ◌<◌, List, Some, None, take, slice_get}
use Rattle.dine_words.specs.declared.call.Call.{Call}
use Rattle.dine_words.specs.declared.entry.Entry.{Entry}
use Rattle.dine_journal.specs.declared.hall.Answer.{Answer}
use Rattle.dine_front.specs.declared.verdict.Verdict.{Verdict}
use Rattle.dine_front.specs.declared.verdict.Verdict.TheVariants.{Missing, Differs, Settled}
use Rattle.dine_front.specs.Passes.{Pass}
use Rattle.dine_front.specs.Mine.{mine, receipts_of}

-- each of the passes 0 to n - 1 was handed in
abbrev pub NoneMissing : ℕ → List Pass → Type 0
NoneMissing n passes = (k : ℕ) → k < n → receipts_of k passes ≢ None

-- each of the passes 0 to n - 1 has just the receipts that the history says
abbrev pub AllSettled : ℕ → List Pass → List Entry → Type 0
AllSettled n passes history = (k : ℕ) → k < n → receipts_of k passes ≡ Some (mine k history)

-- the lists part at place i: they are the same before it, and there they differ, or just one of them has ended
pub record PartAt (i : ℕ) (xs ys : List (Call × Answer)) : Type 0 where
  pub same_before : take i xs ≡ take i ys
  pub differ : slice_get xs i ≢ slice_get ys i

-- pass k is the first of n passes that was not handed in
pub record IsMissing (n : ℕ) (passes : List Pass) (k : ℕ) : Type 0 where
  pub in_range : k < n
  pub missing : receipts_of k passes ≡ None
  pub first : NoneMissing k passes

-- none of n passes is missing, and pass k is the first whose receipts are not what the history says: they part at i
pub record IsDiffering (n : ℕ) (passes : List Pass) (history : List Entry) (k i : ℕ) : Type 0 where
  pub all_here : NoneMissing n passes
  pub in_range : k < n
  pub first : AllSettled k passes history
  pub receipts : List (Call × Answer)
  pub of_pass : receipts_of k passes ≡ Some receipts
  pub part : PartAt i receipts (mine k history)

-- the verdict, where a front has n passes
abbrev pub IsVerdict : ℕ → List Pass → List Entry → Verdict → Type 0
IsVerdict n passes history (Missing k) = IsMissing n passes k
IsVerdict n passes history (Differs k i) = IsDiffering n passes history k i
IsVerdict n passes history Settled = AllSettled n passes history

-- the fact, unless a pass is missing
abbrev pub UnlessMissing : Verdict → Type 0 → Type 0
UnlessMissing (Missing k) fact = Unit {0}
UnlessMissing (Differs k i) fact = fact
UnlessMissing Settled fact = fact

-- the fact, where the verdict is that all is settled
abbrev pub IfSettled : Verdict → Type 0 → Type 0
IfSettled (Missing k) fact = Unit {0}
IfSettled (Differs k i) fact = Unit {0}
IfSettled Settled fact = fact
