-- What is seen of a front and of its passes, and what a call or a look does to the pass that makes it.
use Rattle.std.specs.Prelude.{◌≡◌, ℕ, ◌<◌, Bool, List, [], ◌∷◌, ◌++◌, length, Some, slice_get}
use mathlib.Core.List.{IsPrefix}
use Rattle.logbook.specs.Pages.{Book}
use Rattle.dine_words.specs.declared.call.Call.{Call}
use Rattle.dine_words.specs.declared.entry.Entry.{Entry}
use Rattle.dine_words.specs.declared.limits.Limits.{Limits}
use Rattle.dine_table.specs.History.{IsLegal}
use Rattle.dine_journal.specs.declared.hall.Answer.{Answer}

-- the most passes that a front may have
abbrev pub most_passes : ℕ
most_passes = 16

-- what is seen of a front: the limits of its table, and how many passes it has. No call changes them
pub record Front : Type 0 where
  pub limits : Limits
  pub passes : ℕ

-- what is seen of what a front is opened from: its terms, whether its passes look, and the book that its history is
-- written in
pub record Opened : Type 0 where
  pub limits : Limits
  pub passes : ℕ
  pub looks : Bool
  pub book : Book

-- what is seen of a pass: its number, its receipts, each a call with its answer, in the order of the calls, and the
-- beginning of the history that it has seen
pub record Pass : Type 0 where
  pub number : ℕ
  pub receipts : List (Call × Answer)
  pub seen : List Entry

-- the pass p has made a call and is q now: it has one receipt more, and is still the same pass
pub record Acted (p : Pass) (call : Call) (answer : Answer) (q : Pass) : Type 0 where
  pub number : q.number ≡ p.number
  pub receipts : q.receipts ≡ p.receipts ++ (call, answer) ∷ []

-- the pass p is q now, and has seen as much or more: a legal history, which begins with all that it had seen
pub record Sees (limits : Limits) (p q : Pass) : Type 0 where
  pub begins : IsPrefix p.seen q.seen
  pub legal : IsLegal limits q.seen

-- the call has its entry among all that the pass has seen, at the place that the answer names and with its reply
abbrev pub HasEntry : Pass → Call → Answer → Type 0
HasEntry p call answer =
    slice_get p.seen answer.place ≡ Some (record { pass = p.number; call = call; reply = answer.reply })

-- these are n passes, numbered 0, 1, .. in order, with no receipts, which have seen nothing
abbrev pub AreNew : ℕ → List Pass → Type 0
AreNew n passes =
    (length passes ≡ n)
    × ((k : ℕ) → k < n → slice_get passes k ≡ Some (record { number = k; receipts = []; seen = [] }))

-- what the passes have seen are beginnings of one list, and so is the history
pub record AreOfOneHistory (history : List Entry) (passes : List Pass) : Type 0 where
  pub whole : List Entry
  pub begins : IsPrefix history whole
  pub each : (k : ℕ) (p : Pass) → slice_get passes k ≡ Some p → IsPrefix p.seen whole
