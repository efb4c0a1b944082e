-- What a history says of one pass, and what passes that were handed in carry.
use Rattle.std.specs.Prelude.{ℕ, ◌+◌, ◌==◌, Bool, true, false, List, [], ◌∷◌, length, Option, Some, None}
use Rattle.std.specs.List.{sum_by}
use Rattle.dine_words.specs.declared.call.Call.{Call}
use Rattle.dine_words.specs.declared.entry.Entry.{Entry}
use Rattle.dine_journal.specs.declared.hall.Answer.{Answer}
use Rattle.dine_front.specs.Passes.{Pass}

-- x before the rest where the test holds, else the rest alone
abbrev pub kept_if : {A : Type 0} → Bool → A → List A → List A
kept_if true x rest = x ∷ rest
kept_if false x rest = rest

-- x where the test holds, else the rest
abbrev pub first_if : {A : Type 0} → Bool → A → Option A → Option A
first_if true x rest = Some x
first_if false x rest = rest

-- the receipt for an entry that stands at a place
abbrev pub receipt_for : ℕ → Entry → Call × Answer
receipt_for place e = (e.call, record { place = place; reply = e.reply })

-- the receipts for the entries of pass k, where the first entry stands at a place
abbrev pub mine_from : ℕ → ℕ → List Entry → List (Call × Answer)
mine_from k place [] = []
mine_from k place (e ∷ es) = kept_if (e.pass == k) (receipt_for place e) (mine_from k (place + 1) es)

-- the receipts that pass k has for its calls in a history: each call of the pass with its place and its reply, in order
abbrev pub mine : ℕ → List Entry → List (Call × Answer)
mine k history = mine_from k 0 history

-- the receipts of the pass with number k, if it was handed in
abbrev pub receipts_of : ℕ → List Pass → Option (List (Call × Answer))
receipts_of k [] = None
receipts_of k (p ∷ ps) = first_if (p.number == k) p.receipts (receipts_of k ps)

-- the sum of the shares: how many calls these passes made together
abbrev pub sum_of_shares : List Pass → ℕ
sum_of_shares passes = sum_by (λ p. length p.receipts) passes
