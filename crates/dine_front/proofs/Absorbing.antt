-- A board that takes in what the next entry tells.
use Rattle.std.proofs.Common.{◌≡◌, ◌+◌, ◌==◌, true, List, [], ◌∷◌, ◌++◌, length, Option, None, refl, ap, sym, ◌∙◌, arith, length-append}
use Rattle.std.proofs.lemmas.Bool.Decides.{nat_tests}
use mathlib.Core.List.{IsPrefix}
use Rattle.dine_words.specs.declared.entry.Entry.{Entry}
use Rattle.dine_words.specs.declared.limits.Limits.{Limits}
use Rattle.dine_journal.specs.declared.board.Change.{Change}
use Rattle.dine_journal.specs.declared.board.Place.{Place}
use Rattle.dine_journal.specs.Told.{board_after, opening_board, put_told, told_by}
use Rattle.dine_journal.proofs.CallerLemmas.{board_from-append}
use Rattle.dine_front.specs.Published.{last_told, last_told_from, longer_by_one}

-- an entry at the end is the last that tells
last_told_from-append : (told : Option Change) (es : List Entry) (e : Entry) → last_told_from told (es ++ e ∷ []) ≡ told_by e
last_told_from-append told [] e = refl
last_told_from-append told (x ∷ es) e = last_told_from-append (told_by x) es e

-- the same of a whole history
pub last_told-append : (es : List Entry) (e : Entry) → last_told (es ++ e ∷ []) ≡ told_by e
last_told-append es e = last_told_from-append None es e

-- a list that goes on by one has one entry more
one_more : (xs ys rest : List Entry) → xs ++ rest ≡ ys → length ys ≡ length xs + 1 → (e : Entry) × (ys ≡ xs ++ e ∷ [])
one_more xs ys [] is len = absurd (omega (arith, ap length is, length-append xs [], len))
one_more xs ys (e ∷ []) is len = (e, sym is)
one_more xs ys (e ∷ f ∷ es) is len = absurd (omega (arith, ap length is, length-append xs (e ∷ f ∷ es), len))

-- the board of a history becomes that of the next one by what its last entry tells
pub taken_in : (limits : Limits) (xs ys : List Entry) (places : List Place) (told : Option Change) → told ≡ last_told ys → IsPrefix xs ys → length ys ≡ length xs + 1 → places ≡ board_after limits xs → put_told places told ≡ board_after limits ys
taken_in limits xs ys places told is begins len shown =
    let next = one_more xs ys begins.0 begins.1 len in
    let last : told ≡ told_by next.0 = is ∙ (ap last_told next.1 ∙ last_told-append xs next.0) in
    ap (λ l. put_told l told) shown ∙ (ap (put_told (board_after limits xs)) last ∙ (sym (board_from-append (opening_board limits) xs next.0) ∙ ap (board_after limits) (sym next.1)))

-- a list with one entry more is shown next
pub shown_next : (xs ys : List Entry) (e : Entry) → ys ≡ xs ++ e ∷ [] → longer_by_one xs ys ≡ ys
shown_next xs ys e is =
    let len : length ys ≡ length xs + 1 = omega (arith, ap length is, length-append xs (e ∷ [])) in
    let same : (length ys == length xs + 1) ≡ true = grind (arith, nat_tests) in
    rw same refl
