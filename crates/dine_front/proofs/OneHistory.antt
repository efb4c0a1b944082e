-- What passes have seen, and the history, are beginnings of one list.
use Rattle.std.proofs.Common.{◌≡◌, ℕ, ◌+◌, ◌<◌, ◌≤◌, ◌⊎◌, inl, inr, List, length, get_or, slice_get, Some, sym, ap, ◌∙◌, subst, arith}
use Rattle.std.proofs.lemmas.Bool.{cases_lt}
use Rattle.std.proofs.lemmas.Option.{get_or_from_slice_get}
use mathlib.Core.List.{IsPrefix}
use Rattle.dine_words.specs.declared.entry.Entry.{Entry}
use Rattle.dine_front.specs.Passes.{AreOfOneHistory, Pass}
use Rattle.dine_front.proofs.Prefixes.{begins_on, shorter_begins}

-- what each of the first n passes has seen begins the list
abbrev pub AllBegin : ℕ → List Pass → List Entry → Type 0
AllBegin n passes whole = (k : ℕ) (p : Pass) → k < n → slice_get passes k ≡ Some p → IsPrefix p.seen whole

-- one pass more begins a list that has grown
pub one_more_begins : (passes : List Pass) (i : ℕ) (p : Pass) (before after : List Entry) → p ≡ get_or passes i p → IsPrefix before after → IsPrefix p.seen after → AllBegin i passes before → AllBegin (i + 1) passes after
one_more_begins passes i p before after is grown begun so_far k q within at = go (cases_lt k i)
  where
    go : (k < i) ⊎ (i ≤ k) → IsPrefix q.seen after
    go (inl lt) = begins_on q.seen before after (so_far k q lt at) grown
    go (inr le) =
        let here : k ≡ i = omega (arith, within, le) in
        let same : p ≡ q = is ∙ (ap (λ (n : ℕ). get_or passes n p) (sym here) ∙ get_or_from_slice_get passes k q p at) in
        subst (λ (r : Pass). IsPrefix r.seen after) same begun

-- of what two passes have seen the shorter begins the longer
pub less_begins : (history : List Entry) (passes : List Pass) (i k : ℕ) (p q : Pass) → AreOfOneHistory history passes → slice_get passes i ≡ Some p → slice_get passes k ≡ Some q → length p.seen ≤ length q.seen → IsPrefix p.seen q.seen
less_begins history passes i k p q one first second le =
    shorter_begins p.seen q.seen one.whole (one.each i p first) (one.each k q second) le

-- and so of what a pass has seen and the history
pub less_begins_history : (history : List Entry) (passes : List Pass) (i : ℕ) (p : Pass) → AreOfOneHistory history passes → slice_get passes i ≡ Some p → length p.seen ≤ length history → IsPrefix p.seen history
less_begins_history history passes i p one at le =
    shorter_begins p.seen history one.whole (one.each i p at) one.begins le
