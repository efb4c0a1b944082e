-- The edges of the records of a slot, lawful whatever state its task is taken to be in; and which end of its record the slot is.
use Rattle.dine_arbiter.proofs.Words.{is_end, is_lawful, ForkRecord, Seat, seat_state, State, ◌≡◌, ℕ, Bool, true, false, cond, eqb, List, Option, inl, inr, sym, ◌∙◌, arith, eqb-true, or_cases, false≢true}
use Rattle.dine_arbiter.specs.Edge.{State}

-- the slot is the second end, where it isn't the first
pub second-end : (slot : ℕ) (r : ForkRecord) → is_end slot r ≡ true → eqb slot r.first ≡ false → slot ≡ r.second
second-end slot r end e = elim (or_cases (eqb slot r.first) (eqb slot r.second) end) [ inl f ↦ absurd (false≢true (sym e ∙ f)) | inr f ↦ eqb-true slot r.second f ]

module _ (own : State) (seats : List (Option Seat)) (slot : ℕ) (r : ForkRecord) where
  -- the state of the first end of a record, that of the slot being taken to be this
  abbrev pub first_state : State
  first_state = cond (eqb slot r.first) own (seat_state seats r.first)

  -- and that of the second end
  abbrev pub second_state : State
  second_state = cond (eqb slot r.first) (seat_state seats r.second) own

  -- the edge of a record of the slot is lawful by them
  abbrev pub is_lawful_beside : Bool
  is_lawful_beside = is_lawful r.fork first_state second_state

  -- they are those of the seats where the slot's is
  pub states-are : seat_state seats slot ≡ own → is_end slot r ≡ true → (first_state ≡ seat_state seats r.first) × (second_state ≡ seat_state seats r.second)
  states-are is end = (grind (arith, eqb-true slot r.first), grind (arith, second-end slot r end))
