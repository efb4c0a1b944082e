-- The id of a record, or none, as one number.
use Rattle.std.specs.Prelude.{◌≡◌, ℕ, ◌==◌, if◌then◌else◌, Option, Some, None}
use Rattle.std.proofs.Common.{inl, inr, refl, sym}
use Rattle.std.proofs.lemmas.Bool.{cases_Bool, eqb-true}
use Rattle.dine_forks.specs.declared.record.ForkId.{ForkId}

-- the id that a number stands for: the last number of four bytes stands for none
abbrev pub link_of : ℕ → Option ForkId
link_of number = if number == 4294967295 then None else Some record { number = number }

-- the number that stands for it
abbrev pub number_of : Option ForkId → ℕ
number_of None = 4294967295
number_of (Some id) = id.number

-- the number of the id, if there is one, and else another
abbrev pub number_or : ℕ → Option ForkId → ℕ
number_or none None = none
number_or none (Some id) = id.number

-- the number of what a number stands for is that number
pub number-link_of : (number : ℕ) → number_of (link_of number) ≡ number
number-link_of number =
    elim (cases_Bool (number == 4294967295)) [ inl e ↦ rw e (sym (eqb-true number 4294967295 e)) | inr e ↦ rw e refl ]
