-- The numbers by which refusals are called.
use Rattle.std.specs.Prelude.{ℕ}
use Rattle.dine_words.specs.declared.call.Refusal.{Refusal}
use Rattle.dine_words.specs.declared.call.Refusal.TheVariants.{Full, Unknown, Same, Already, Apart, BothEating, NoRoom, WrongState, NotYet}

-- the number of a refusal. A wrong state has one number, whatever state was found
abbrev pub number_of_refusal : Refusal → ℕ
number_of_refusal (WrongState found) = 8
number_of_refusal Full = 1
number_of_refusal Unknown = 2
number_of_refusal Same = 3
number_of_refusal Already = 4
number_of_refusal Apart = 5
number_of_refusal BothEating = 6
number_of_refusal NoRoom = 7
number_of_refusal NotYet = 9
