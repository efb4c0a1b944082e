-- What is told of the mark of a journal's writer, before and after.
use Rattle.std.specs.Prelude.{◌≡◌, Bool, true, Result, IsErrOf, OnOk}
use Rattle.dine_journal.specs.declared.text.TextFault.{TextFault}
use Rattle.dine_journal.specs.declared.text.TextFault.TheVariants.{Memory, Write}

-- the writer is marked where a write failed, and else its mark is as it was
pub record IsWriterMarked {A : Type 0} (answer : Result A TextFault) (old new : Bool) : Type 0 where
  pub unmarked : OnOk answer (new ≡ old)
  pub memory : IsErrOf answer Memory → new ≡ old
  pub failed : IsErrOf answer Write → new ≡ true
