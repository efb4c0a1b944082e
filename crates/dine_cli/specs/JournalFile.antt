-- What is seen of the file of a journal that is gone on with.
use Rattle.std.specs.Prelude.{ℕ, Bool, false, List, [], Option, Some, None}
use Rattle.dine_cli.specs.declared.journal_file.JournalFile.{JournalFile}

-- what reads of a file will give, or of no file, which is empty
abbrev pub remaining_in : {F : Type 0} → (F → Option (List ℕ)) → Option F → Option (List ℕ)
remaining_in remaining (Some file) = remaining file
remaining_in remaining None = Some []

-- the mark of a file, or of no file, whose reads don't fail
abbrev pub mark_in : {F : Type 0} → (F → Bool) → Option F → Bool
mark_in mark (Some file) = mark file
mark_in mark None = false

-- what reads of it will give
abbrev pub remaining_of : {F : Type 0} → (F → Option (List ℕ)) → JournalFile F → Option (List ℕ)
remaining_of remaining journal = remaining_in remaining journal.file

-- its mark
abbrev pub mark_of : {F : Type 0} → (F → Bool) → JournalFile F → Bool
mark_of mark journal = mark_in mark journal.file
