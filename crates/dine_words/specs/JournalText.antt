-- The text of a journal.
use Rattle.std.specs.Prelude.{◌≡◌, ◌≢◌, ℕ, zero, suc, ◌+◌, ◌≤◌, List, [], ◌∷◌, ◌++◌, codes, take, IsOk, OnErr, OnOk, Result, Vec, vec_capacity, vec_len}
use Rattle.std.specs.List.{AllByRecursion}
use Rattle.dine_words.specs.declared.call.Call.{Call}
use Rattle.dine_words.specs.declared.call.Reply.{Reply}
use Rattle.dine_words.specs.declared.entry.Entry.{Entry}
use Rattle.dine_words.specs.declared.limits.Limits.{Limits}
use Rattle.dine_words.specs.declared.version.JournalVersion.{JournalVersion}
use Rattle.dine_words.specs.Texts.{IsEntryOf, entry_text, header_text}
use Rattle.dine_words.specs.Versions.{AllowsLimits, written_version}

-- the first line of a journal of a version, with its line feed
abbrev pub header_line_of : JournalVersion → Limits → List ℕ
header_line_of version limits = header_text version limits ++ 10 ∷ []

-- the first line of a journal that is written, with its line feed
abbrev pub header_line : Limits → List ℕ
header_line limits = header_line_of written_version limits

-- the line of an entry, with its line feed
abbrev pub entry_line : Entry → List ℕ
entry_line e = entry_text e ++ 10 ∷ []

-- a writer of the entry's line appended it, or nothing, and appended it where so many bytes more had room
pub record WritesLineOf
    {A Z E : Type 0} (pass : ℕ) (call : Call) (reply : Reply) (most : ℕ) (old new : Vec ℕ Z) (result : Result A E) : Type 0 where
  pub ok : OnOk result (new.items ≡ old.items ++ entry_text (record { pass = pass; call = call; reply = reply }) ++ codes "\n")
  pub err : OnErr result (new.items ≡ old.items)
  pub room : vec_len old + most ≤ vec_capacity old → IsOk result

-- the lines of entries, one after the other
abbrev pub entry_lines : List Entry → List ℕ
entry_lines [] = []
entry_lines (e ∷ es) = entry_line e ++ entry_lines es

-- the text of a journal of a version: the header's line, and then a line for each entry
abbrev pub text_of_version : JournalVersion → Limits → List Entry → List ℕ
text_of_version version limits entries = header_line_of version limits ++ entry_lines entries

-- the text of a journal, as it is written
abbrev pub journal_text : Limits → List Entry → List ℕ
journal_text limits entries = text_of_version written_version limits entries

-- the first lines of that text, this many
abbrev pub first_lines : ℕ → Limits → List Entry → List ℕ
first_lines zero limits entries = []
first_lines (suc n) limits entries = journal_text limits (take n entries)

-- the numbers of the entries fit their types, and their calls are the version's
abbrev pub AllFit : JournalVersion → List Entry → Type 0
AllFit version entries = AllByRecursion (IsEntryOf version) entries

-- the text doesn't begin with a header's line, of whatever version
abbrev pub HasNoHeader : List ℕ → Type 0
HasNoHeader text =
    (version : JournalVersion) (limits : Limits) (rest : List ℕ) → AllowsLimits version limits
    → text ≢ header_line_of version limits ++ rest

-- the text doesn't begin with the line of an entry that the version has
abbrev pub HasNoEntry : JournalVersion → List ℕ → Type 0
HasNoEntry version text = (e : Entry) (rest : List ℕ) → IsEntryOf version e → text ≢ entry_line e ++ rest
