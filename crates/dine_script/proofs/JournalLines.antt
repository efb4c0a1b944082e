-- The text of a journal is that of its lines.
use Rattle.std.proofs.Common.{◌≡◌, List, [], ◌∷◌, ◌++◌, map, refl, ap}
use Rattle.dine_words.specs.declared.entry.Entry.{Entry}
use Rattle.dine_words.specs.declared.limits.Limits.{Limits}
use Rattle.dine_words.specs.Texts.{entry_text, text_of_lines}
use Rattle.dine_words.specs.JournalText.{entry_line, entry_lines, header_line, journal_text}
use Rattle.dine_script.specs.Script.{journal_lines}

-- all entries' lines
entry_lines-all : (entries : List Entry) → text_of_lines (map entry_text entries) ≡ entry_lines entries
entry_lines-all [] = refl
entry_lines-all (e ∷ es) = ap (λ lines. entry_line e ++ lines) (entry_lines-all es)

-- all lines of a journal are its text
pub journal_lines-all : (limits : Limits) (entries : List Entry) → text_of_lines (journal_lines limits entries) ≡ journal_text limits entries
journal_lines-all limits entries = ap (λ lines. header_line limits ++ lines) (entry_lines-all entries)
