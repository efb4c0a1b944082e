-- What was written of the text of a journal is whole lines of it, or a first part.
use Rattle.std.proofs.Common.{◌≡◌, ℕ, zero, suc, List, [], ◌∷◌, ◌++◌, take, map, Option, Err, refl, ap, subst}
use Rattle.std.specs.Io.KnownBytes.{Appends}
use Rattle.dine_words.specs.declared.entry.Entry.{Entry}
use Rattle.dine_words.specs.declared.limits.Limits.{Limits}
use Rattle.dine_words.specs.Texts.{entry_text, text_of_lines}
use Rattle.dine_journal.specs.JournalText.{WritesText, entry_line, entry_lines, first_lines, header_line, journal_text}
use Rattle.dine_journal.specs.declared.text.TextFault.{TextFault}
use Rattle.dine_journal.specs.declared.text.TextFault.TheVariants.{Memory, Write}
use Rattle.dine_journal.specs.Kept.{Journal}
use Rattle.dine_script.specs.Script.{journal_lines}
use Rattle.dine_streams.specs.Written.{AppendsLinesOf, AppendsPartOf}

-- the first entries' lines
entry_lines-take : (n : ℕ) (entries : List Entry) → entry_lines (take n entries) ≡ text_of_lines (take n (map entry_text entries))
entry_lines-take zero entries = refl
entry_lines-take (suc n) [] = refl
entry_lines-take (suc n) (e ∷ es) = ap (λ lines. entry_line e ++ lines) (entry_lines-take n es)

-- the first lines of a journal's text
first_lines-take : (n : ℕ) (limits : Limits) (entries : List Entry) → first_lines n limits entries ≡ text_of_lines (take n (journal_lines limits entries))
first_lines-take zero limits entries = refl
first_lines-take (suc n) limits entries = ap (λ lines. header_line limits ++ lines) (entry_lines-take n entries)

-- its first lines are whole
in_whole_lines : (a b : Option (List ℕ)) (n : ℕ) (limits : Limits) (entries : List Entry) → Appends a b (first_lines n limits entries) → AppendsLinesOf a b (journal_lines limits entries)
in_whole_lines a b n limits entries wrote = (n, subst (Appends a b) (first_lines-take n limits entries) wrote)

-- after want of memory
pub after_want_of_memory : (a b : Option (List ℕ)) (journal : Journal) (fault : TextFault) → fault ≡ Memory → WritesText {A = Unit {0}} a b journal (Err fault) → AppendsLinesOf a b (journal_lines journal.limits journal.entries)
after_want_of_memory a b journal fault is wrote =
    let found : WritesText {A = Unit {0}} a b journal (Err Memory) = subst (λ f. WritesText {A = Unit {0}} a b journal (Err f)) is wrote in
    in_whole_lines a b found.0 journal.limits journal.entries found.1

-- after a failed write
pub after_failed_write : (a b : Option (List ℕ)) (journal : Journal) (fault : TextFault) → fault ≡ Write → WritesText {A = Unit {0}} a b journal (Err fault) → AppendsPartOf a b (journal_text journal.limits journal.entries)
after_failed_write a b journal fault is wrote = subst (λ f. WritesText {A = Unit {0}} a b journal (Err f)) is wrote
