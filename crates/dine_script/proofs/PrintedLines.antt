-- What is printed of a script's lines is its output.
use Rattle.std.proofs.Common.{◌≡◌, ℕ, List, [], ◌∷◌, ◌++◌, map, Option, Some, None, Result, Ok, Err, refl, sym, ap, ◌∙◌}
use Rattle.std.proofs.lemmas.List.{map-append}
use Rattle.dine_words.specs.declared.limits.Limits.{Limits}
use Rattle.dine_table.specs.Table.{Table}
use Rattle.dine_words.specs.Texts.{entry_text, header_text, text_of_lines}
use Rattle.dine_words.specs.Versions.{written_version}
use Rattle.dine_lines.specs.declared.line_fault.LineFault.{LineFault}
use Rattle.dine_lines.specs.Lines.{lines_of}
use Rattle.dine_lines.specs.declared.print.Print.{Print}
use Rattle.dine_lines.specs.declared.print.Print.TheVariants.{Replies, Journal}
use Rattle.dine_script.specs.declared.command.Command.{Command}
use Rattle.dine_script.specs.declared.command.Command.TheVariants as command
use Rattle.dine_script.specs.Commands.{reading_of}
use Rattle.dine_script.specs.Printed.{opening_lines, printed_by, printed_from, printed_of}
use Rattle.dine_script.specs.Script.{Session, after_reading, answer_of, entries_by, entries_from, entries_of, opening, output_from, output_lines, output_of, script_history, script_output}
use Rattle.dine_script.proofs.JournalLines.{journal_lines-all}

-- a command's lines are its answer, or the lines of its entries
printed_by-both : (table : Table) (asked : Command) → (printed_by Replies table asked ≡ answer_of table asked ∷ []) × (printed_by Journal table asked ≡ map entry_text (entries_by table asked))
printed_by-both table (command.Join name) = (refl, refl)
printed_by-both table (command.Call asked) = (refl, refl)
printed_by-both table (command.State t) = (refl, refl)
printed_by-both table (command.Neighbours t) = (refl, refl)
printed_by-both table command.Next = (refl, refl)

-- ---- the answers

-- of one line
printed_of-replies : (s : Session) (r : Result (Option Command) LineFault) → printed_of Replies s r ≡ output_of s r
printed_of-replies s (Ok None) = refl
printed_of-replies s (Ok (Some asked)) = (printed_by-both s.table asked).0
printed_of-replies s (Err reason) = refl

-- of many
printed_from-replies : (s : Session) (lines : List (List ℕ)) → printed_from Replies s lines ≡ output_from s lines
printed_from-replies s [] = refl
printed_from-replies s (line ∷ lines) =
    let reading = reading_of s.names line in
    ap (λ l. l ++ printed_from Replies (after_reading s reading) lines) (printed_of-replies s reading)
    ∙ ap (λ l. output_of s reading ++ l) (printed_from-replies (after_reading s reading) lines)

-- ---- the journal

-- of one line
printed_of-journal : (s : Session) (r : Result (Option Command) LineFault) → printed_of Journal s r ≡ map entry_text (entries_of s r)
printed_of-journal s (Ok None) = refl
printed_of-journal s (Ok (Some asked)) = (printed_by-both s.table asked).1
printed_of-journal s (Err reason) = refl

-- of many
printed_from-journal : (s : Session) (lines : List (List ℕ)) → printed_from Journal s lines ≡ map entry_text (entries_from s lines)
printed_from-journal s [] = refl
printed_from-journal s (line ∷ lines) =
    let reading = reading_of s.names line in
    let next = after_reading s reading in
    ap (λ l. l ++ printed_from Journal next lines) (printed_of-journal s reading)
    ∙ ap (λ l. map entry_text (entries_of s reading) ++ l) (printed_from-journal next lines)
    ∙ sym (map-append entry_text (entries_of s reading) (entries_from next lines))

-- ---- the whole script

-- its output lines are printed one after the other
pub lines-printed : (print : Print) (limits : Limits) (text : List ℕ) → opening_lines print limits ++ printed_from print (opening limits) (lines_of text) ≡ output_lines print limits text
lines-printed Replies limits text = printed_from-replies (opening limits) (lines_of text)
lines-printed Journal limits text =
    ap (λ l. header_text written_version limits ∷ l) (printed_from-journal (opening limits) (lines_of text))

-- and are its output
pub text-printed : (print : Print) (limits : Limits) (text : List ℕ) → text_of_lines (output_lines print limits text) ≡ script_output print limits text
text-printed Replies limits text = refl
text-printed Journal limits text = journal_lines-all limits (script_history limits text)
