-- The calls that a script makes have the table's replies.
use Rattle.std.proofs.Common.{ℕ, List, [], ◌∷◌, ◌++◌, Option, Some, None, Result, Ok, Err, refl}
use Rattle.dine_words.specs.declared.entry.Entry.{Entry}
use Rattle.dine_table.specs.History.{IsLegalFrom}
use Rattle.dine_lines.specs.declared.line_fault.LineFault.{LineFault}
use Rattle.dine_script.specs.declared.command.Command.{Command}
use Rattle.dine_script.specs.declared.command.Command.TheVariants as command
use Rattle.dine_script.specs.Commands.{reading_of}
use Rattle.dine_script.specs.Script.{Session, after_reading, entries_from, entries_of}

-- the calls of one line, and those after it
legal-onto : (s : Session) (r : Result (Option Command) LineFault) (entries : List Entry) → IsLegalFrom (after_reading s r).table entries → IsLegalFrom s.table (entries_of s r ++ entries)
legal-onto s (Ok None) entries legal = legal
legal-onto s (Ok (Some (command.Join name))) entries legal = (refl, legal)
legal-onto s (Ok (Some (command.Call asked))) entries legal = (refl, legal)
legal-onto s (Ok (Some (command.State t))) entries legal = legal
legal-onto s (Ok (Some (command.Neighbours t))) entries legal = legal
legal-onto s (Ok (Some command.Next)) entries legal = legal
legal-onto s (Err reason) entries legal = legal

-- those of many
pub legal-lines : (s : Session) (lines : List (List ℕ)) → IsLegalFrom s.table (entries_from s lines)
legal-lines s [] = tt
legal-lines s (line ∷ lines) =
    let reading = reading_of s.names line in
    let next = after_reading s reading in
    legal-onto s reading (entries_from next lines) (legal-lines next lines)
