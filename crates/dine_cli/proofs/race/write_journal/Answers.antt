use Rattle.std.proofs.Common.{◌≡◌, rules}
use Rattle.dine_journal.specs.declared.text.TextFault.TheVariants.{Memory, Write}
use Rattle.dine_cli.proofs.JournalLines.{after_failed_write, after_want_of_memory}
use Rattle.dine_cli.proofs.race.write_journal.Goals as goal

pub returns-in_err-write_text-clause-memory : goal.returns-in_err-write_text-clause-memory
returns-in_err-write_text-clause-memory g c said =
    let failed = c.in_err-write_text in
    let is : failed.field-0.0 ≡ Memory = search rules in
    after_want_of_memory _ _ c.args.journal.now failed.field-0.0 is failed.ensures.text

pub returns-in_err-write_text-clause-write : goal.returns-in_err-write_text-clause-write
returns-in_err-write_text-clause-write g c said =
    let failed = c.in_err-write_text in
    let is : failed.field-0.0 ≡ Write = search rules in
    after_failed_write _ _ c.args.journal.now failed.field-0.0 is failed.ensures.text
