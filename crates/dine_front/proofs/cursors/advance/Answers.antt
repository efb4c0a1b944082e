use Rattle.std.proofs.Common.{arith}
use Rattle.dine_words.specs.declared.call.Call.{Call}
use Rattle.dine_words.specs.declared.call.Call.TheVariants.{Join}
use Rattle.dine_words.specs.declared.call.Reply.TheVariants.{Done}
use Rattle.dine_words.specs.declared.entry.Entry.{Entry}
use Rattle.dine_journal.specs.declared.hall.Answer.{Answer}
use Rattle.dine_front.proofs.Histories.{no_receipt, other_receipt}
use Rattle.dine_front.proofs.Following.{goes_on_own, parts_own}
use Rattle.dine_front.proofs.cursors.advance.Goals.{else-matched-len-via-then-matched-len+else-is_for, else-matched-len-via-else-matched-len}
use Rattle.dine_front.proofs.cursors.advance.Goals as goal

-- an entry, where one has to be named for a place that is within the history
any_entry : Entry
any_entry = record { pass = 0; call = Join; reply = Done }

-- a receipt, where one has to be named for a place that is within the receipts
any_receipt : Call × Answer
any_receipt = (Join, record { place = 0; reply = Done })

-- there is no receipt for the entry
pub returns-else-matched-len-clause-behind : goal.returns-else-matched-len-clause-behind
returns-else-matched-len-clause-behind c =
    let n = c.args.cursor.now.matched in
    parts_own c.args.place c.args.number c.args.history.now c.args.receipts.now c.args.cursor.now any_entry c.requires.within (c.requires.own any_entry) c.if-cursor.false c.requires.before
    (elim c.else-matched-len.branch [
      | else-matched-len-via-then-matched-len+else-is_for w ↦
          other_receipt c.args.receipts.now n any_receipt _ (omega arith) (w.is_for.ensures.is_not w.if-is_for.false any_receipt any_entry)
      | else-matched-len-via-else-matched-len w ↦ no_receipt c.args.receipts.now n _ (omega arith)
    ])

-- the next receipt is the one for it
pub returns-then-is_for-clause-behind : goal.returns-then-is_for-clause-behind
returns-then-is_for-clause-behind c =
    goes_on_own c.args.place c.args.number c.args.history.now c.args.receipts.now c.args.cursor.now any_entry any_receipt c.requires.within (c.requires.own any_entry) c.if-cursor.false c.requires.before
    (omega arith) (c.is_for.ensures.is c.if-is_for.true any_receipt any_entry)
