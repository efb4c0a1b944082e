use Rattle.std.proofs.Common.{arith, ap, ◌∙◌, length}
use Rattle.dine_front.specs.Passes.{Pass}
use Rattle.dine_front.proofs.Following.{differs_here, left_here, more_settled, settled_here}
use Rattle.dine_front.proofs.cursors.first_parted.Goals.{then-cursor-via-then-cursor, then-cursor-via-else-cursor+then-cursor-len}
use Rattle.dine_front.proofs.cursors.first_parted.Goals as goal

-- the receipts of this pass part, or one is left
pub returns-then-cursor-clause-some : goal.returns-then-cursor-clause-some
returns-then-cursor-clause-some g c =
    let es = c.args.history.now in
    let ps = c.args.passes.now in
    let k = c.loop-number.number in
    let p = c.index-passes-cursor.result in
    let f = c.requires.walked.each k c.loop-number-test.true _ in
    let len = ap length (c.receipts-receipts.ensures ∙ ap (λ (q : Pass). q.receipts) c.index-passes-cursor.is) in
    differs_here c.args.count ps es c.args.cursors.now k _ p c.requires.walked c.loop-number-test.true c.loop-number.invariant f
    (elim c.then-cursor.branch [
      | then-cursor-via-then-cursor w ↦ (f.compared p).part w.if-cursor.true
      | then-cursor-via-else-cursor+then-cursor-len w ↦ left_here ps es k _ p f w.if-cursor.false (omega (arith, len))
    ])

-- one pass more is settled
pub loop-number-preserved : goal.loop-number-preserved
loop-number-preserved g c =
    let p = c.index-passes-cursor.result in
    let f = c.requires.walked.each _ c.loop-number-test.true _ in
    let len = ap length (c.receipts-receipts.ensures ∙ ap (λ (q : Pass). q.receipts) c.index-passes-cursor.is) in
    more_settled _ _ _ c.loop-number.invariant (settled_here _ _ _ _ p f c.if-cursor.false (omega (arith, len)))
