use Rattle.std.proofs.Common.{◌<◌, arith, sym, ap, ◌∙◌, length}
use Rattle.dine_front.specs.Passes.{Pass}
use Rattle.dine_front.proofs.Handed.{not_found_to}
use Rattle.dine_front.proofs.Following.{found_here}
use Rattle.dine_front.proofs.cursors.place_of.Goals as goal

-- this pass is the first with the number
pub returns-then-number-clause-some : goal.returns-then-number-clause-some
returns-then-number-clause-some g c =
    let ps = c.args.passes.now in
    let lt : c.loop-at.at < length ps = omega arith in
    let here = ap (λ (q : Pass). q.number) (sym c.index-passes-at.is) ∙ (sym c.number.ensures ∙ c.if-number.true) in
    found_here c.args.number ps c.loop-at.at c.index-passes-at.result lt c.loop-at.invariant here

-- no pass up to this one has the number
pub loop-at-preserved : goal.loop-at-preserved
loop-at-preserved g c =
    let ps = c.args.passes.now in
    let lt : c.loop-at.at < length ps = omega arith in
    not_found_to c.args.number ps c.loop-at.at c.index-passes-at.result lt c.loop-at.invariant
    (λ e. c.if-number.false (c.number.ensures ∙ (ap (λ (q : Pass). q.number) c.index-passes-at.is ∙ e)))
