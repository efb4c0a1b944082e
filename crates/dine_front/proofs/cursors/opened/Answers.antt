use Rattle.std.proofs.Common.{◌<◌, arith, length-set, ◌∙◌, sym, subst}
use Rattle.dine_front.specs.Cursors.{Follows}
use Rattle.dine_front.proofs.Following.{more_here, one_starts, starts}
use Rattle.dine_front.proofs.cursors.opened.Goals as goal

-- one pass more was handed in, and has its cursor
pub loop-number-preserved : goal.loop-number-preserved
loop-number-preserved g c =
    let known = c.loop-number.invariant in
    let ps = c.args.passes.now in
    let k = c.loop-number.number in
    let fits : k < 16 = omega (arith, c.requires) in
    record {
      places = length-set c.loop-number.cursors k _ ∙ known.places;
      here = more_here ps k c.in-Some.at c.in-Some.ensures.some c.in-Some.ensures.within known.here;
      each = λ history. one_starts ps history c.loop-number.cursors k c.start.result (omega (arith, known.places, fits)) (subst (Follows ps history 0 k) (sym c.start.ensures) (starts ps history k c.in-Some.at c.in-Some.ensures.within c.in-Some.ensures.some)) (known.each history);
    }

-- all have theirs
pub returns-clause-ok : goal.returns-clause-ok
returns-clause-ok g c = λ history. record {
  places = c.loop-number.invariant.places;
  each = λ k lt. c.loop-number.invariant.each history k (omega (arith, c.loop-number-test.false));
}
