use Rattle.std.proofs.Common.{sym, arith}
use Rattle.std.proofs.lemmas.Grind.{common_steps}
use Rattle.dine_words.proofs.Numbers.{digits_from-all, digits_from-stop, digits_from-too_large}
use Rattle.dine_words.proofs.read.digits_from.Goals as goal

pub returns-then-not-is_ascii_digit : goal.returns-then-not-is_ascii_digit
returns-then-not-is_ascii_digit c =
    let stopped = digits_from-stop c.args.first c.args.bytes.now c.loop-index.number c.loop-index.index c.loop-index-test.true c.loop-index.invariant.small c.loop-index.invariant.goes_on (sym c.if-not-is_ascii_digit.ensures.value) in
    grind (arith, common_steps)

pub returns-in-None : goal.returns-in-None
returns-in-None c =
    digits_from-too_large c.args.first c.args.bytes.now c.loop-index.number c.loop-index.index c.loop-index-test.true c.in-None.ensures.none c.loop-index.invariant.goes_on (sym c.if-not-is_ascii_digit.ensures.value)

pub returns : goal.returns
returns c =
    let all = digits_from-all c.args.first c.args.bytes.now c.loop-index.number c.loop-index.index c.loop-index-test.false c.loop-index.invariant.small c.loop-index.invariant.goes_on in
    grind (arith, common_steps)
