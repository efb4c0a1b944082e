use Rattle.std.proofs.Common.{arith}
use Rattle.dine_words.proofs.Numbers.{appended_digits}
use Rattle.dine_words.proofs.number.put_three.Goals as goal

pub returns-else-number-lt100 : goal.returns-else-number-lt100
returns-else-number-lt100 c =
    let large = c.if-number-lt100.false in
    let few = c.requires.few in
    appended_digits 2 c.args.out.now c.put_two-else-number-lt100.new.out c.put_digit.new.out c.args.number (omega arith) (omega arith) c.put_two-else-number-lt100.ensures c.put_digit.ensures.text c.put_digit.ensures.len c.put_digit.ensures.capacity
