use Rattle.std.proofs.Common.{arith}
use Rattle.dine_words.proofs.Numbers.{appended_digits}
use Rattle.dine_words.proofs.number.put_four.Goals as goal

pub returns-else-number-lt1000 : goal.returns-else-number-lt1000
returns-else-number-lt1000 c =
    let large = c.if-number-lt1000.false in
    let few = c.requires.few in
    appended_digits 3 c.args.out.now c.put_three-else-number-lt1000.new.out c.put_digit.new.out c.args.number (omega arith) (omega arith) c.put_three-else-number-lt1000.ensures c.put_digit.ensures.text c.put_digit.ensures.len c.put_digit.ensures.capacity
