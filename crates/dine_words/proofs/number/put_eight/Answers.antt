use Rattle.std.proofs.Common.{◌/◌, arith}
use Rattle.dine_words.proofs.Numbers.{appended_digits}
use Rattle.dine_words.proofs.number.put_eight.Goals as goal

-- each digit follows those of a tenth of the number that it ends
pub returns : goal.returns
returns c =
    let n = c.args.number in
    let some = c.requires.some in
    let few = c.requires.few in
    let before = c.args.out.now in
    let thousands = appended_digits 4 before c.put_four.new.out c.put_digit.new.out (n / 10 / 10 / 10) (omega arith) (omega arith) c.put_four.ensures c.put_digit.ensures.text c.put_digit.ensures.len c.put_digit.ensures.capacity in
    let hundreds = appended_digits 5 before c.put_digit.new.out c.put_digit-2.new.out (n / 10 / 10) (omega arith) (omega arith) thousands c.put_digit-2.ensures.text c.put_digit-2.ensures.len c.put_digit-2.ensures.capacity in
    let tens = appended_digits 6 before c.put_digit-2.new.out c.put_digit-3.new.out (n / 10) (omega arith) (omega arith) hundreds c.put_digit-3.ensures.text c.put_digit-3.ensures.len c.put_digit-3.ensures.capacity in
    appended_digits 7 before c.put_digit-3.new.out c.put_digit-4.new.out n (omega arith) (omega arith) tens c.put_digit-4.ensures.text c.put_digit-4.ensures.len c.put_digit-4.ensures.capacity
