use Rattle.std.proofs.Common.{◌/◌, arith}
use Rattle.dine_words.proofs.Numbers.{appended_digits, written_digit}
use Rattle.dine_words.proofs.number.put_two.Goals as goal

pub returns-then-number-lt10 : goal.returns-then-number-lt10
returns-then-number-lt10 c =
    let digit = c.put_digit.ensures in
    record {
      is = written_digit c.args.out.now.items _ c.args.number c.if-number-lt10.true digit.text;
      len = omega (arith, digit.len);
      capacity = digit.capacity;
    }

pub returns-else-number-lt10 : goal.returns-else-number-lt10
returns-else-number-lt10 c =
    let large = c.if-number-lt10.false in
    let few = c.requires.few in
    let tens = c.put_digit-else-number-lt10.ensures in
    let ones = c.put_digit-else-number-lt10-2.ensures in
    appended_digits 1 c.args.out.now c.put_digit-else-number-lt10.new.out c.put_digit-else-number-lt10-2.new.out c.args.number (omega arith) (omega arith)
    (record {
      is = written_digit _ _ (c.args.number / 10) (omega arith) tens.text;
      len = omega (arith, tens.len);
      capacity = tens.capacity;
    })
    ones.text ones.len ones.capacity
