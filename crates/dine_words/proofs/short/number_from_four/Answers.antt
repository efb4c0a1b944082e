use Rattle.std.proofs.Common.{sym, arith}
use Rattle.std.proofs.lemmas.List.{take_rest}
use Rattle.dine_words.proofs.Numbers.{digits_after-goes_on, number_before}
use Rattle.dine_words.proofs.short.number_from_four.Goals as goal

pub returns-then-sixth-end : goal.returns-then-sixth-end
returns-then-sixth-end c =
    let bytes = c.args.bytes.now in
    let five = digits_after-goes_on 0 c.args.four 4 bytes (omega arith) (sym c.if-not-is_ascii_digit.ensures.value) c.requires.goes_on in
    rw (c.from.ensures, take_rest bytes 5) (number_before c.args.most c.args.end _ 5 bytes (omega arith) c.if-sixth-end.true c.requires.other c.requires.begins five (omega arith))
