use Rattle.std.proofs.Common.{take, sym, take-append-drop, arith}
use Rattle.std.proofs.lemmas.List.{length-take-le, take_rest}
use Rattle.dine_lines.proofs.short_line.after_blanks.Goals as goal

pub returns : goal.returns
returns c =
    let text = c.args.text.now in
    let gap = c.in_ok-gap.gap in
    let found = c.in_ok-gap.ensures in
    record {
      gap = take gap text;
      blanks = found.blanks;
      few = omega (arith, found.few, length-take-le gap text found.within);
      is = rw (take_rest text gap) (sym (take-append-drop gap text));
    }
