use Rattle.dine_lines.specs.Lines.{is_blank}
use Rattle.dine_lines.proofs.Lanes.{all_in}
use Rattle.dine_lines.proofs.short_line.few_blanks.Goals as goal

pub returns-then-gap-lt-AT_ONCE-clause-blanks : goal.returns-then-gap-lt-AT_ONCE-clause-blanks
returns-then-gap-lt-AT_ONCE-clause-blanks c =
    let gap = c.blanks_len-gap in
    all_in is_blank c.args.text.now gap.result gap.ensures.bound gap.ensures.before
