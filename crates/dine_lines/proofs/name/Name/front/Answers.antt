use Rattle.std.proofs.Common.{◌<◌, sym, ap, ◌∙◌, arith}
use Rattle.dine_lines.specs.Names.{is_name}
use Rattle.dine_lines.proofs.Padded.{is_name-beyond}
use Rattle.dine_lines.proofs.name.Name.front.Goals as goal

pub returns-then-count-len-clause-exactly : goal.returns-then-count-len-clause-exactly
returns-then-count-len-clause-exactly c =
    let less : c.letters_at_once-count.result.1 < c.args.len = omega arith in
    sym (is_name-beyond c.args.text.now _ c.letters_at_once-count.result.1 c.args.len less c.requires c.letters_at_once-count.ensures)

pub returns-in-Some-clause-exactly : goal.returns-in-Some-clause-exactly
returns-in-Some-clause-exactly c = sym (ap is_name (sym c.in-Some.ensures.letters) ∙ c.in-Some.ensures.name)
