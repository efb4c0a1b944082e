use Rattle.std.proofs.Common.{take, sym, ap, ◌∙◌}
use Rattle.std.proofs.lemmas.List.{take_rest}
use Rattle.dine_lines.proofs.name.eight_at.Goals as goal

pub returns-in-Some : goal.returns-in-Some
returns-in-Some c =
    sym c.half.ensures ∙ c.in-Some.ensures.cases.same ∙ ap (take 8) (take_rest c.args.text.now c.args.from)
