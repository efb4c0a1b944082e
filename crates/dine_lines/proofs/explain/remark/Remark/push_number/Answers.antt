use Rattle.dine_lines.proofs.Digits.{told_number}
use Rattle.dine_lines.proofs.explain.remark.Remark.push_number.Goals as goal

pub invariant_of-self : goal.invariant_of-self
invariant_of-self c = told_number c.push_number.result _ _ c.args.number c.ranges.number.fits c.self.invariant c.push_number.ensures.ok c.push_number.ensures.err
