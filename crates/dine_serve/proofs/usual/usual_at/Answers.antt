use Rattle.dine_serve.proofs.UsualForms.{numbered-asks, order-asks}
use Rattle.dine_serve.proofs.usual.usual_at.Goals as goal

-- requests have no numbers
pub returns-then-not-is_numbered : goal.returns-then-not-is_numbered
returns-then-not-is_numbered c = order-asks _ _ _ _ _ _ c.if-not-is_numbered.true c.in_ok-pass.ensures c.in_ok-deed.ensures

-- they have
pub returns : goal.returns
returns c = numbered-asks _ _ _ _ _ _ _ _ c.if-not-is_numbered.false c.in_ok-pass.ensures c.in_ok-number.ensures c.in_ok-deed-2.ensures
