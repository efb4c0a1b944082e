use Rattle.std.proofs.Common.{ℕ, subst, ◌∙◌}
use Rattle.dine_front.specs.Verdicts.{IsVerdict}
use Rattle.dine_uses.proofs.Meals.{is_shared}
use Rattle.dine_uses.proofs.shared.share.Goals as goal

pub returns-in-Ok : goal.returns-in-Ok
returns-in-Ok g c =
    let closed = c.close.ensures in
    let opened = c.in_ok-front.ensures in
    is_shared c.args.opened.limits c.args.meals c.in-Ok.passes.items c.close.result.journal c.close.result.verdict c.in-Ok.ensures (closed.limits ∙ opened.limits) closed.history_of_one_thread
    (subst (λ (n : ℕ). IsVerdict n c.in-Ok.passes.items c.close.result.journal.entries c.close.result.verdict) (opened.passes ∙ c.requires.two) closed.verdict) closed.sum_of_the_shares
