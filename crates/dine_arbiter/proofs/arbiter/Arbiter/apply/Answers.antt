use Rattle.dine_arbiter.proofs.Lemmas.{sym, ◌∙◌, refused, early_refused}
use Rattle.dine_arbiter.proofs.arbiter.Arbiter.apply.Goals as goal

pub returns-in-Some : goal.returns-in-Some
returns-in-Some c = refused c.self.inside c.self.view_is c.self.invariant c.args.call c.in-Some.refusal (early_refused c.args.self.now.table c.args.call c.in-Some.refusal (sym c.early_refusal_of.ensures ∙ c.in-Some.is))
