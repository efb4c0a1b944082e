use Rattle.dine_arbiter.proofs.Lemmas.{refl, after_join}
use Rattle.dine_arbiter.proofs.arbiter.Arbiter.join.Goals as goal

pub invariant_of-self : goal.invariant_of-self
invariant_of-self c = rw c.seat_newcomer.ensures (after_join c.self.inside c.self.view_is c.self.invariant c.newcomer-newcomer.result c.newcomer-newcomer.ensures c.requires.accepted).kept

pub returns : goal.returns
returns c = record {
  task = c.newcomer-newcomer.ensures;
  done = rw (c.seat_newcomer.ensures, c.newcomer-newcomer.ensures) (after_join c.self.inside c.self.view_is c.self.invariant _ refl c.requires.accepted).done;
}
