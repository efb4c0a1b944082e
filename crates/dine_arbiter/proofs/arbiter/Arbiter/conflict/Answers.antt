use Rattle.dine_arbiter.proofs.After.{may_link, after_conflict}
use Rattle.dine_arbiter.proofs.arbiter.Arbiter.conflict.Goals as goal

pub link_between-self-inside-requires : goal.link_between-self-inside-requires
link_between-self-inside-requires c = may_link c.self.inside c.self.view_is c.self.invariant c.args.first c.args.second c.requires.accepted

pub invariant_of-self : goal.invariant_of-self
invariant_of-self c = rw c.link_between-self-inside.ensures.book.1 (after_conflict c.self.inside c.self.view_is c.self.invariant c.args.first c.args.second c.link_between-self-inside.ensures.book.0 c.requires.accepted).kept

pub returns : goal.returns
returns c = rw (c.link_between-self-inside.ensures.messages, c.link_between-self-inside.ensures.book.1) (after_conflict c.self.inside c.self.view_is c.self.invariant c.args.first c.args.second c.link_between-self-inside.ensures.book.0 c.requires.accepted).done
