use Rattle.dine_arbiter.proofs.Lemmas.{◌&&◌, Bool, not, refl, arith, common_steps, same_state, Fork, fork_sent, has_both, holder, messages_left, requester, token_sent, sends}
use Rattle.dine_arbiter.specs.Edge.{Hungry, State, Thinking}
use Rattle.dine_arbiter.proofs.edge.sent_on.Goals as goal

pub returns-in-true-true-Hungry-default : goal.returns-in-true-true-Hungry-default
unfolding messages_left
returns-in-true-true-Hungry-default c =
    sends (λ f x y. has_both f && (f.dirty && same_state Hungry (requester f x y))) (λ f. token_sent (fork_sent f)) 2 refl c.args.fork c.args.first c.args.second (grind (arith, common_steps))

-- the fork is dirty, at the end without the token, and the other end is hungry
abbrev is_asked : State → Fork → State → State → Bool
is_asked owner f x y = not (has_both f) && (f.dirty && (same_state Hungry (requester f x y) && same_state owner (holder f x y)))

pub returns-in-false-true-Hungry-Thinking : goal.returns-in-false-true-Hungry-Thinking
unfolding messages_left
returns-in-false-true-Hungry-Thinking c = sends (is_asked Thinking) (λ f. token_sent (fork_sent f)) 2 refl c.args.fork c.args.first c.args.second (grind (arith, common_steps))

pub returns-in-false-true-Hungry-Hungry : goal.returns-in-false-true-Hungry-Hungry
unfolding messages_left
returns-in-false-true-Hungry-Hungry c = sends (is_asked Hungry) fork_sent 3 refl c.args.fork c.args.first c.args.second (grind (arith, common_steps))
