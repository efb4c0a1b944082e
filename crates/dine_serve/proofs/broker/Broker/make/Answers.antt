use Rattle.dine_serve.proofs.Words.{◌∙◌, ◌+◌, ◌*◌, ◌≤◌, ap, length, subst, vec_capacity, vec_len}
use Rattle.dine_serve.specs.Serving.{Broker as Standing}
use Rattle.dine_serve.proofs.broker.Broker.make.Goals as goal

-- as many wait as there are awaits
pub apply-requires-clause-room : goal.apply-requires-clause-room
apply-requires-clause-room c =
    subst (λ n. vec_len c.push_line_and_room.new.out + 166 * n ≤ vec_capacity c.push_line_and_room.new.out)
    (c.len.ensures ∙ c.self.invariant.counted ∙ ap (λ (b : Standing). length b.awaits) c.self.view_is) c.in_ok-push_line_and_room.ensures.room
