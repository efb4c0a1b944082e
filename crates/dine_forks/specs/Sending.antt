-- What the two ends of a fork send each other, in one word.
use Rattle.std.specs.Prelude.{ℕ, not, true, false}
use Rattle.dine_forks.specs.declared.record.Fork.{Fork}
use Rattle.dine_forks.specs.declared.sent.Sent.{Sent}
use Rattle.dine_forks.specs.declared.sent.Sent.TheVariants as sent

-- the fork once this is sent
abbrev pub after : Sent → Fork → Fork
after sent.Nothing fork = fork
after sent.Token fork = record fork { token_first = not fork.token_first }
after sent.Fork fork = record fork { at_first = not fork.at_first; dirty = false }
after sent.Both fork = record { at_first = not fork.at_first; dirty = false; token_first = not fork.token_first }
after sent.Crossed fork = record fork { at_first = not fork.at_first; dirty = false }
after sent.Back fork = record fork { at_first = not fork.at_first; dirty = true }
after sent.BackAsked fork = record { at_first = not fork.at_first; dirty = true; token_first = not fork.token_first }

-- how many messages this is
abbrev pub messages_in : Sent → ℕ
messages_in sent.Nothing = 0
messages_in sent.Token = 1
messages_in sent.Fork = 1
messages_in sent.Both = 2
messages_in sent.Crossed = 3
messages_in sent.Back = 1
messages_in sent.BackAsked = 2
