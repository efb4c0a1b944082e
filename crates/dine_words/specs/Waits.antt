-- After which calls the wait of a hungry task may have ended.
use Rattle.std.specs.Prelude.{Bool, true, false}
use Rattle.dine_words.specs.declared.call.Call.{Call}
use Rattle.dine_words.specs.declared.call.Call.TheVariants as call
use Rattle.dine_words.specs.declared.call.Reply.{Reply}
use Rattle.dine_words.specs.declared.call.Reply.TheVariants as reply

-- the reply is Done
abbrev pub is_done : Reply → Bool
is_done reply.Done = true
is_done (reply.Joined u) = false
is_done (reply.Refused refusal) = false

-- an accepted call of these kinds may end a wait: it takes a neighbour, its meal or its hunger away. No other does
abbrev pub may_end_waits : Call → Reply → Bool
may_end_waits call.Join answer = false
may_end_waits (call.Leave u) answer = false
may_end_waits (call.Conflict u v) answer = false
may_end_waits (call.Separate u v) answer = is_done answer
may_end_waits (call.Hungry u) answer = false
may_end_waits (call.Begin u) answer = false
may_end_waits (call.Finish u) answer = is_done answer
may_end_waits (call.Withdraw u) answer = is_done answer
