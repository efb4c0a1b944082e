use Rattle.std.proofs.Common.{◌-◌, ◌≤◌, vec_len}
use Rattle.dine_lines.proofs.names.free_slots.Given as goal

-- no more slots than were asked for
abbrev pub invariant-loop-places : goal.invariant-loop-places
invariant-loop-places l = vec_len l.places ≤ l.slots

-- each part leaves fewer slots to be made
abbrev pub decreases-loop-places : goal.decreases-loop-places
decreases-loop-places l = l.slots - vec_len l.places
