use Rattle.std.proofs.Common.{◌≡◌, ◌-◌, ◌≤◌, take, vec_len}
use Rattle.dine_streams.proofs.input.make_room.Given as goal

-- what is filled stays
abbrev pub invariant-loop-input : goal.invariant-loop-input
invariant-loop-input l =
    record {
      within : l.initial.filled ≤ vec_len l.input;
      front : take l.initial.filled l.input.items ≡ take l.initial.filled l.initial.input.items;
    }

-- each part leaves fewer zeros to be made
abbrev pub decreases-loop-input : goal.decreases-loop-input
decreases-loop-input l = l.end - vec_len l.input
