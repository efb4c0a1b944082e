use Rattle.std.proofs.Common.{◌≡◌, map, take}
use Rattle.dine_embed.specs.Acting.{name_of}
use Rattle.dine_embed.proofs.task.write_names.Given as goal

-- the names of the tasks so far stand at the front of the place
abbrev pub invariant-loop-at : goal.invariant-loop-at
invariant-loop-at l = take l.at l.place ≡ map name_of (take l.at l.fn.tasks)
