use Rattle.dine_serve.proofs.Words.{◌≡◌, ◌++◌, ◌-◌, ◌≤◌, length, take, drop, is_noted, taken_back}
use Rattle.dine_serve.proofs.waiters.place_asked.Given as goal

-- it is none of those so far
abbrev pub invariant-loop-awaited : goal.invariant-loop-awaited
invariant-loop-awaited l = record {
  within : l.place ≤ length l.queue.items;
  found : is_noted l.pass l.task l.queue.items ≡ is_noted l.pass l.task (drop l.place l.queue.items);
  left : taken_back l.pass l.task l.queue.items ≡ take l.place l.queue.items ++ taken_back l.pass l.task (drop l.place l.queue.items);
}

-- each step leaves fewer of them
abbrev pub decreases-loop-awaited : goal.decreases-loop-awaited
decreases-loop-awaited l = length l.queue.items - l.place
