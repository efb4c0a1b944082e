use Rattle.std.specs.Prelude.{◌≡◌, ◌+◌, ◌++◌, length, vec_len}
use Rattle.std.specs.Vec.Iter.{into_iter_len}
use Rattle.dine_race.specs.Works.{works_with}
use Rattle.dine_race.proofs.threads.start_and_end.Given as goal

-- the workers of the first passes are at work, and the other passes are left
abbrev pub invariant-loop-pass : goal.invariant-loop-pass
invariant-loop-pass g l = record {
  started : l.at_work.items ≡ works_with l.names l.yielded l.workers;
  len : vec_len l.at_work ≡ length l.yielded;
  whole : l.fn.passes.items ≡ l.yielded ++ l.pass-iterator.rest.items;
  left : vec_len l.at_work + into_iter_len l.pass-iterator ≡ length l.workers;
}
