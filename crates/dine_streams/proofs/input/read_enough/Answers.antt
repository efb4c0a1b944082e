use Rattle.std.proofs.Common.{◌≡◌, ◌+◌, ◌++◌, ℕ, List, length, drop, take, subst, rules, arith, ◌∙◌}
use Rattle.std.specs.Io.KnownBytes.{Consumes}
use Rattle.dine_streams.proofs.Filling.{consumed-on, filled-still}
use Rattle.dine_streams.proofs.input.read_enough.Goals as goal

-- the read that found the end brought nothing
pub returns-then-count-eq0-clause-bytes : goal.returns-then-count-eq0-clause-bytes
returns-then-count-eq0-clause-bytes g c =
    let read = c.in_ok-count.ensures in
    let none : c.loop-came.came + c.in_ok-count.count ≡ c.loop-came.came = omega (arith, c.if-count-eq0.true) in
    let now : List ℕ = take c.make_room.new.input.len (c.read_at.new.bytes ++ drop (length c.read_at.new.bytes) c.make_room.new.input.items) in
    subst (λ (n : ℕ). Consumes (g.R.Source.remaining c.args.reader.now) (g.R.Source.remaining c.read_at.new.reader) (take n (drop c.args.filled now))) none
    (consumed-on _ _ _ c.loop-came.room.items c.make_room.new.input.items _ c.read_at.new.bytes _ (search rules) read.front c.deref_mut.ensures.value c.make_room.ensures.front _ _ _ c.in_ok-count.count c.loop-came.invariant.consumed read.read)

pub returns-then-count-most-clause-front : goal.returns-then-count-most-clause-front
returns-then-count-most-clause-front g c =
    filled-still _ _ c.loop-came.came c.loop-came.room.items c.make_room.new.input.items _ c.read_at.new.bytes _ (search rules) c.in_ok-count.ensures.front c.deref_mut.ensures.value c.make_room.ensures.front ∙ c.loop-came.invariant.front

pub loop-came-preserved : goal.loop-came-preserved
loop-came-preserved g c =
    let i = c.loop-came.invariant in
    let read = c.in_ok-count.ensures in
    record {
      bounded = omega (arith, c.if-count-most.false, i.bounded);
      within = omega (arith, read.fits, read.len, c.deref_mut.ensures.len);
      front = filled-still _ _ c.loop-came.came c.loop-came.room.items c.make_room.new.input.items _ c.read_at.new.bytes _ (search rules) read.front c.deref_mut.ensures.value c.make_room.ensures.front ∙ i.front;
      consumed = consumed-on _ _ _ c.loop-came.room.items c.make_room.new.input.items _ c.read_at.new.bytes _ (search rules) read.front c.deref_mut.ensures.value c.make_room.ensures.front _ _ _ c.in_ok-count.count i.consumed read.read;
      mark = search rules;
    }
