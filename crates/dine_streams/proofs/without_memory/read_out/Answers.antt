use Rattle.std.proofs.Common.{[], ◌++◌, refl, ◌∙◌, inr, rules, arith, length-append}
use Rattle.std.proofs.KnownBytes.{Consumes-nil, Consumes-trans}
use Rattle.dine_streams.proofs.ReadOut.{out-at-end, past-at-end, past-of}
use Rattle.dine_streams.proofs.without_memory.read_out.Goals as goal

pub loop-came-init : goal.loop-came-init
loop-came-init g c = record {
  bytes = [];
  consumed = Consumes-nil (g.R.Source.remaining c.args.reader.now);
  counted = refl;
  bounded = omega arith;
  mark = refl;
}

pub loop-came-preserved : goal.loop-came-preserved
loop-came-preserved g c =
    let i = c.loop-came.invariant in
    let more = c.in_ok-count.ensures.bytes in
    let counted = i.counted in
    let counted_more = more.2 in
    record {
      bytes = i.bytes ++ more.0;
      consumed = Consumes-trans _ _ _ i.bytes more.0 i.consumed more.1;
      counted = omega (arith, counted, counted_more, length-append i.bytes more.0);
      bounded = (let few = c.in_ok-count.ensures.few in omega (arith, few));
      mark = c.in_ok-count.ensures.unmarked ∙ i.mark;
    }

pub returns-then-count-eq0-clause-end : goal.returns-then-count-eq0-clause-end
returns-then-count-eq0-clause-end g c =
    let i = c.loop-came.invariant in
    let more = c.in_ok-count.ensures.bytes in
    let counted = i.counted in
    let counted_more = more.2 in
    λ _. out-at-end c.args.most _ _ _ i.bytes more.0 _ _ _ i.consumed more.1 i.mark c.in_ok-count.ensures.unmarked (c.in_ok-count.ensures.end (search rules)) (omega (arith, counted, counted_more, c.if-count-eq0.true))

pub returns-then-count-eq0-clause-read : goal.returns-then-count-eq0-clause-read
returns-then-count-eq0-clause-read g c =
    let i = c.loop-came.invariant in
    let more = c.in_ok-count.ensures.bytes in
    past-at-end c.args.most _ _ _ i.bytes more.0 _ _ _ i.consumed more.1 i.mark c.in_ok-count.ensures.unmarked (c.in_ok-count.ensures.end (search rules))

pub returns-clause-past : goal.returns-clause-past
returns-clause-past g c =
    let i = c.loop-came.invariant in
    let counted = i.counted in
    λ _. past-of c.args.most _ _ i.bytes i.consumed (omega (arith, counted))

pub returns-clause-read : goal.returns-clause-read
returns-clause-read g c =
    let i = c.loop-came.invariant in
    let counted = i.counted in
    record { bytes = i.bytes; consumed = i.consumed; far = inr (omega (arith, counted)); unmarked = i.mark }
