use Rattle.std.proofs.Common.{◌≡◌, ◌<◌, rules, [], take, drop, length, refl, sym, ap, ◌∙◌, add-one, arith}
use Rattle.std.proofs.Math.ListN.{drop_of_length-le}
use Rattle.dine_lines.specs.Padding.{padded}
use Rattle.dine_lines.proofs.FirstBytes.{drop-next}
use Rattle.dine_lines.proofs.Padded.{filled-set, filled-take, letters-next}
use Rattle.dine_lines.proofs.name.few_letters.Goals as goal

pub returns-then-not-is_name_byte : goal.returns-then-not-is_name_byte
returns-then-not-is_name_byte c =
    let text = c.args.text.now in
    let next = drop-next c.loop-index.index _ text (omega arith) refl in
    let stops = sym c.is_name_byte.ensures ∙ c.if-not-is_name_byte.true in
    record {
      bound = omega arith;
      letters = c.loop-index.invariant.1 ∙ filled-take c.loop-index.index 16 text (omega arith) (omega arith);
      all = c.loop-index.invariant.0;
      most = omega arith;
      end = λ short. rw next stops;
    }

pub loop-index-preserved : goal.loop-index-preserved
loop-index-preserved c =
    let text = c.args.text.now in
    let count = c.loop-index.index in
    let inside : count < length text = omega arith in
    let letter = sym c.if-not-is_name_byte.ensures in
    let kept = c.loop-index.invariant in
    rw (add-one count) (letters-next count text inside kept.0 letter, rw kept.1 (filled-set count 16 text inside (omega arith)))

pub returns : goal.returns
returns c =
    let text = c.args.text.now in
    let all : c.loop-index.index ≡ c.min-most.result = omega arith in
    record {
      bound = omega arith;
      letters = c.loop-index.invariant.1
          ∙ filled-take c.loop-index.index 16 text (omega arith) (omega arith)
          ∙ ap (λ n. padded (take n text)) all;
      all = search rules;
      most = omega arith;
      end = λ short. let none : drop c.min-most.result text ≡ [] = drop_of_length-le text (omega arith) in rw none refl;
    }
