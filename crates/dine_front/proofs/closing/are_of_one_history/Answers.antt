use Rattle.std.proofs.Common.{List, arith, subst}
use Rattle.std.proofs.lemmas.Option.{slice_get_within}
use mathlib.Core.List.{IsPrefix}
use Rattle.dine_words.specs.declared.entry.Entry.{Entry}
use Rattle.dine_front.proofs.OneHistory.{one_more_begins}
use Rattle.dine_front.proofs.Prefixes.{begins_on}
use Rattle.dine_front.proofs.closing.are_of_one_history.Goals as goal

-- one pass more begins the list, which has grown
pub loop-pass-preserved : goal.loop-pass-preserved
loop-pass-preserved g c =
    let grown = c.take_in.ensures.grown in
    let begun : IsPrefix c.pass-item.result.seen c.take_in.new.self = subst (λ (l : List Entry). IsPrefix l c.take_in.new.self) c.sight.ensures c.take_in.ensures.begun in
    record {
      begins = begins_on _ _ _ c.loop-pass.invariant.begins grown;
      each = one_more_begins c.args.passes.now c.loop-pass.pass-index c.pass-item.result _ _ c.pass-item.is grown begun c.loop-pass.invariant.each;
    }

-- all do
pub returns : goal.returns
returns g c = record {
  whole = c.loop-pass.whole;
  begins = c.loop-pass.invariant.begins;
  each = λ k p at. c.loop-pass.invariant.each k p (omega (arith, slice_get_within _ k p at)) at;
}
