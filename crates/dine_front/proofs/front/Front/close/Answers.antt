use Rattle.std.proofs.Common.{List, length, arith, ap, sym, ◌∙◌, subst}
use Rattle.dine_words.specs.declared.entry.Entry.{Entry}
use Rattle.dine_front.specs.Passes.{AreOfOneHistory, Pass}
use Rattle.dine_front.proofs.Shares.{unless_missing}
use Rattle.dine_front.proofs.front.Front.close.Goals as goal

-- all shares that passes have were gathered, so the ledger's total, which is the history's length, is their sum
pub returns-clause-sum_of_the_shares : goal.returns-clause-sum_of_the_shares
returns-clause-sum_of_the_shares g c =
    unless_missing _ _ _ _ _ c.verdict_over-verdict.ensures (λ here.
    let front = c.self.invariant in
    let kept = c.hall.invariant.0 in
    let all = c.gather.ensures in
    let whole = c.audit.ensures.whole (omega (arith, here, front.1, kept.parts_here, all.parts, all.apart)) in
    omega (arith, whole, all.amount, kept.counted, kept.no_calls, ap length c.into_journal.ensures.entries))

-- what was published is the history, which the journal is made of
pub returns-clause-one_history : goal.returns-clause-one_history
returns-clause-one_history g c =
    let same = c.sight-history.ensures ∙ (c.hall.invariant.1 ∙ sym c.into_journal.ensures.entries) in
    let one = subst (λ (ps : List Pass). AreOfOneHistory c.sight-history.result ps) c.deref.ensures.value c.are_of_one_history.ensures in
    subst (λ (l : List Entry). AreOfOneHistory l c.args.passes.items) same one
