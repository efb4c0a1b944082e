use Rattle.std.proofs.Common.{◌≡◌, ◌≤◌, sym, ◌∙◌, ap, subst, [], ◌∷◌, ◌++◌, List, length, arith, length-append}
use mathlib.Core.List.{IsPrefix}
use Rattle.dine_words.specs.declared.entry.Entry.{Entry}
use Rattle.dine_table.specs.Table.{opening_table}
use Rattle.dine_table.specs.Calls.{reply_of}
use Rattle.dine_table.specs.History.{table_after}
use Rattle.dine_table.proofs.CallerLemmas.{IsLegalFrom-append}
use Rattle.dine_front.proofs.Prefixes.{as_long_as_whole, not_longer}
use Rattle.dine_front.proofs.Writing.{told_if_found, writing_moves}
use Rattle.dine_front.proofs.sight.Sight.extended.Goals as goal

-- the step that is offered is the one that writes the entry
pub compare_exchange-found-requires : goal.compare_exchange-found-requires
compare_exchange-found-requires g c =
    let h = c.requires.counter in
    let s = c.again-seen.ensures in
    let offer = c.plain-offer.ensures in
    let pen = c.no_pen-pen.ensures in
    let learned = c.learn.ensures in
    let book = learned.0 ∙ (ap (λ s. s.book) s ∙ (c.self.invariant.1 ∙ sym (ap (λ w. w.book) h))) in
    let grown : IsPrefix c.self.inside.seen.log c.learn.new.self.log = subst (λ (l : List Entry). IsPrefix l c.learn.new.self.log) (ap (λ s. s.log) s) learned.2 in
    let count : c.self.inside.count ≤ length c.learn.new.self.log = omega (arith, c.self.invariant.0, not_longer _ _ grown) in (
      ap (λ w. w.tracked) h,
      book,
      pen.0 ∙ book,
      offer.0,
      rw (ap (λ w. w.key) h, pen.1, offer.1, offer.3) (writing_moves c.learn.new.self.log c.args.entry c.self.inside.count count),
    )

-- the entry is counted, and the history with it is legal
pub invariant_of-result : goal.invariant_of-result
invariant_of-result g c =
    let s = c.again-seen.ensures in
    let offer = c.plain-offer.ensures in
    let told = c.compare_exchange-found.ensures in
    let limits = g.J.Naming.limits in
    let wrote = told_if_found _ _ _ c.if-found-count.false told.7 in
    let grown : IsPrefix c.self.inside.seen.log c.learn.new.self.log = subst (λ (l : List Entry). IsPrefix l c.learn.new.self.log) (ap (λ s. s.log) s) c.learn.ensures.2 in
    let all : c.self.inside.seen.log ≡ c.learn.new.self.log = as_long_as_whole _ _ grown (omega (arith, wrote.0, c.self.invariant.0)) in
    let log : c.compare_exchange-found.new.seen.log ≡ c.self.inside.seen.log ++ c.args.entry ∷ [] =
    wrote.1 ∙ (λ i. sym all i ++ offer.1 i ∷ []) in
    let says : c.args.entry.reply ≡ reply_of (table_after limits c.self.inside.seen.log) c.args.entry.call = rw c.self.view_is c.requires.legal in (
      omega (arith, ap length log, length-append c.self.inside.seen.log (c.args.entry ∷ []), c.self.invariant.0),
      told.0 ∙ (c.learn.ensures.0 ∙ (ap (λ s. s.book) s ∙ c.self.invariant.1)),
      rw log (IsLegalFrom-append (opening_table limits) c.self.inside.seen.log c.args.entry c.self.invariant.2 says),
    )
