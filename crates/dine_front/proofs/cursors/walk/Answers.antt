use Rattle.std.proofs.Common.{◌+◌, ◌<◌, List, length, arith, sym, ap, ◌∙◌, subst}
use Rattle.dine_words.specs.declared.call.Call.{Call}
use Rattle.dine_words.specs.declared.call.Call.TheVariants.{Join}
use Rattle.dine_words.specs.declared.call.Reply.TheVariants.{Done}
use Rattle.dine_words.specs.declared.entry.Entry.{Entry}
use Rattle.dine_journal.specs.declared.hall.Answer.{Answer}
use Rattle.dine_front.specs.Cursors.{AllFollow, IsCompared}
use Rattle.dine_front.specs.Passes.{Pass}
use Rattle.dine_front.proofs.Following.{all_others, moved_follows, one_moves}
use Rattle.dine_front.proofs.cursors.walk.Goals.{then-number-count, else-number-count}
use Rattle.dine_front.proofs.cursors.walk.Goals as goal

-- an entry, where one has to be named for a place that is within the history
any_entry : Entry
any_entry = record { pass = 0; call = Join; reply = Done }

-- the entry's pass has its cursor behind it, and so have all others
pub loop-place-preserved : goal.loop-place-preserved
loop-place-preserved g c =
    let n = c.args.count in
    let es = c.args.history.now in
    let ps = c.args.passes.now in
    let i = c.loop-place.place in
    let all = c.loop-place.invariant in
    let lt : i < length es = omega arith in
    elim c.if-number-count.branch [
      | then-number-count w ↦
          let f = all.each _ w.if-number-count.true _ in
          let p = w.index-passes-cursor.result in
          let same = w.receipts-receipts.ensures ∙ ap (λ (q : Pass). q.receipts) w.index-passes-cursor.is in
          let compared = subst (λ (l : List (Call × Answer)). IsCompared (i + 1) _ es l w.advance.new.cursor) same w.advance.ensures.behind in
          subst (AllFollow n ps es (i + 1)) (sym w.cursors-is)
          (one_moves n ps es i c.loop-place.cursors any_entry _ w.advance.new.cursor lt (omega (arith, c.requires.count)) w.if-number-count.true (sym (c.pass_at-number.ensures any_entry)) all
          (moved_follows ps es i _ _ w.advance.new.cursor p w.advance.ensures.at f compared))
      | else-number-count w ↦ subst (AllFollow n ps es (i + 1)) (sym w.cursors-is) (all_others n ps es i c.loop-place.cursors any_entry lt (omega (arith, w.if-number-count.false, c.pass_at-number.ensures any_entry)) all)
    ]
