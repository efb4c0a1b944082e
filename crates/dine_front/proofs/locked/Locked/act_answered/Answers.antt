use Rattle.std.proofs.Common.{◌≡◌, ◌++◌, ◌∷◌, [], List, length, ap, sym, ◌∙◌, subst, arith, length-append}
use mathlib.Core.List.{IsPrefix}
use Rattle.dine_words.specs.declared.call.Call.{Call}
use Rattle.dine_words.specs.declared.entry.Entry.{Entry}
use Rattle.dine_table.specs.Calls.{reply_of}
use Rattle.dine_table.specs.History.{IsLegal, table_after}
use Rattle.dine_journal.specs.declared.hall.Answer.{Answer}
use Rattle.dine_journal.specs.Flat.{receipts_of_flat}
use Rattle.dine_journal.specs.Kept.{table_now}
use Rattle.dine_journal.specs.declared.flat.FlatReceipt.{FlatReceipt}
use Rattle.dine_journal.proofs.CallerLemmas.{receipts-append, told_joins_alone}
use Rattle.dine_front.specs.Passes.{Pass}
use Rattle.dine_front.specs.UnderLock.{Locked}
use Rattle.dine_front.proofs.Acting.{stands}
use Rattle.dine_front.proofs.locked.Locked.act_answered.Goals as goal

-- the reply is the one of the table that the history leaves
pub write-requires : goal.write-requires
write-requires g c =
    let limits = c.make_room.ensures.limits ∙ ap (λ (k : Locked). k.limits) c.self.view_is in
    let history = c.make_room.ensures.history ∙ ap (λ (k : Locked). k.history) c.self.view_is in
    let told : c.args.reply ≡ reply_of (table_now c.make_room.new.hall) c.args.call = c.requires ∙ (λ i. reply_of (table_after (sym limits i) (sym history i)) c.args.call) in
    let at_limits = c.make_room.ensures.limits ∙ c.self.invariant.0.limits_kept in
    let at_history = c.make_room.ensures.history ∙ sym c.self.invariant.1 in
    told ∙ (λ i. reply_of (table_after (at_limits i) (at_history i)) c.args.call)

-- the reply is the one to this very call
pub act_answered-answer-requires-clause-reply : goal.act_answered-answer-requires-clause-reply
act_answered-answer-requires-clause-reply g c =
    let limits = c.make_room.ensures.limits ∙ ap (λ (k : Locked). k.limits) c.self.view_is in
    let history = c.make_room.ensures.history ∙ ap (λ (k : Locked). k.history) c.self.view_is in
    c.requires ∙ (λ i. reply_of (table_after (sym limits i) (sym history i)) c.args.call)

-- the history has one entry more, which is counted and written
pub invariant_of-self-2 : goal.invariant_of-self-2
invariant_of-self-2 g c =
    let kept = c.self.invariant.0 in
    let made = c.act_answered-answer.ensures in
    let e : Entry = record { pass = c.pass.inside.number; call = c.args.call; reply = c.args.reply } in
    let before = c.self.invariant.1 ∙ sym c.make_room.ensures.history in (
      record {
        limits_kept = made.limits ∙ (c.make_room.ensures.limits ∙ kept.limits_kept);
        counted = omega (arith, c.add.ensures.total, kept.counted, ap length made.entry, length-append c.make_room.new.hall.history (e ∷ []), ap length c.make_room.ensures.history);
        parts_here = kept.parts_here;
        no_calls = kept.no_calls;
      },
      c.in_ok-sight.ensures.written ∙ (ap (λ (l : List Entry). l ++ e ∷ []) before ∙ sym made.entry),
    )

-- the reply is the table's
pub new-receipt-requires-clause-joins : goal.new-receipt-requires-clause-joins
new-receipt-requires-clause-joins g c =
    let limits = c.make_room.ensures.limits ∙ ap (λ (k : Locked). k.limits) c.self.view_is in
    let history = c.make_room.ensures.history ∙ ap (λ (k : Locked). k.history) c.self.view_is in
    let told : c.args.reply ≡ reply_of (table_now c.make_room.new.hall) c.args.call = c.requires ∙ (λ i. reply_of (table_after (sym limits i) (sym history i)) c.args.call) in
    told_joins_alone (table_now c.make_room.new.hall) c.args.call _ (ap (λ (a : Answer). a.reply) c.act_answered-answer.ensures.answer ∙ told)

-- the share grows with the receipts
pub invariant_of-pass-2 : goal.invariant_of-pass-2
invariant_of-pass-2 g c =
    let more = receipts-append _ _ _ _ c.push_reserved.ensures.items c.new-receipt.ensures.receipt in
    let same = ap (λ (l : List FlatReceipt). length (receipts_of_flat l)) c.make_room.ensures.receipts in (
      c.add.ensures.parts ∙ c.pass.invariant.0,
      omega (arith, c.add.ensures.amount, c.pass.invariant.1, ap length more, length-append (receipts_of_flat c.make_room.new.receipts.items) ((c.args.call, c.act_answered-answer.result) ∷ []), same),
      c.pass.invariant.2,
    )

-- the entry is written behind the history, and is of this pass and this call
pub returns-clause-entry : goal.returns-clause-entry
returns-clause-entry g c =
    let answered = c.act_answered-answer.ensures.answer in
    let e : Entry = record { pass = c.pass.inside.number; call = c.args.call; reply = c.args.reply } in
    let old = c.make_room.ensures.history ∙ ap (λ (k : Locked). k.history) c.self.view_is in
    c.act_answered-answer.ensures.entry ∙ (ap (λ (l : List Entry). l ++ e ∷ []) old
    ∙ (λ i. c.args.self.now.history ++ record { pass = ap (λ (p : Pass). p.number) c.pass.view_is i; call = c.args.call; reply = ap (λ (a : Answer). a.reply) (sym answered) i } ∷ []))

-- its place is the length of the history before it
pub returns-clause-place : goal.returns-clause-place
returns-clause-place g c =
    ap (λ (a : Answer). a.place) c.act_answered-answer.ensures.answer ∙ ap length (c.make_room.ensures.history ∙ ap (λ (k : Locked). k.history) c.self.view_is)

-- the reply is the one that is known
pub returns-clause-reply : goal.returns-clause-reply
returns-clause-reply g c = ap (λ (a : Answer). a.reply) c.act_answered-answer.ensures.answer

-- the pass has seen the whole history
pub returns-clause-seen : goal.returns-clause-seen
returns-clause-seen g c =
    let e : Entry = record { pass = c.pass.inside.number; call = c.args.call; reply = c.args.reply } in
    let before = c.self.invariant.1 ∙ sym c.make_room.ensures.history in
    c.see.ensures ∙ (c.in_ok-sight.ensures.seen ∙ (c.in_ok-sight.ensures.written ∙ (ap (λ (l : List Entry). l ++ e ∷ []) before ∙ sym c.act_answered-answer.ensures.entry)))

-- the pass is the one of the call, with one receipt more
pub returns-clause-pass : goal.returns-clause-pass
returns-clause-pass g c =
    let before = c.pass.view_is in
    record {
      number = ap (λ (p : Pass). p.number) before;
      receipts = receipts-append _ _ _ _ c.push_reserved.ensures.items c.new-receipt.ensures.receipt ∙ ap (λ (l : List (Call × Answer)). l ++ (c.args.call, c.act_answered-answer.result) ∷ []) (ap (λ (l : List FlatReceipt). receipts_of_flat l) c.make_room.ensures.receipts ∙ ap (λ (p : Pass). p.receipts) before);
    }

-- what the pass has seen begins what it sees now
pub returns-clause-sees : goal.returns-clause-sees
returns-clause-sees g c =
    let seen : c.sight.result.now ≡ c.args.pass.now.seen = c.sight.ensures ∙ ap (λ (p : Pass). p.seen) c.pass.view_is in
    let begins : IsPrefix c.args.pass.now.seen c.in_ok-sight.sight = subst (λ (l : List Entry). IsPrefix l c.in_ok-sight.sight) seen c.in_ok-sight.ensures.begins in
    record {
      begins = subst (IsPrefix c.args.pass.now.seen) (sym c.see.ensures) begins;
      legal = subst (IsLegal g.J.Naming.limits) (sym (c.see.ensures ∙ c.in_ok-sight.ensures.seen)) c.in_ok-sight.ensures.legal;
    }

-- the entry was put behind all that was written, which is the history
pub returns-clause-stands : goal.returns-clause-stands
returns-clause-stands g c =
    let answered = c.act_answered-answer.ensures.answer in
    let before = c.self.invariant.1 ∙ sym c.make_room.ensures.history in
    stands c.self.inside.published c.see.new.self _ _ c.act_answered-answer.result.place (c.see.ensures ∙ (c.in_ok-sight.ensures.seen ∙ c.in_ok-sight.ensures.written)) (λ i. record { pass = c.pass.inside.number; call = c.args.call; reply = ap (λ (a : Answer). a.reply) (sym answered) i }) (ap (λ (a : Answer). a.place) answered ∙ sym (ap length before))
