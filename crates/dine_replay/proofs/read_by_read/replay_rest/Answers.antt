use Rattle.std.proofs.Common.{rules, ◌≡◌, ℕ, ◌-◌, ◌^◌, ◌≤◌, true, List, ◌++◌, length, Option, Result, IfErr, refl, sym, subst, ◌∙◌, arith, length-append}
use Rattle.std.specs.Prelude.{IsErrOf}
use Rattle.dine_replay.specs.declared.audit_answer.AuditFault.{AuditFault}
use Rattle.dine_replay.specs.declared.audit_answer.AuditFault.TheVariants.{Read}
use Rattle.dine_replay.proofs.Told.{passed}
use Rattle.dine_replay.specs.Replaying.{IsPastWhileReplaying, IsRefusal, IsRefusalFrom}
use Rattle.dine_streams.specs.Lines.{begun_line}
use Rattle.dine_replay.proofs.Bounds.{past_of, stays_later}
use Rattle.dine_replay.proofs.Steps.{all_kept, clock_before, consumed-whole, err_is, long_kept}
use Rattle.dine_replay.proofs.Hearings.{added_next, consumed_next, endless_next, ends, long_line, one_next, stopped_next}
use Rattle.dine_replay.proofs.OneRead.{begun_on}
use Rattle.dine_replay.proofs.read_by_read.replay_rest.Goals as goal

pub reads-init : goal.reads-init
reads-init g c = record { going = λ first before. before; few = c.requires.few; counted = λ first before. omega arith; within = λ most first w. w; mark = refl }

pub returns-then-begun-gt-MAX_LINE-clause-fault : goal.returns-then-begun-gt-MAX_LINE-clause-fault
returns-then-begun-gt-MAX_LINE-clause-fault g c = λ first before.
    let p = c.reads.invariant.going first before in
    long_line first (g.R.Source.remaining c.reads.reader) p.heard p.begun c.reads.replayed p.consumed p.whole p.one (long_kept c.begun.result.now p.begun (c.begun.ensures.begun ∙ p.kept) (omega arith))

pub take_in-requires-clause-clock : goal.take_in-requires-clause-clock
take_in-requires-clause-clock g c = let p = c.reads.invariant.going c.requires.going.0 c.requires.going.1 in clock_before p.heard p.begun c.reads.replayed p.whole

pub returns-in_err-take_in-in-Ok-true-clause-fault : goal.returns-in_err-take_in-in-Ok-true-clause-fault
returns-in_err-take_in-in-Ok-true-clause-fault g c =
    let lines = c.lines.ensures in
    passed (λ (r : Result Unit AuditFault). IfErr r (IsRefusalFrom (g.R.Source.remaining c.args.reader.now) c.args.buffer.now c.args.replayed.now)) c.from_residual.result c.in_err-take_in-in-Ok-true.field-0.0 c.from_residual.ensures.1
    (λ first before.
    let p = c.reads.invariant.going first before in
    let kept : c.reads.buffer.begun ≡ p.begun = sym c.begun.ensures.begun ∙ all_kept c.begun.result.now p.begun (c.begun.ensures.begun ∙ p.kept) (omega arith) in
    stopped_next first (g.R.Source.remaining c.reads.reader) (g.R.Source.remaining c.hear.new.reader) c.reads.buffer c.hear.new.buffer c.in-Ok-true.field-0 p.heard p.begun c.reads.replayed
    p.consumed p.whole p.one kept c.in-Ok-true.ensures.heard c.lines.result.now lines.lines lines.ended c.in_err-take_in-in-Ok-true.field-0.0 c.in_err-take_in-in-Ok-true.ensures.err)

pub returns-in_err-take_in-in-Ok-true-clause-mark : goal.returns-in_err-take_in-in-Ok-true-clause-mark
returns-in_err-take_in-in-Ok-true-clause-mark g c =
    let lines = c.lines.ensures in
    record {
      failed =
          passed (λ (r : Result Unit AuditFault). IsErrOf r Read → IsPastWhileReplaying (g.R.Source.mark c.hear.new.reader) (g.R.Source.remaining c.args.reader.now) c.args.bound.now c.args.buffer.now c.args.replayed.now) c.from_residual.result c.in_err-take_in-in-Ok-true.field-0.0 c.from_residual.ensures.1
          (λ read most first before w.
          let p = c.reads.invariant.going first before in
          let kept : c.reads.buffer.begun ≡ p.begun = sym c.begun.ensures.begun ∙ all_kept c.begun.result.now p.begun (c.begun.ensures.begun ∙ p.kept) (omega arith) in
          past_of (g.R.Source.mark c.hear.new.reader) first w
          (endless_next first (g.R.Source.remaining c.reads.reader) (g.R.Source.remaining c.hear.new.reader) c.reads.buffer c.hear.new.buffer c.in-Ok-true.field-0 p.heard p.begun c.reads.replayed
          p.consumed p.whole p.one kept c.in-Ok-true.ensures.heard c.lines.result.now lines.lines lines.ended c.in_err-take_in-in-Ok-true.field-0.0 c.in_err-take_in-in-Ok-true.ensures.err (err_is c.in_err-take_in-in-Ok-true.field-0.0 read)));
      unmarked = search rules;
      read_alone = search rules;
    }

pub returns-in-Ok-false-clause-answer : goal.returns-in-Ok-false-clause-answer
returns-in-Ok-false-clause-answer g c = λ first before.
    let p = c.reads.invariant.going first before in
    let short : length c.begun.result.now ≤ 4096 = omega arith in
    let kept : c.reads.buffer.begun ≡ p.begun = sym c.begun.ensures.begun ∙ all_kept c.begun.result.now p.begun (c.begun.ensures.begun ∙ p.kept) short in
    let few : length c.reads.buffer.begun ≤ 4096 = subst (λ (l : List ℕ). length l ≤ 4096) c.begun.ensures.begun short in
    ends first (g.R.Source.remaining c.reads.reader) (g.R.Source.remaining c.hear.new.reader) c.reads.buffer c.hear.new.buffer c.in-Ok-false.field-0 p.heard p.begun c.reads.replayed
    p.consumed p.whole p.one kept c.in-Ok-false.ensures.heard (cc) few _ (search rules)

pub returns-in-Err-clause-fault : goal.returns-in-Err-clause-fault
returns-in-Err-clause-fault g c = λ first before.
    let p = c.reads.invariant.going first before in
    consumed-whole first (g.R.Source.remaining c.reads.reader) p.heard (λ text. IsRefusal text Read) p.consumed (λ more. tt)

pub reads-preserved : goal.reads-preserved
reads-preserved g c =
    let i = c.reads.invariant in
    let before : Option (List ℕ) = g.R.Source.remaining c.reads.reader in
    let after : Option (List ℕ) = g.R.Source.remaining c.hear.new.reader in
    let hears = c.in-Ok-true.ensures.heard in
    let lines = c.lines.ensures in
    let came : c.in-Ok-true.field-0 ≡ true = cc in
    record {
      going = λ first was.
          let p = i.going first was in
          let kept : c.reads.buffer.begun ≡ p.begun = sym c.begun.ensures.begun ∙ all_kept c.begun.result.now p.begun (c.begun.ensures.begun ∙ p.kept) (omega arith) in
          record {
            heard = p.heard ++ hears.bytes;
            begun = begun_line p.begun hears.bytes;
            consumed = consumed_next first before after c.reads.buffer c.hear.new.buffer c.in-Ok-true.field-0 p.heard p.begun c.reads.replayed p.consumed p.whole p.one kept hears;
            whole = added_next first before after c.reads.buffer c.hear.new.buffer c.in-Ok-true.field-0 p.heard p.begun c.reads.replayed p.consumed p.whole p.one kept hears c.lines.result.now lines.lines lines.ended c.take_in.new.self _ _ c.in_ok-take_in-in-Ok-true.ensures.ok;
            one = one_next first before after c.reads.buffer c.hear.new.buffer c.in-Ok-true.field-0 p.heard p.begun c.reads.replayed p.consumed p.whole p.one kept hears;
            kept = begun_on before after c.reads.buffer c.hear.new.buffer c.in-Ok-true.field-0 hears p.begun kept;
          };
      few = c.in_ok-take_in-in-Ok-true.ensures.ok.few;
      counted = λ first was. (let some = hears.some came in let counted = i.counted first was in omega (arith, length-append (i.going first was).heard hears.bytes));
      within = stays_later (g.R.Source.remaining c.args.reader.now) before after c.args.bound.now c.reads.bound c.hear.new.self i.within c.in-Ok-true.ensures.within;
      mark = c.in-Ok-true.ensures.unmarked ∙ i.mark;
    }

pub returns-clause-fault : goal.returns-clause-fault
returns-clause-fault g c = λ first before.
    let p = c.reads.invariant.going first before in
    consumed-whole first (g.R.Source.remaining c.reads.reader) p.heard (λ text. IsRefusal text Read) p.consumed (λ more. tt)

pub returns-clause-mark : goal.returns-clause-mark
returns-clause-mark g c = record {
  failed = λ _ most first before w.
      let p = c.reads.invariant.going first before in
      let counted = c.reads.invariant.counted first before in
      past_of (g.R.Source.mark c.reads.reader) first w (consumed-whole first (g.R.Source.remaining c.reads.reader) p.heard (λ text. 2 ^ 64 - 2 ≤ length text) p.consumed (λ more. omega (arith, length-append p.heard more)));
  unmarked = search rules;
  read_alone = search rules;
}
