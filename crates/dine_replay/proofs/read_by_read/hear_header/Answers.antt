use Rattle.std.proofs.Common.{◌≡◌, ℕ, ◌-◌, ◌^◌, ◌≤◌, List, [], ◌++◌, ◌≢◌, true, length, drop, Option, IfSome, sym, ◌∙◌, subst, rules, arith, length-append}
use Rattle.dine_words.specs.declared.header.Header.{Header}
use Rattle.dine_replay.specs.declared.audit_answer.AuditFault.{AuditFault}
use Rattle.dine_replay.specs.declared.audit_answer.AuditFault.TheVariants.{Header as header, Read}
use Rattle.dine_words.specs.JournalText.{HasNoHeader}
use Rattle.dine_journal.specs.JournalText.{header_line_of}
use Rattle.dine_streams.specs.Lines.{begun_line}
use Rattle.dine_streams.proofs.CallerLemmas.{empty, not_empty}
use Rattle.dine_replay.specs.Replaying.{HearsHeader, IsRefusal}
use Rattle.dine_replay.proofs.Bounds.{endless_past, stays_later}
use Rattle.dine_replay.proofs.Fronts.{no_header-long}
use Rattle.dine_replay.proofs.Header.{consumed_more, header_heard, header_refused, header_torn, kept_more, one_more}
use Rattle.dine_replay.proofs.Steps.{all_kept, consumed-whole, if_err, if_ok, long_kept}
use Rattle.dine_replay.proofs.read_by_read.hear_header.Goals as goal

pub returns-then-begun-gt-MAX_LINE-clause-fault : goal.returns-then-begun-gt-MAX_LINE-clause-fault
returns-then-begun-gt-MAX_LINE-clause-fault g c =
    let i = c.reads.invariant in
    consumed-whole (g.R.Source.remaining c.args.reader.now) (g.R.Source.remaining c.reads.reader) i.heard (λ text. IsRefusal text header) i.consumed
    (λ more. no_header-long i.heard more i.one (long_kept c.begun.result.now i.heard (c.begun.ensures.begun ∙ i.kept) (omega arith)))

pub returns-in-Ok-false-clause-fault : goal.returns-in-Ok-false-clause-fault
returns-in-Ok-false-clause-fault g c =
    let i = c.reads.invariant in
    let kept : c.reads.buffer.begun ≡ i.heard = sym c.begun.ensures.begun ∙ all_kept c.begun.result.now i.heard (c.begun.ensures.begun ∙ i.kept) (omega arith) in
    header_torn (g.R.Source.remaining c.args.reader.now) (g.R.Source.remaining c.reads.reader) (g.R.Source.remaining c.hear.new.reader) c.reads.buffer c.hear.new.buffer c.in-Ok-false.field-0
    i.heard i.consumed i.one kept c.in-Ok-false.ensures.heard cc

pub returns-then-not-is_empty-clause-heard : goal.returns-then-not-is_empty-clause-heard
returns-then-not-is_empty-clause-heard g c =
    let i = c.reads.invariant in
    let kept : c.reads.buffer.begun ≡ i.heard = sym c.begun.ensures.begun ∙ all_kept c.begun.result.now i.heard (c.begun.ensures.begun ∙ i.kept) (omega arith) in
    let lines = c.lines-lines.ensures in
    if_ok _ (λ (found : Header × ℕ). HearsHeader (g.R.Source.remaining c.args.reader.now) (g.R.Source.remaining c.hear.new.reader) c.hear.new.buffer found.0 found.1) c.first_line.result c.first_line.ensures.found
    (λ found is.
    header_heard (g.R.Source.remaining c.args.reader.now) (g.R.Source.remaining c.reads.reader) (g.R.Source.remaining c.hear.new.reader) c.reads.buffer c.hear.new.buffer c.in-Ok-true.field-0
    i.heard i.consumed i.one kept c.in-Ok-true.ensures.heard found.0 found.1
    (subst (λ (l : List ℕ). begun_line [] l ≡ []) lines.lines lines.ended) is.0
    (subst (λ (l : List ℕ). l ≡ header_line_of found.0.version found.0.limits ++ drop found.1 l) lines.lines is.1) is.2)

pub returns-then-not-is_empty-clause-fault : goal.returns-then-not-is_empty-clause-fault
returns-then-not-is_empty-clause-fault g c =
    let i = c.reads.invariant in
    let kept : c.reads.buffer.begun ≡ i.heard = sym c.begun.ensures.begun ∙ all_kept c.begun.result.now i.heard (c.begun.ensures.begun ∙ i.kept) (omega arith) in
    let lines = c.lines-lines.ensures in
    let first : Option (List ℕ) = g.R.Source.remaining c.args.reader.now in
    if_err _ (λ (fault : AuditFault). IfSome first (λ text. IsRefusal text fault)) c.first_line.result c.first_line.ensures.none
    (λ fault is.
    subst (λ (f : AuditFault). IfSome first (λ text. IsRefusal text f)) (sym is.0)
    (header_refused first (g.R.Source.remaining c.reads.reader) (g.R.Source.remaining c.hear.new.reader) c.reads.buffer c.hear.new.buffer c.in-Ok-true.field-0
    i.heard i.consumed i.one kept c.in-Ok-true.ensures.heard
    (subst (λ (l : List ℕ). begun_line [] l ≡ []) lines.lines lines.ended)
    (subst (λ (l : List ℕ). l ≢ []) lines.lines (not_empty c.lines-lines.result.now c.if-not-is_empty.ensures))
    (subst HasNoHeader lines.lines is.1)))

pub reads-preserved : goal.reads-preserved
reads-preserved g c =
    let i = c.reads.invariant in
    let kept : c.reads.buffer.begun ≡ i.heard = sym c.begun.ensures.begun ∙ all_kept c.begun.result.now i.heard (c.begun.ensures.begun ∙ i.kept) (omega arith) in
    let hears = c.in-Ok-true.ensures.heard in
    let none : c.hear.new.buffer.lines ≡ [] = sym c.lines-lines.ensures.lines ∙ empty c.lines-lines.result.now c.if-not-is_empty.ensures in
    let first : Option (List ℕ) = g.R.Source.remaining c.args.reader.now in
    let before : Option (List ℕ) = g.R.Source.remaining c.reads.reader in
    let after : Option (List ℕ) = g.R.Source.remaining c.hear.new.reader in
    record {
      heard = i.heard ++ hears.bytes;
      consumed = consumed_more first before after c.reads.buffer c.hear.new.buffer c.in-Ok-true.field-0 i.heard i.consumed i.one kept hears;
      one = one_more first before after c.reads.buffer c.hear.new.buffer c.in-Ok-true.field-0 i.heard i.consumed i.one kept hears none;
      kept = kept_more first before after c.reads.buffer c.hear.new.buffer c.in-Ok-true.field-0 i.heard i.consumed i.one kept hears none;
      within = stays_later first before after c.args.bound.now c.reads.bound c.hear.new.self i.within c.in-Ok-true.ensures.within;
      counted = (let came : c.in-Ok-true.field-0 ≡ true = cc in let some = hears.some came in let counted = i.counted in omega (arith, length-append i.heard hears.bytes));
      mark = c.in-Ok-true.ensures.unmarked ∙ i.mark;
    }

pub returns-clause-fault : goal.returns-clause-fault
returns-clause-fault g c =
    let i = c.reads.invariant in
    consumed-whole (g.R.Source.remaining c.args.reader.now) (g.R.Source.remaining c.reads.reader) i.heard (λ text. IsRefusal text Read) i.consumed (λ more. tt)

pub returns-clause-mark : goal.returns-clause-mark
returns-clause-mark g c =
    let i = c.reads.invariant in
    record {
      failed = λ _.
          endless_past (g.R.Source.mark c.reads.reader) (g.R.Source.remaining c.args.reader.now) c.args.bound.now
          (consumed-whole (g.R.Source.remaining c.args.reader.now) (g.R.Source.remaining c.reads.reader) i.heard (λ text. 2 ^ 64 - 2 ≤ length text) i.consumed (λ more. let counted = i.counted in omega (arith, length-append i.heard more)));
      unmarked = search rules;
      read_alone = search rules;
    }
