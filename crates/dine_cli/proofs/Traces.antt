-- What becomes of a text that is traced, or of which a table is written as a graph, by what becomes of its parts.
use Rattle.std.proofs.Common.{◌≡◌, ◌≢◌, ℕ, ◌≤◌, ◌<◌, List, ◌++◌, length, take, codes, Option, Some, None, Result, Ok, Err, IfErr, IfOk, IfSome, OnErr, OnOk, refl, sym, ap, ◌∙◌, subst, arith}
use Rattle.std.specs.Io.KnownBytes.{Appends}
use Rattle.dine_replay.specs.declared.audit_answer.AuditFault.{AuditFault}
use Rattle.dine_replay.specs.declared.audit_answer.Checked.{Checked}
use Rattle.dine_journal.specs.JournalText.{IsTextOf}
use Rattle.dine_replay.specs.Audit.{IsAnswer, TellsOfText}
use Rattle.dine_journal.specs.Kept.{Journal}
use Rattle.dine_replay.proofs.CallerLemmas.{one_answer}
use Rattle.dine_bars.specs.declared.bar.Window.{Window}
use Rattle.dine_lines.specs.declared.label.Label.{Label}
use Rattle.dine_chart.specs.Graph.{graph_text}
use Rattle.dine_chart.specs.Picture.{places_of, window_in}
use Rattle.dine_chart.specs.Reading.{IsGraphed, IsTraced, IsTracedInPart}
use Rattle.dine_chart.specs.Trace.{trace_text}
use Rattle.dine_table.specs.History.{table_after}
use Rattle.dine_command_line.specs.declared.request.Graph.{Graph}
use Rattle.dine_command_line.specs.declared.request.Trace.{Trace}
use Rattle.dine_streams.specs.declared.ended.Ended.{Ended}
use Rattle.dine_streams.specs.declared.ended.Ended.TheVariants as ended
use Rattle.dine_streams.specs.declared.ended.CliFault.{CliFault}
use Rattle.dine_streams.specs.declared.ended.CliFault.TheVariants as fault
use Rattle.dine_script.specs.Streams.{IsTextLeft}
use Rattle.dine_replay.specs.AuditOutput.{audit_end, audit_output}
use Rattle.dine_cli.specs.GraphOutput.{Graphed, IsGraphText}
use Rattle.dine_cli.specs.GraphOutput as graphs
use Rattle.dine_streams.specs.Written.{AppendsPartOf}
use Rattle.dine_cli.specs.TraceOutput.{IsPartlyTraceWritten, IsTraceWritten, Nowhere, Traced, window_traced}
use Rattle.dine_cli.specs.TraceOutput as traces

-- what holds of a text holds of it where it is known
pub of_text : (P : List ℕ → Type 0) (known : Option (List ℕ)) (text read : List ℕ) → read ≡ text → IfSome known (λ bytes. text ≡ bytes) → P read → IfSome known P
of_text P None text read same is p = tt
of_text P (Some bytes) text read same is p = subst P (same ∙ is) p

-- ---- graphs

-- a legal journal
pub graph_of_legal : (graph : Graph) (text old new : List ℕ) (labels : List Label) → labels ≡ graph.labels.items → IsGraphed text labels graph.line old new → IsGraphText graph text old new ended.Good
graph_of_legal graph text old new labels same g = record {
  answer = Graphed g.journal;
  right = g.text_of;
  written = g.written ∙ ap (λ (l : List Label). old ++ graph_text l (table_after g.journal.limits (take graph.line g.journal.entries))) same;
  ends = refl;
}

-- a text that is none
pub graph_of_none : (graph : Graph) (text old new : List ℕ) (fault : AuditFault) (r : Result Ended CliFault) → IsAnswer text (Err fault) → OnOk r (TellsOfText {X = Checked} (Err fault)) → OnOk r (new ≡ old ++ audit_output (Err fault)) → IfOk r (λ end. end ≡ audit_end (Err fault)) → IfOk r (λ end. IsGraphText graph text old new end)
graph_of_none graph text old new fault (Ok end) is tells lines ends = record {
  answer = graphs.Unlawful fault;
  right = (tells, is);
  written = lines;
  ends = ends;
}
graph_of_none graph text old new fault (Err gave_up) is tells lines ends = tt

-- ---- traces

-- the text is that of a legal journal of so many entries
abbrev pub IsOfEntries : List ℕ → ℕ → Type 0
IsOfEntries text entries = (journal : Journal) × IsTextOf text journal × (entries ≡ length journal.entries)

-- a text is that of one journal
one_journal : (text : List ℕ) (j k : Journal) → IsTextOf text j → IsTextOf text k → j ≡ k
one_journal text j k p q = same j k (one_answer text (Ok j) (Ok k) tt tt p q)
  where
    same : (a b : Journal) → ◌≡◌ {A = Result Journal AuditFault} (Ok a) (Ok b) → a ≡ b
    same a b h = cc

module _ (trace : Trace) (text : List ℕ) (entries : ℕ) (counted : IsOfEntries text entries) (w : Window) (is : w ≡ window_in record { from = trace.from; to = trace.to } entries) where
  -- the window is that of the journal
  asked : (journal : Journal) → IsTextOf text journal → w ≡ window_traced trace journal
  asked journal of =
      is ∙ ap (window_in record { from = trace.from; to = trace.to }) (counted.2 ∙ ap (λ (j : Journal). length j.entries) (one_journal text counted.0 journal counted.1 of))

  -- no place is asked for
  module _ (none : w.to ≤ w.from) where
    nowhere : places_of (window_traced trace counted.0) ≡ 0
    nowhere = let same = asked counted.0 counted.1 in subst (λ v. places_of v ≡ 0) same (omega arith)

    -- the fault that is written then is the right answer
    pub traced_nowhere : (old new : Option (List ℕ)) → Appends old new (codes "fault places 0\n") → IsTraceWritten trace text old new ended.Fault
    traced_nowhere old new written = record { answer = Nowhere counted.0; right = (counted.1, nowhere); written = written; ends = refl }

    -- a part of it is a part of the right answer
    pub traced_nowhere_in_part : (old new : Option (List ℕ)) → AppendsPartOf old new (codes "fault places 0\n") → IsPartlyTraceWritten trace text old new
    traced_nowhere_in_part old new written = record { answer = Nowhere counted.0; right = (counted.1, nowhere); written = written }

    -- so where that line is written, and where it may not be
    pub traced_nowhere_ok : (r : Result Ended CliFault) (old new : Option (List ℕ)) → OnOk r (Appends old new (codes "fault places 0\n")) → IfOk r (λ end. end ≡ ended.Fault) → IfOk r (λ end. IsTraceWritten trace text old new end)
    traced_nowhere_ok (Ok end) old new written is = subst (λ e. IsTraceWritten trace text old new e) (sym is) (traced_nowhere old new written)
    traced_nowhere_ok (Err gave_up) old new written is = tt

    pub traced_nowhere_err : (r : Result Ended CliFault) (old new : Option (List ℕ)) → IfErr r (λ gave_up. IsTextLeft (codes "fault places 0\n") gave_up old new) → OnErr r (IsPartlyTraceWritten trace text old new)
    traced_nowhere_err (Ok end) old new left = tt
    traced_nowhere_err (Err fault.Memory) old new left = absurd left
    traced_nowhere_err (Err fault.Read) old new left = absurd left
    traced_nowhere_err (Err fault.Write) old new left = traced_nowhere_in_part old new left

  -- some are
  module _ (some : w.from < w.to) (labels : List Label) (given : labels ≡ trace.labels.items) where
    somewhere : (journal : Journal) → IsTextOf text journal → places_of (window_traced trace journal) ≢ 0
    somewhere journal of = subst (λ v. places_of v ≢ 0) (asked journal of) (λ z. absurd (omega (arith, z, some)))

    text_is : (journal : Journal) → IsTextOf text journal → trace_text labels w journal ≡ trace_text trace.labels.items (window_traced trace journal) journal
    text_is journal of = ap (λ l. trace_text l w journal) given ∙ ap (λ v. trace_text trace.labels.items v journal) (asked journal of)

    -- the trace that is written is the right answer
    pub traced : (old new : Option (List ℕ)) → IsTraced text labels w old new → IsTraceWritten trace text old new ended.Good
    traced old new t = record {
      answer = Traced t.journal;
      right = (t.text_of, somewhere t.journal t.text_of);
      written = subst (λ bytes. Appends old new bytes) (text_is t.journal t.text_of) t.written;
      ends = refl;
    }

    -- a part of it is a part of the right answer
    pub traced_in_part : (old new : Option (List ℕ)) → IsTracedInPart text labels w old new → IsPartlyTraceWritten trace text old new
    traced_in_part old new t = record {
      answer = Traced t.journal;
      right = (t.text_of, somewhere t.journal t.text_of);
      written = (t.count, subst (λ bytes. Appends old new (take t.count bytes)) (text_is t.journal t.text_of) t.written);
    }

    -- so where the trace is written, and where it may not be
    pub traced_ok : (r : Result Ended CliFault) (old new : Option (List ℕ)) → OnOk r (IsTraced text labels w old new) → IfOk r (λ end. end ≡ ended.Good) → IfOk r (λ end. IsTraceWritten trace text old new end)
    traced_ok (Ok end) old new t is = subst (λ e. IsTraceWritten trace text old new e) (sym is) (traced old new t)
    traced_ok (Err gave_up) old new t is = tt

    pub traced_err : (r : Result Ended CliFault) (old new : Option (List ℕ)) → OnErr r (IsTracedInPart text labels w old new) → OnErr r (IsPartlyTraceWritten trace text old new)
    traced_err (Ok end) old new t = tt
    traced_err (Err gave_up) old new t = traced_in_part old new t

-- a text that is no legal journal
pub trace_of_none : (trace : Trace) (text : List ℕ) (old new : Option (List ℕ)) (fault : AuditFault) (end : Ended) → IsAnswer text (Err fault) → TellsOfText {X = Checked} (Err fault) → Appends old new (audit_output (Err fault)) → end ≡ audit_end (Err fault) → IsTraceWritten trace text old new end
trace_of_none trace text old new fault end is tells written ends = record {
  answer = traces.Unlawful fault;
  right = (tells, is);
  written = written;
  ends = ends;
}

-- so where the audit's answer was written
pub trace_of_none_ok : (trace : Trace) (known : Option (List ℕ)) (text read : List ℕ) (old new : Option (List ℕ)) (fault : AuditFault) (r : Result Ended CliFault) → read ≡ text → IfSome known (λ bytes. text ≡ bytes) → IsAnswer read (Err fault) → OnOk r (TellsOfText {X = Checked} (Err fault)) → OnOk r (Appends old new (audit_output (Err fault))) → IfOk r (λ end. end ≡ audit_end (Err fault)) → IfOk r (λ end. IfSome known (λ t. IsTraceWritten trace t old new end))
trace_of_none_ok trace known text read old new fault (Ok end) same is answer tells written ends =
    of_text (λ t. IsTraceWritten trace t old new end) known text read same is (trace_of_none trace read old new fault end answer tells written ends)
trace_of_none_ok trace known text read old new fault (Err gave_up) same is answer tells written ends = tt

-- of a text that is no legal journal's a part of the audit's answer was written
pub trace_of_none_in_part : (trace : Trace) (text : List ℕ) (old new : Option (List ℕ)) (fault : AuditFault) → IsAnswer text (Err fault) → TellsOfText {X = Checked} (Err fault) → AppendsPartOf old new (audit_output (Err fault)) → IsPartlyTraceWritten trace text old new
trace_of_none_in_part trace text old new fault is tells written = record { answer = traces.Unlawful fault; right = (tells, is); written = written }
