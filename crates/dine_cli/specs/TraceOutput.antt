-- What a trace writes, and how it ends, by the text of its journal.
use Rattle.std.specs.Prelude.{◌≡◌, ◌≢◌, ℕ, List, length, codes, Option, Err}
use Rattle.std.specs.Io.KnownBytes.{Appends}
use Rattle.dine_replay.specs.declared.audit_answer.AuditFault.{AuditFault}
use Rattle.dine_replay.specs.declared.audit_answer.Checked.{Checked}
use Rattle.dine_journal.specs.JournalText.{IsTextOf}
use Rattle.dine_replay.specs.Audit.{IsAnswer, TellsOfText}
use Rattle.dine_journal.specs.Kept.{Journal}
use Rattle.dine_bars.specs.declared.bar.Window.{Window}
use Rattle.dine_chart.specs.Picture.{places_of, window_in}
use Rattle.dine_chart.specs.Trace.{trace_text}
use Rattle.dine_command_line.specs.declared.request.Trace.{Trace}
use Rattle.dine_streams.specs.declared.ended.Ended.{Ended}
use Rattle.dine_streams.specs.declared.ended.Ended.TheVariants as ended
use Rattle.dine_replay.specs.AuditOutput.{audit_end, audit_output}
use Rattle.dine_streams.specs.Written.{AppendsPartOf}

-- what becomes of a text: the fault of one that is no legal journal, or that none of its places are asked for, or its trace
pub data TraceAnswer : Type 0 where
  Unlawful : AuditFault → TraceAnswer
  Nowhere : Journal → TraceAnswer
  Traced : Journal → TraceAnswer

-- what of the journal is asked for
abbrev pub window_traced : Trace → Journal → Window
window_traced trace journal = window_in record { from = trace.from; to = trace.to } (length journal.entries)

-- this becomes of the text
abbrev pub IsTraceOf : Trace → List ℕ → TraceAnswer → Type 0
IsTraceOf trace text (Unlawful fault) = TellsOfText {X = Checked} (Err fault) × IsAnswer text (Err fault)
IsTraceOf trace text (Nowhere journal) = IsTextOf text journal × (places_of (window_traced trace journal) ≡ 0)
IsTraceOf trace text (Traced journal) = IsTextOf text journal × (places_of (window_traced trace journal) ≢ 0)

-- what is written of it. A text that is no legal journal is answered as an audit does
abbrev pub trace_output : Trace → TraceAnswer → List ℕ
trace_output trace (Unlawful fault) = audit_output (Err fault)
trace_output trace (Nowhere journal) = codes "fault places 0\n"
trace_output trace (Traced journal) = trace_text trace.labels.items (window_traced trace journal) journal

-- how it ends
abbrev pub trace_ended : TraceAnswer → Ended
trace_ended (Unlawful fault) = audit_end (Err fault)
trace_ended (Nowhere journal) = ended.Fault
trace_ended (Traced journal) = ended.Good

-- known bytes grow by what is written of the text, and the run ends so
pub record IsTraceWritten (trace : Trace) (text : List ℕ) (old new : Option (List ℕ)) (end : Ended) : Type 0 where
  pub answer : TraceAnswer
  pub right : IsTraceOf trace text answer
  pub written : Appends old new (trace_output trace answer)
  pub ends : end ≡ trace_ended answer

-- known bytes grow by a part of what is written of the text
pub record IsPartlyTraceWritten (trace : Trace) (text : List ℕ) (old new : Option (List ℕ)) : Type 0 where
  pub answer : TraceAnswer
  pub right : IsTraceOf trace text answer
  pub written : AppendsPartOf old new (trace_output trace answer)
