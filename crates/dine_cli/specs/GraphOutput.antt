-- What is written of the table at a line of a journal, and how it ends, by the journal's text.
use Rattle.std.specs.Prelude.{◌≡◌, ℕ, List, ◌++◌, take, Option, Err}
use Rattle.std.specs.Io.KnownBytes.{Appends}
use Rattle.dine_table.specs.History.{table_after}
use Rattle.dine_replay.specs.declared.audit_answer.AuditFault.{AuditFault}
use Rattle.dine_replay.specs.declared.audit_answer.Checked.{Checked}
use Rattle.dine_journal.specs.JournalText.{IsTextOf}
use Rattle.dine_replay.specs.Audit.{IsAnswer, TellsOfText}
use Rattle.dine_journal.specs.Kept.{Journal}
use Rattle.dine_chart.specs.Graph.{graph_text}
use Rattle.dine_command_line.specs.declared.request.Graph.{Graph}
use Rattle.dine_streams.specs.declared.ended.Ended.{Ended}
use Rattle.dine_streams.specs.declared.ended.Ended.TheVariants as ended
use Rattle.dine_replay.specs.AuditOutput.{audit_end, audit_output}
use Rattle.dine_streams.specs.Written.{AppendsPartOf}

-- what becomes of a text: the fault of one that is no legal journal, or the graph of one of its tables
pub data GraphAnswer : Type 0 where
  Unlawful : AuditFault → GraphAnswer
  Graphed : Journal → GraphAnswer

-- this becomes of the text
abbrev pub IsGraphOf : List ℕ → GraphAnswer → Type 0
IsGraphOf text (Unlawful fault) = TellsOfText {X = Checked} (Err fault) × IsAnswer text (Err fault)
IsGraphOf text (Graphed journal) = IsTextOf text journal

-- what is written of it: the graph of the table after the line that is asked for, or after the last where there is no
-- such line. A text that is no legal journal is answered as an audit does
abbrev pub graph_output : Graph → GraphAnswer → List ℕ
graph_output graph (Unlawful fault) = audit_output (Err fault)
graph_output graph (Graphed journal) =
    graph_text graph.labels.items (table_after journal.limits (take graph.line journal.entries))

-- how it ends
abbrev pub graph_ended : GraphAnswer → Ended
graph_ended (Unlawful fault) = audit_end (Err fault)
graph_ended (Graphed journal) = ended.Good

-- bytes grow by what is written of the text, and the run ends so
pub record IsGraphText (graph : Graph) (text old new : List ℕ) (end : Ended) : Type 0 where
  pub answer : GraphAnswer
  pub right : IsGraphOf text answer
  pub written : new ≡ old ++ graph_output graph answer
  pub ends : end ≡ graph_ended answer

-- known bytes grow by what is written of the text, and the run ends so
pub record IsGraphWritten (graph : Graph) (text : List ℕ) (old new : Option (List ℕ)) (end : Ended) : Type 0 where
  pub answer : GraphAnswer
  pub right : IsGraphOf text answer
  pub written : Appends old new (graph_output graph answer)
  pub ends : end ≡ graph_ended answer

-- known bytes grow by a part of what is written of the text
pub record IsPartlyGraphWritten (graph : Graph) (text : List ℕ) (old new : Option (List ℕ)) : Type 0 where
  pub answer : GraphAnswer
  pub right : IsGraphOf text answer
  pub written : AppendsPartOf old new (graph_output graph answer)
