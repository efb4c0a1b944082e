-- The text of a legal journal that is read a second time, and what is written of it meanwhile.
use Rattle.std.specs.Prelude.{◌≡◌, ℕ, List, ◌++◌, take, Option}
use Rattle.std.specs.Io.KnownBytes.{Appends}
use Rattle.dine_table.specs.History.{table_after}
use Rattle.dine_journal.specs.JournalText.{IsTextOf}
use Rattle.dine_journal.specs.Kept.{Journal}
use Rattle.dine_bars.specs.declared.bar.Window.{Window}
use Rattle.dine_lines.specs.declared.label.Label.{Label}
use Rattle.dine_chart.specs.Graph.{graph_text}
use Rattle.dine_chart.specs.Trace.{trace_text}

-- the text is that of a legal journal. It is that of one alone: no text has two answers
abbrev pub IsLegalText : List ℕ → Type 0
IsLegalText text = (journal : Journal) × IsTextOf text journal

-- known bytes grow by the trace of the journal whose text this is
pub record IsTraced (text : List ℕ) (labels : List Label) (w : Window) (old new : Option (List ℕ)) : Type 0 where
  pub journal : Journal
  pub text_of : IsTextOf text journal
  pub written : Appends old new (trace_text labels w journal)

-- known bytes grow by a first part of it
pub record IsTracedInPart (text : List ℕ) (labels : List Label) (w : Window) (old new : Option (List ℕ)) : Type 0 where
  pub journal : Journal
  pub text_of : IsTextOf text journal
  pub count : ℕ
  pub written : Appends old new (take count (trace_text labels w journal))

-- bytes grow by the graph of the journal whose text this is, at the place
pub record IsGraphed (text : List ℕ) (labels : List Label) (place : ℕ) (old new : List ℕ) : Type 0 where
  pub journal : Journal
  pub text_of : IsTextOf text journal
  pub written : new ≡ old ++ graph_text labels (table_after journal.limits (take place journal.entries))
