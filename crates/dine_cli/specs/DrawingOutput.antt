-- What a drawing writes, and how it ends, by what is drawn of the journal.
use Rattle.std.specs.Prelude.{ℕ, List, Option}
use Rattle.dine_streams.specs.declared.ended.Ended.{Ended}
use Rattle.dine_cli.specs.declared.drawing.Drawing.{Drawing}
use Rattle.dine_cli.specs.declared.drawing.Drawing.TheVariants.{Chart as charting, Graph as graphing}
use Rattle.dine_cli.specs.ChartOutput.{IsChartText, IsCharted, IsPartlyCharted}
use Rattle.dine_cli.specs.GraphOutput.{IsGraphText, IsGraphWritten, IsPartlyGraphWritten}

-- bytes grow by what is written of the text, and the run ends so
abbrev pub IsDrawingText : Drawing → List ℕ → List ℕ → List ℕ → Ended → Type 0
IsDrawingText (charting chart) text old new end = IsChartText chart text old new end
IsDrawingText (graphing graph) text old new end = IsGraphText graph text old new end

-- known bytes grow by what is written of the text, and the run ends so
abbrev pub IsDrawingWritten : Drawing → List ℕ → Option (List ℕ) → Option (List ℕ) → Ended → Type 0
IsDrawingWritten (charting chart) text old new end = IsCharted chart text old new end
IsDrawingWritten (graphing graph) text old new end = IsGraphWritten graph text old new end

-- known bytes grow by a part of what is written of the text
abbrev pub IsPartlyDrawingWritten : Drawing → List ℕ → Option (List ℕ) → Option (List ℕ) → Type 0
IsPartlyDrawingWritten (charting chart) text old new = IsPartlyCharted chart text old new
IsPartlyDrawingWritten (graphing graph) text old new = IsPartlyGraphWritten graph text old new
