-- What becomes of a journal that is drawn, from what is appended of its text.
use Rattle.std.proofs.Common.{◌≡◌, ℕ, List, [], Option, Result, Ok, Err, IfSome, sym, subst, take}
use Rattle.std.specs.Io.KnownBytes.{Appends}
use Rattle.dine_streams.specs.declared.ended.Ended.{Ended}
use Rattle.dine_streams.specs.declared.ended.CliFault.{CliFault}
use Rattle.dine_streams.specs.declared.ended.CliFault.TheVariants.{Memory, Read, Write}
use Rattle.dine_streams.specs.Written.{AppendsPartOf}
use Rattle.dine_cli.specs.declared.drawing.Drawing.{Drawing}
use Rattle.dine_cli.specs.declared.drawing.Drawing.TheVariants.{Chart as charting, Graph as graphing}
use Rattle.dine_cli.specs.DrawingOutput.{IsDrawingText, IsDrawingWritten, IsPartlyDrawingWritten}
use Rattle.dine_streams.specs.Reported.{IsReported}

-- what is appended to nothing is the text that is shown
pub at_start : (drawing : Drawing) (text before said shown : List ℕ) (end : Ended) → before ≡ [] → shown ≡ said → IsDrawingText drawing text before said end → IsDrawingText drawing text [] shown end
at_start drawing text before said shown end none same is =
    subst (λ (l : List ℕ). IsDrawingText drawing text [] l end) (sym same) (subst (λ (l : List ℕ). IsDrawingText drawing text l said end) none is)

-- another text is appended as a first part
part_of : (old new : Option (List ℕ)) (said text : List ℕ) → said ≡ text → AppendsPartOf old new said → AppendsPartOf old new text
part_of old new said text is part = (part.0, subst (λ (l : List ℕ). Appends old new (take part.0 l)) is part.1)

module _ (text said : List ℕ) (old new : Option (List ℕ)) (end : Ended) where
  -- all that is appended of a text is written
  pub drawn : (drawing : Drawing) → IsDrawingText drawing text [] said end → Appends old new said → IsDrawingWritten drawing text old new end
  drawn (charting chart) is written = record { answer = is.answer; right = is.right; written = subst (λ (l : List ℕ). Appends old new l) is.written written; ends = is.ends }
  drawn (graphing graph) is written = record { answer = is.answer; right = is.right; written = subst (λ (l : List ℕ). Appends old new l) is.written written; ends = is.ends }

  -- or a part of it
  pub partly_drawn : (drawing : Drawing) → IsDrawingText drawing text [] said end → AppendsPartOf old new said → IsPartlyDrawingWritten drawing text old new
  partly_drawn (charting chart) is part = record { answer = is.answer; right = is.right; written = part_of old new said _ is.written part }
  partly_drawn (graphing graph) is part = record { answer = is.answer; right = is.right; written = part_of old new said _ is.written part }

module _ (known old new : Option (List ℕ)) (Whole : List ℕ → Option (List ℕ) → Option (List ℕ) → Ended → Type 0) (Part : List ℕ → Option (List ℕ) → Option (List ℕ) → Type 0) where
  -- a run that ends well wrote the whole answer
  pub reported_well : (end : Ended) → IfSome known (λ text. Whole text old new end) → IsReported (Ok end) known old new Whole Part
  reported_well end whole = record {
    ok = whole;
    read = λ (k : ◌≡◌ {A = Result Ended CliFault} (Ok end) (Err Read)). absurd cc;
    memory = λ (k : ◌≡◌ {A = Result Ended CliFault} (Ok end) (Err Memory)). absurd cc;
    write = λ (k : ◌≡◌ {A = Result Ended CliFault} (Ok end) (Err Write)). absurd cc;
  }

  -- one whose write failed wrote a part
  pub reported_write : (outcome : Result Ended CliFault) → outcome ≡ Err Write → IfSome known (λ text. Part text old new) → IsReported outcome known old new Whole Part
  reported_write outcome failed part = subst (λ (r : Result Ended CliFault). IsReported r known old new Whole Part) (sym failed) (record {
    ok = tt;
    read = λ (k : ◌≡◌ {A = Result Ended CliFault} (Err Write) (Err Read)). absurd cc;
    memory = λ (k : ◌≡◌ {A = Result Ended CliFault} (Err Write) (Err Memory)). absurd cc;
    write = λ _. part;
  })
