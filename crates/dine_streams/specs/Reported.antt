-- What an engine that reads all of its input answers.
use Rattle.std.specs.Prelude.{◌≡◌, ℕ, List, Option, Result, Err, IfOk, IfSome}
use Rattle.std.specs.Io.KnownBytes.{Keeps}
use Rattle.dine_streams.specs.declared.ended.Ended.{Ended}
use Rattle.dine_streams.specs.declared.ended.CliFault.{CliFault}
use Rattle.dine_streams.specs.declared.ended.CliFault.TheVariants.{Memory, Read, Write}

-- the whole answer to a known text is written, or nothing where a read failed or memory ran out, or a part where a write
-- failed
pub record IsReported (outcome : Result Ended CliFault) (known old new : Option (List ℕ))
    (Whole : List ℕ → Option (List ℕ) → Option (List ℕ) → Ended → Type 0)
    (Part : List ℕ → Option (List ℕ) → Option (List ℕ) → Type 0) : Type 0 where
  pub ok : IfOk outcome (λ ended. IfSome known (λ text. Whole text old new ended))
  pub read : outcome ≡ Err Read → Keeps old new
  pub memory : outcome ≡ Err Memory → Keeps old new
  pub write : outcome ≡ Err Write → IfSome known (λ text. Part text old new)
