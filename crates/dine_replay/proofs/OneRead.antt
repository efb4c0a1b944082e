-- What one read brings, behind what was heard before.
use Rattle.std.proofs.Common.{◌≡◌, ℕ, Bool, List, [], ◌++◌, Option, sym, ap, ◌∙◌}
use Rattle.std.specs.Io.KnownBytes.{Consumes}
use Rattle.std.proofs.KnownBytes.{Consumes-trans}
use Rattle.dine_streams.specs.Heard.{LineBuffer, Hears}
use Rattle.dine_streams.specs.Lines.{begun_line, kept_of}
use Rattle.dine_streams.proofs.CallerLemmas.{heard-all}

module _ (before after : Option (List ℕ)) (old new : LineBuffer) (came : Bool) (hears : Hears old new before after came) where
  -- its bytes are consumed behind those that were heard before
  pub consumed_on : (first : Option (List ℕ)) (heard : List ℕ) → Consumes first before heard → Consumes first after (heard ++ hears.bytes)
  consumed_on first heard consumed = Consumes-trans first before after heard hears.bytes consumed hears.consumed

  module _ (begun : List ℕ) (kept : old.begun ≡ begun) where
    -- the buffer keeps what it has to of the line that has begun
    pub begun_on : new.begun ≡ kept_of (begun_line begun hears.bytes)
    begun_on = hears.begun ∙ ap (λ l. kept_of (begun_line l hears.bytes)) kept

    -- all of that line and of the read are the lines that the buffer shows, and what has begun behind them
    pub heard_on : begun_line [] new.lines ≡ [] → begun ++ hears.bytes ≡ new.lines ++ begun_line begun hears.bytes
    heard_on ended = ap (λ l. l ++ hears.bytes) (sym kept) ∙ heard-all old new before after came hears ended ∙ ap (λ l. new.lines ++ begun_line l hears.bytes) kept
