-- What is done of a line where memory is wanting on the way, and where the broker stands then.
use Rattle.std.specs.Prelude.{◌≡◌, ℕ, Bool, true, false, List, ◌++◌, map, Option, Some, None, Result, Ok, Err}
use mathlib.Core.List.{IsPrefix}
use Rattle.dine_serve.specs.Words.{Entry, entry_text, text_of_lines, Table, has_to_wait, table_from, Coming, First, Again, Stale, Foreign, Deed, Make, Cancel, Request, Ask, Order, Numbered, LineFault}
use Rattle.dine_serve.specs.declared.request.Deed.TheVariants.{Await as await}
use Rattle.dine_serve.specs.Receipts.{coming_of}
use Rattle.dine_serve.specs.Serving.{Broker, is_full}
use Rattle.dine_serve.specs.Waits.{taken_back}

-- nothing was done, and nothing said
abbrev pub IsUndone : Broker → Broker → List ℕ → List ℕ → Type 0
IsUndone s s' before after = (s' ≡ s) × (after ≡ before)

-- the broker stands so, and a part of the answer may have been appended behind what stood there before
abbrev pub IsPartlySaid : Broker → Broker → List ℕ → List ℕ → Type 0
IsPartlySaid t s' before after = (s' ≡ t) × IsPrefix before after

-- ---- a line, which is counted already

-- a begin that is awaited, by whether it has to wait and whether there is no place for it
abbrev pub StopsAtAwait : Bool → Bool → Broker → Broker → List ℕ → List ℕ → Type 0
StopsAtAwait false full s s' before after = IsUndone s s' before after
StopsAtAwait true true s s' before after = IsPartlySaid (record s { has_fault = true }) s' before after
StopsAtAwait true false s s' before after = IsUndone s s' before after

-- what a pass wants done. A call isn't made, and a begin that was to be taken back is
abbrev pub StopsAtDeed : Broker → Broker → ℕ → Deed → List ℕ → List ℕ → Type 0
StopsAtDeed s s' pass (Make asked) before after = IsUndone s s' before after
StopsAtDeed s s' pass (await u) before after = StopsAtAwait (has_to_wait s.table u) (is_full s) s s' before after
StopsAtDeed s s' pass (Cancel u) before after = IsPartlySaid (record s { awaits = taken_back pass u s.awaits }) s' before after

-- a request that has a number, by how it comes. It isn't the last request of its pass then
abbrev pub StopsAtComing : Broker → Broker → ℕ → Deed → Coming → List ℕ → List ℕ → Type 0
StopsAtComing s s' pass deed First before after = StopsAtDeed s s' pass deed before after
StopsAtComing s s' pass deed (Again answer) before after = IsPartlySaid s s' before after
StopsAtComing s s' pass deed Stale before after = IsPartlySaid (record s { has_fault = true }) s' before after
StopsAtComing s s' pass deed Foreign before after = IsPartlySaid (record s { has_fault = true }) s' before after

-- a line that was read so. A question changes nothing
abbrev pub StopsAtReading : Broker → Broker → Result (Option Request) LineFault → List ℕ → List ℕ → Type 0
StopsAtReading s s' (Ok None) before after = IsUndone s s' before after
StopsAtReading s s' (Ok (Some (Ask question))) before after = IsPartlySaid s s' before after
StopsAtReading s s' (Ok (Some (Order pass deed))) before after = StopsAtDeed s s' pass deed before after
StopsAtReading s s' (Ok (Some (Numbered pass number deed))) before after =
    StopsAtComing s s' pass deed (coming_of s.receipts pass number) before after
StopsAtReading s s' (Err found) before after = IsPartlySaid (record s { has_fault = true }) s' before after

-- ---- each call has its line

-- of these entries those in front were made: the calls of no others have changed the table, and each has its line
pub record HaveTheirLines (t t' : Table) (entries : List Entry) (before after : List ℕ) : Type 0 where
  pub made : List Entry
  pub front : IsPrefix made entries
  pub table : t' ≡ table_from t made
  pub lines : IsPrefix (before ++ text_of_lines (map entry_text made)) after
