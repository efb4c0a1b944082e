-- The clock and the limits, whatever is called.
use Rattle.std.proofs.Common.{◌≡◌, ◌+◌, ◌≤◌, List, [], ◌∷◌, length, Option, Some, None, refl, ◌∙◌, arith}
use Rattle.dine_words.specs.declared.call.Call.{Call}
use Rattle.dine_words.specs.declared.call.Call.TheVariants as call
use Rattle.dine_words.specs.declared.call.Refusal.{Refusal}
use Rattle.dine_words.specs.declared.entry.Entry.{Entry}
use Rattle.dine_table.specs.Table.{Table}
use Rattle.dine_table.specs.Calls.{refusal_of, changed_by, table_after_call}
use Rattle.dine_table.specs.History.{table_from}

-- ---- the clock

-- an accepted call moves the clock on by one at most, and never back
clock-changed_by : (t : Table) (c : Call) → (t.clock ≤ (changed_by t c).clock) × ((changed_by t c).clock ≤ t.clock + 1)
clock-changed_by t call.Join = (omega arith, omega arith)
clock-changed_by t (call.Leave u) = (omega arith, omega arith)
clock-changed_by t (call.Conflict u v) = (omega arith, omega arith)
clock-changed_by t (call.Separate u v) = (omega arith, omega arith)
clock-changed_by t (call.Hungry u) = (omega arith, omega arith)
clock-changed_by t (call.Begin u) = (omega arith, omega arith)
clock-changed_by t (call.Finish u) = (omega arith, omega arith)
clock-changed_by t (call.Withdraw u) = (omega arith, omega arith)

-- so does each call
clock-after_call : (t : Table) (c : Call) → (t.clock ≤ (table_after_call t c).clock) × ((table_after_call t c).clock ≤ t.clock + 1)
clock-after_call t c = go (refusal_of t c) refl
  where
    go : (o : Option Refusal) → refusal_of t c ≡ o → (t.clock ≤ (table_after_call t c).clock) × ((table_after_call t c).clock ≤ t.clock + 1)
    go None e = rw e (clock-changed_by t c)
    go (Some r) e = rw e (omega arith, omega arith)

-- no call moves it back
pub clock-after_call-le : (t : Table) (c : Call) → t.clock ≤ (table_after_call t c).clock
clock-after_call-le t c = (clock-after_call t c).0

-- no call moves it by more than one
pub clock-after_call-ge : (t : Table) (c : Call) → (table_after_call t c).clock ≤ t.clock + 1
clock-after_call-ge t c = (clock-after_call t c).1

-- no history sets the clock back
pub clock-from-le : (t : Table) (history : List Entry) → t.clock ≤ (table_from t history).clock
clock-from-le t [] = omega arith
clock-from-le t (e ∷ es) =
    let now = clock-after_call-le t e.call in
    let later = clock-from-le (table_after_call t e.call) es in
    omega (arith, now, later)

-- a history moves the clock on by no more than it has calls
pub clock-from-ge : (t : Table) (history : List Entry) → (table_from t history).clock ≤ t.clock + length history
clock-from-ge t [] = omega arith
clock-from-ge t (e ∷ es) =
    let now = clock-after_call-ge t e.call in
    let later = clock-from-ge (table_after_call t e.call) es in
    omega (arith, now, later)

-- ---- the limits

-- an accepted call leaves the limits
limits-changed_by : (t : Table) (c : Call) → (changed_by t c).limits ≡ t.limits
limits-changed_by t call.Join = refl
limits-changed_by t (call.Leave u) = refl
limits-changed_by t (call.Conflict u v) = refl
limits-changed_by t (call.Separate u v) = refl
limits-changed_by t (call.Hungry u) = refl
limits-changed_by t (call.Begin u) = refl
limits-changed_by t (call.Finish u) = refl
limits-changed_by t (call.Withdraw u) = refl

-- no call changes them
pub limits-after_call : (t : Table) (c : Call) → (table_after_call t c).limits ≡ t.limits
limits-after_call t c = go (refusal_of t c) refl
  where
    go : (o : Option Refusal) → refusal_of t c ≡ o → (table_after_call t c).limits ≡ t.limits
    go None e = rw e (limits-changed_by t c)
    go (Some r) e = rw e refl

-- each history leaves the limits
pub limits-from : (t : Table) (history : List Entry) → (table_from t history).limits ≡ t.limits
limits-from t [] = refl
limits-from t (e ∷ es) = limits-from (table_after_call t e.call) es ∙ limits-after_call t e.call
