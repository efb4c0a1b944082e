-- A history that grows.
use Rattle.std.proofs.Common.{◌≡◌, List, [], ◌∷◌, ◌++◌, refl}
use Rattle.dine_words.specs.declared.entry.Entry.{Entry}
use Rattle.dine_table.specs.Table.{Table}
use Rattle.dine_table.specs.Calls.{reply_of, table_after_call}
use Rattle.dine_table.specs.History.{table_from, IsLegalFrom}

-- the next table comes from the last
pub table_from-append : (t : Table) (history : List Entry) (e : Entry) → table_from t (history ++ e ∷ []) ≡ table_after_call (table_from t history) e.call
table_from-append t [] e = refl
table_from-append t (x ∷ xs) e = table_from-append (table_after_call t x.call) xs e

-- one more entry is legal where its reply is the table's
pub IsLegalFrom-append : (t : Table) (history : List Entry) (e : Entry) → IsLegalFrom t history → e.reply ≡ reply_of (table_from t history) e.call → IsLegalFrom t (history ++ e ∷ [])
IsLegalFrom-append t [] e legal said = (said, tt)
IsLegalFrom-append t (x ∷ xs) e legal said = (legal.0, IsLegalFrom-append (table_after_call t x.call) xs e legal.1 said)

-- the entries after some others start from the table that those leave
pub table_from-split : (t : Table) (before after : List Entry) → table_from t (before ++ after) ≡ table_from (table_from t before) after
table_from-split t [] after = refl
table_from-split t (e ∷ es) after = table_from-split (table_after_call t e.call) es after
