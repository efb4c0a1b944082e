-- How a history grows by an entry, and the clock along it.
use Rattle.std.proofs.Common.{◌≡◌, ℕ, ◌≤◌, List, [], ◌∷◌, ◌++◌, length, refl, ap, sym, ◌∙◌, arith}
use Rattle.std.proofs.lemmas.List.{length-map}
use Rattle.dine_words.specs.declared.entry.Entry.{Entry}
use Rattle.dine_words.specs.declared.limits.Limits.{Limits}
use Rattle.dine_table.specs.Table.{Table, opening_table}
use Rattle.dine_table.specs.Calls.{reply_of, table_after_call}
use Rattle.dine_table.specs.Messages.{cost_of}
use Rattle.dine_table.specs.History.{table_from, table_after}
use Rattle.dine_table.proofs.CallerLemmas.{IsLegalFrom-append, clock-from-ge, table_from-append}
use Rattle.dine_journal.specs.Costs.{last_cost_from}
use Rattle.dine_journal.specs.Flat.{entries_of, entry_of}
use Rattle.dine_journal.specs.Kept.{IsKeptHall}
use Rattle.dine_journal.specs.declared.flat.FlatEntry.{FlatEntry}

-- the clock is at most the number of entries
pub clock-table_after : (limits : Limits) (history : List Entry) → (table_after limits history).clock ≤ length history
clock-table_after limits history = let all = clock-from-ge (opening_table limits) history in omega arith

-- and so at most the number of entries that lie flat
pub clock-flat : (limits : Limits) (flats : List FlatEntry) → (table_after limits (entries_of flats)).clock ≤ length flats
clock-flat limits flats = let all = clock-table_after limits (entries_of flats) in let same = length-map flats entry_of in omega arith

-- both, for the tactics of functions, which name no lemma with a dash
pub ruleset growth = (clock-table_after, clock-flat)

-- the last call's messages, where one more call is made
last_cost-append : (t : Table) (cost : ℕ) (history : List Entry) (e : Entry) → last_cost_from t cost (history ++ e ∷ []) ≡ cost_of (table_from t history) e.call
last_cost-append t cost [] e = refl
last_cost-append t cost (x ∷ xs) e = last_cost-append (table_after_call t x.call) (cost_of t x.call) xs e

-- one more call, with the table's reply and its cost
pub kept-append : (limits : Limits) (history : List Entry) (t : Table) (messages : ℕ) (e : Entry) → IsKeptHall limits history t messages → e.reply ≡ reply_of t e.call → IsKeptHall limits (history ++ e ∷ []) (table_after_call t e.call) (cost_of t e.call)
kept-append limits history t messages e kept said =
    record {
      legal = IsLegalFrom-append (opening_table limits) history e kept.legal (said ∙ ap (λ x. reply_of x e.call) kept.follows);
      follows = ap (λ x. table_after_call x e.call) kept.follows ∙ sym (table_from-append (opening_table limits) history e);
      costs = ap (λ x. cost_of x e.call) kept.follows ∙ sym (last_cost-append (opening_table limits) 0 history e);
    }
