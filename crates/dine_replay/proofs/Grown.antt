-- A history that grows by several entries.
use Rattle.std.proofs.Common.{◌≡◌, ◌≤◌, Bool, ◌||◌, List, [], ◌∷◌, ◌++◌, length, refl, sym, ap, ◌∙◌, arith, length-append}
use Rattle.std.proofs.Math.Bool.{or-false, or_assoc}
use Rattle.dine_words.specs.declared.entry.Entry.{Entry}
use Rattle.dine_words.specs.declared.version.JournalVersion.{JournalVersion}
use Rattle.dine_table.specs.Table.{Table}
use Rattle.dine_table.specs.Calls.{table_after_call}
use Rattle.dine_table.specs.History.{IsLegalFrom, table_from}
use Rattle.dine_words.specs.Texts.{entry_text}
use Rattle.dine_words.specs.JournalText.{AllFit}
use Rattle.dine_journal.specs.JournalText.{entry_line, entry_lines}
use Rattle.dine_journal.specs.Overtaking.{some_entry}

-- entries of a version, and further ones behind them
pub fit-both : (v : JournalVersion) (xs ys : List Entry) → AllFit v xs → AllFit v ys → AllFit v (xs ++ ys)
fit-both v [] ys p q = q
fit-both v (x ∷ xs) ys p q = (p.0, fit-both v xs ys p.1 q)

-- a legal history, and a legal one behind it from where it leaves the table
pub legal-both : (t : Table) (xs ys : List Entry) → IsLegalFrom t xs → IsLegalFrom (table_from t xs) ys → IsLegalFrom t (xs ++ ys)
legal-both t [] ys p q = q
legal-both t (x ∷ xs) ys p q = (p.0, legal-both (table_after_call t x.call) xs ys p.1 q)

-- some entry shows it, of the one history or of the other behind it
pub some_entry-both : (test : Table → Entry → Bool) (t : Table) (xs ys : List Entry) → some_entry test t (xs ++ ys) ≡ (some_entry test t xs || some_entry test (table_from t xs) ys)
some_entry-both test t [] ys = refl
some_entry-both test t (x ∷ xs) ys =
    let next = table_after_call t x.call in
    ap (λ b. test next x || b) (some_entry-both test next xs ys) ∙ sym (or_assoc (test next x) (some_entry test next xs) (some_entry test (table_from next xs) ys))

-- each entry has a byte at least
pub few_entries : (xs : List Entry) → length xs ≤ length (entry_lines xs)
few_entries [] = omega arith
few_entries (x ∷ xs) = let more = few_entries xs in omega (arith, length-append (entry_line x) (entry_lines xs), length-append (entry_text x) (10 ∷ []))

-- ---- whether somebody was overtaken, noted entry by entry

module _ (test : Table → Entry → Bool) (t next : Table) (history : List Entry) (e : Entry) (old was : Bool) (follows : next ≡ table_after_call (table_from t history) e.call) (noted : was ≡ (old || some_entry test t history)) where
  -- so it goes on to be noted, before or at the last entry
  pub noted-push : (old || some_entry test t (history ++ e ∷ [])) ≡ (was || test next e)
  noted-push =
      ap (λ b. old || b) (some_entry-both test t history (e ∷ []) ∙ ap (λ b. some_entry test t history || b) (or-false (test (table_after_call (table_from t history) e.call) e) ∙ ap (λ n. test n e) (sym follows)))
      ∙ sym (or_assoc old (some_entry test t history) (test next e))
      ∙ ap (λ b. b || test next e) (sym noted)
