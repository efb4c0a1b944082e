-- How far a text is taken in, line by line.
use Rattle.std.proofs.Common.{◌≡◌, ℕ, ◌+◌, ◌-◌, ◌^◌, ◌<◌, ◌≤◌, Bool, ◌||◌, List, [], ◌∷◌, ◌++◌, length, refl, sym, subst, ap, ◌∙◌, arith, append_assoc, append-nil, length-append}
use Rattle.std.proofs.Math.Bool.{or-false}
use Rattle.dine_words.specs.declared.entry.Entry.{Entry}
use Rattle.dine_words.specs.declared.version.JournalVersion.{JournalVersion}
use Rattle.dine_table.specs.Table.{Table}
use Rattle.dine_words.specs.Texts.{IsEntryOf, entry_text}
use Rattle.dine_table.specs.Calls.{reply_of, table_after_call}
use Rattle.dine_table.specs.History.{IsLegalFrom, table_from}
use Rattle.dine_table.proofs.CallerLemmas.{IsLegalFrom-append, clock-after_call-ge, table_from-append}
use Rattle.dine_words.specs.JournalText.{AllFit}
use Rattle.dine_replay.specs.Audit.{Repeats}
use Rattle.dine_journal.specs.JournalText.{entry_line, entry_lines}
use Rattle.dine_journal.specs.Overtaking.{overtakes_somebody, some_entry}
use Rattle.dine_journal.proofs.CallerLemmas.{entry_lines-append}
use Rattle.dine_replay.specs.Noting.{Telling, TellsAll}
use Rattle.dine_replay.proofs.Grown.{fit-both, noted-push}

-- a line that was made again leaves a shorter text
pub shorter : (v : JournalVersion) (old new : Table) (front rest : List ℕ) (e : Entry) → Repeats v old new front e rest → length rest < length front
shorter v old new front rest e made = omega (arith, ap length made.front, length-append (entry_line e) rest, length-append (entry_text e) (10 ∷ []))

module _ (version : JournalVersion) (t : Table) (before : ℕ) (was : Bool) (untold : Telling) (text : List ℕ) where
  -- what was made again are the calls of some entries, whose lines the text begins with, and the visitor was told them
  pub record HasTaken (now : JournalVersion) (table : Table) (entries : ℕ) (noted : Bool) (told : Telling) (rest : List ℕ) : Type 0 where
    pub history : List Entry
    pub begins : text ≡ entry_lines history ++ rest
    pub fit : AllFit version history
    pub legal : IsLegalFrom t history
    pub version_stays : now ≡ version
    pub follows : table ≡ table_from t history
    pub counted : entries ≡ before + length history
    pub clock : table.clock ≤ entries
    pub few : entries + length rest < 2 ^ 64 - 1
    pub notes : noted ≡ (was || some_entry overtakes_somebody t history)
    pub tells : TellsAll untold told history

  -- at first there is none
  pub taken-none : t.clock ≤ before → before + length text < 2 ^ 64 - 1 → HasTaken version t before was untold text
  taken-none clock few = record {
    history = [];
    begins = refl;
    fit = tt;
    legal = tt;
    version_stays = refl;
    follows = refl;
    counted = omega arith;
    clock = clock;
    few = few;
    notes = sym (or-false was);
    tells = λ entries p. subst untold (sym (append-nil entries)) p;
  }

  module _ (now : JournalVersion) (table : Table) (entries : ℕ) (noted : Bool) (told : Telling) (rest : List ℕ) (taken : HasTaken now table entries noted told rest) where
    -- and one line on
    pub taken-next : (e : Entry) (new : Table) (next : Bool) (then : Telling) (after : List ℕ) → Repeats now table new rest e after → next ≡ (noted || overtakes_somebody new e) → TellsAll told then (e ∷ []) → HasTaken now new (entries + 1) next then after
    taken-next e new next then after made notes tells =
        let history = taken.history in
        let leaves : new ≡ table_after_call (table_from t history) e.call = made.leaves ∙ ap (λ x. table_after_call x e.call) taken.follows in
        record {
          history = history ++ e ∷ [];
          begins =
              taken.begins ∙ ap (λ l. entry_lines history ++ l) made.front
              ∙ sym (append_assoc (entry_lines history) (entry_line e) after)
              ∙ ap (λ l. l ++ after) (sym (entry_lines-append history (e ∷ []) ∙ ap (λ l. entry_lines history ++ l) (append-nil (entry_line e))));
          fit = fit-both version history (e ∷ []) taken.fit (subst (λ (v : JournalVersion). IsEntryOf v e) taken.version_stays made.fits, tt);
          legal = IsLegalFrom-append t history e taken.legal (made.says ∙ ap (λ x. reply_of x e.call) taken.follows);
          version_stays = taken.version_stays;
          follows = leaves ∙ sym (table_from-append t history e);
          counted = (let counted = taken.counted in omega (arith, length-append history (e ∷ [])));
          clock = (let clock = taken.clock in let more = clock-after_call-ge table e.call in rw made.leaves (omega arith));
          few = (let few = taken.few in let less = shorter now table new rest after e made in omega arith);
          notes = notes ∙ sym (noted-push overtakes_somebody t new history e was noted leaves taken.notes);
          tells = λ more p. subst then (append_assoc more history (e ∷ [])) (tells (more ++ history) (taken.tells more p));
        }

    -- once nothing is left, all lines are taken in
    pub taken-all : rest ≡ [] → text ≡ entry_lines taken.history
    taken-all none = taken.begins ∙ ap (λ l. entry_lines taken.history ++ l) none ∙ append-nil (entry_lines taken.history)
