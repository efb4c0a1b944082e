-- What is told of a journal that was replayed.
use Rattle.std.proofs.Common.{◌≡◌, ◌≢◌, ◌↔◌, ℕ, ◌+◌, true, false, IsTrue, List, [], ◌∷◌, Option, Some, None, IfSome, Result, Err, Ok, refl, sym, ap, ◌∙◌, subst, append-nil}
use Rattle.std.specs.Int.{from_bool}
use Rattle.std.specs.Prelude.{IsErrAnd}
use Rattle.dine_words.specs.declared.limits.Limits.{Limits}
use Rattle.dine_words.specs.JournalText.{AllFit}
use Rattle.dine_words.specs.Versions.{AllowsLimits}
use Rattle.dine_table.specs.History.{IsLegal}
use Rattle.dine_table.specs.Table.{Table, opening_table}
use Rattle.dine_table.proofs.CallerLemmas.{limits-from}
use Rattle.dine_journal.specs.Kept.{Journal}
use Rattle.dine_journal.specs.JournalText.{IsTextOf, text_of_version}
use Rattle.dine_journal.proofs.CallerLemmas.{most-told}
use Rattle.dine_replay.specs.declared.audit_answer.AuditFault.{AuditFault}
use Rattle.dine_replay.specs.declared.audit_answer.AuditFault.TheVariants.{Line}
use Rattle.dine_replay.specs.declared.audit_answer.Checked.{Checked}
use Rattle.dine_replay.specs.declared.replayed.Replayed.{Replayed}
use Rattle.dine_replay.specs.Checking.{IsChecked}
use Rattle.dine_replay.specs.Replaying.{IsReplayed, IsReplayedBefore}
use Rattle.dine_replay.proofs.Steps.{torn}

-- what follows from a clause on known bytes
pub if_some : {X : Type 0} (P Q : X → Type 0) (o : Option X) → IfSome o P → ((x : X) → P x → Q x) → IfSome o Q
if_some P Q None p follows = tt
if_some P Q (Some x) p follows = follows x p

-- a fault that is passed on
pub passed : {X : Type 0} (P : Result X AuditFault → Type 0) (r : Result X AuditFault) (fault : AuditFault) → IsErrAnd r (λ f. f ≡ fault) → P (Err fault) → P r
passed P (Ok x) fault same h = absurd same
passed P (Err found) fault same h = subst (λ (f : AuditFault). P (Err f)) (sym same) h

-- ---- a whole text

module _ (text : List ℕ) (r : Replayed) (b : IsReplayedBefore text [] r) where
  -- the arbiter has the limits of the history
  pub same_limits : r.arbiter.table.limits ≡ b.limits
  same_limits = ap (λ (t : Table). t.limits) b.table ∙ limits-from (opening_table b.limits) b.history

  -- where nothing is left of a text, it is that of the history
  pub text_of : (journal : Journal) → journal.limits ≡ b.limits → journal.entries ≡ b.history → IsTextOf text journal
  text_of journal limits entries = record {
    version = r.version;
    whole =
        b.whole ∙ append-nil (text_of_version r.version b.limits b.history)
        ∙ ap (λ (l : Limits). text_of_version r.version l b.history) (sym limits) ∙ ap (text_of_version r.version journal.limits) (sym entries);
    allowed = subst (AllowsLimits r.version) (sym limits) b.allowed;
    fit = subst (AllFit r.version) (sym entries) b.fit;
    legal = subst (IsLegal journal.limits) (sym entries) (subst (λ (l : Limits). IsLegal l b.history) (sym limits) b.legal);
  }

  -- and its entries are counted
  pub told_all : (checked : Checked) → checked.entries ≡ r.entries → checked.most_overtakes ≡ from_bool r.is_overtaken → IsChecked text (Ok checked)
  told_all checked counted most = record {
    journal = record { limits = b.limits; entries = b.history };
    text_of = text_of (record { limits = b.limits; entries = b.history }) refl refl;
    entries = counted ∙ b.counted;
    most = most-told b.limits b.history r.is_overtaken checked.most_overtakes b.legal b.noted most;
  }

-- ---- a text that was heard read by read

-- its last line is torn
pub told_torn : (text : List ℕ) (r : Replayed) → IsReplayed text r → r.is_torn ≡ true → IsChecked text (Err (Line (r.entries + 1)))
told_torn text r p is = torn text p.torn r p.before p.one (p.is_torn.0 is)

-- it is whole
pub told_whole : (text : List ℕ) (r : Replayed) (checked : Checked) → IsReplayed text r → r.is_torn ≡ false → checked.entries ≡ r.entries → checked.most_overtakes ≡ from_bool r.is_overtaken → IsChecked text (Ok checked)
told_whole text r checked p is = told_all text r (subst (λ (l : List ℕ). IsReplayedBefore text l r) (none p.torn p.is_torn) p.before) checked
  where
    none : (l : List ℕ) → IsTrue r.is_torn ↔ (l ≢ []) → l ≡ []
    none [] told = refl
    none (x ∷ xs) told = absurd (let yes : r.is_torn ≡ true = told.1 (λ e. let no : x ∷ xs ≡ [] = e in cc) in let both : true ≡ false = sym yes ∙ is in cc)
