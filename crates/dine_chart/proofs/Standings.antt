-- The table while lines are read a second time, up to a place.
use Rattle.std.proofs.Common.{◌≡◌, ◌≤◌, ◌<◌, ℕ, zero, suc, ◌+◌, ◌-◌, List, [], ◌∷◌, ◌++◌, take, Result, Ok, Err, OnOk, refl, sym, ap, ◌∙◌, arith}
use Rattle.std.specs.declared.alloc.AllocError.{AllocError}
use Rattle.dine_words.specs.declared.entry.Entry.{Entry}
use Rattle.dine_words.specs.declared.limits.Limits.{Limits}
use Rattle.dine_words.specs.declared.version.JournalVersion.{JournalVersion}
use Rattle.dine_table.specs.Calls.{table_after_call}
use Rattle.dine_table.specs.History.{table_after, table_from}
use Rattle.dine_table.specs.Table.{Table, opening_table}
use Rattle.dine_words.specs.Texts.{IsEntryOf}
use Rattle.dine_words.specs.Versions.{AllowsLimits}
use Rattle.dine_table.proofs.CallerLemmas.{clock-after_call-ge}
use Rattle.dine_words.specs.JournalText.{HasNoEntry}
use Rattle.dine_journal.specs.JournalText.{entry_line, header_line_of}
use Rattle.dine_journal.specs.Kept.{Journal}
use Rattle.dine_lines.specs.declared.label.Label.{Label}
use Rattle.dine_chart.specs.Graph.{graph_text}
use Rattle.dine_chart.specs.Reading.{IsGraphed, IsLegalText}
use Rattle.dine_chart.specs.Standing.{StandsAt}
use Rattle.dine_chart.proofs.Second.{IsReadTo, read-end, read-header, read-next, read-on}

-- the table, with the entries up to the place that are left, comes to that of all of them
pub record IsStanding (text : List ℕ) (place : ℕ) (v : JournalVersion) (limits : Limits) (rest : List ℕ) (done : ℕ) (t : Table) : Type 0 where
  pub journal : Journal
  pub es : List Entry
  pub reads : IsReadTo text journal v limits rest es
  pub table : table_from t (take (place - done) es) ≡ table_after journal.limits (take place journal.entries)
  pub clock : t.clock ≤ done

-- before the first entry
pub standing-opening : (text rest : List ℕ) (place : ℕ) (v : JournalVersion) (limits : Limits) (t : Table) (legal : IsLegalText text) → AllowsLimits v limits → text ≡ header_line_of v limits ++ rest → t ≡ opening_table limits → IsStanding text place v limits rest 0 t
standing-opening text rest place v limits t legal allowed is opens =
    let reads = read-header text rest v limits legal allowed is in
    let whole : place - 0 ≡ place = omega arith in
    record {
      journal = legal.0;
      es = legal.0.entries;
      reads = reads;
      table = ap (λ x. table_from x (take (place - 0) legal.0.entries)) (opens ∙ ap opening_table reads.limits_are) ∙ ap (λ k. table_from (opening_table legal.0.limits) (take k legal.0.entries)) whole;
      clock = (let none : t.clock ≡ 0 = ap (λ (x : Table). x.clock) opens in omega arith);
    }

module _ (text : List ℕ) (place : ℕ) (v : JournalVersion) (limits : Limits) (rest : List ℕ) (done : ℕ) (t : Table) (p : IsStanding text place v limits rest done t) where
  -- one entry on
  pub standing-next : (e : Entry) (after : List ℕ) (next : Table) → done < place → IsEntryOf v e → rest ≡ entry_line e ++ after → next ≡ table_after_call t e.call → IsStanding text place v limits after (done + 1) next
  standing-next e after next within fits front leaves =
      let n = read-next text p.journal v limits rest p.es p.reads e after fits front in
      let more : place - done ≡ suc (place - (done + 1)) = omega (arith, within) in
      record {
        journal = p.journal;
        es = n.others;
        reads = read-on text p.journal v limits rest p.es p.reads e after n;
        table =
            ap (λ x. table_from x (take (place - (done + 1)) n.others)) leaves
            ∙ sym (ap (λ k. table_from t (take k (e ∷ n.others))) more)
            ∙ sym (ap (λ l. table_from t (take (place - done) l)) n.first)
            ∙ p.table;
        clock = (let ticks = clock-after_call-ge t e.call in let before = p.clock in let same : next.clock ≡ (table_after_call t e.call).clock = ap (λ (x : Table). x.clock) leaves in omega arith);
      }

  -- the place is reached
  pub standing-end : place ≤ done → StandsAt text place t
  standing-end past =
      let none : place - done ≡ 0 = omega (arith, past) in
      record { journal = p.journal; text_of = p.reads.text_of; table = sym (ap (λ k. table_from t (take k p.es)) none) ∙ p.table }

  -- no entry is left
  pub standing-short : HasNoEntry v rest → StandsAt text place t
  standing-short none =
      let ends : p.es ≡ [] = read-end text p.journal v limits rest p.es p.reads none in
      record { journal = p.journal; text_of = p.reads.text_of; table = sym (ap (λ l. table_from t (take (place - done) l)) ends ∙ nothing (place - done)) ∙ p.table }
    where
      nothing : (k : ℕ) → table_from t (take k []) ≡ t
      nothing zero = refl
      nothing (suc k) = refl

-- the graph of the table is that of the journal at the place
pub graphed : {X : Type 0} (r : Result X AllocError) (text : List ℕ) (labels : List Label) (place : ℕ) (t : Table) (old new : List ℕ) → OnOk r (new ≡ old ++ graph_text labels t) → StandsAt text place t → OnOk r (IsGraphed text labels place old new)
graphed (Ok x) text labels place t old new written at = record {
  journal = at.journal;
  text_of = at.text_of;
  written = written ∙ ap (λ u. old ++ graph_text labels u) at.table;
}
graphed (Err e) text labels place t old new written at = tt
