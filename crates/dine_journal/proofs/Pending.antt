-- What was written of a journal's text, and what waits to be written.
use Rattle.std.proofs.Common.{◌≡◌, ℕ, suc, ◌+◌, ◌<◌, min, List, [], ◌∷◌, ◌++◌, length, take, drop, get_or, Option, inl, inr, refl, sym, ap, ◌∙◌, subst, append_assoc, append-nil, add-one, arith}
use Rattle.std.proofs.Math.Seq.{take-append-add, take-suc, take-length}
use Rattle.std.proofs.lemmas.List.{take-append-drop, take-append-le, take_min}
use Rattle.std.specs.Io.KnownBytes.{Appends}
use Rattle.std.proofs.KnownBytes.{Appends-kept, Appends-nil, Appends-trans}
use Rattle.std.specs.Prelude.{Result, Ok, Err, IsErrAnd}
use Rattle.dine_words.specs.declared.entry.Entry.{Entry}
use Rattle.dine_words.specs.declared.limits.Limits.{Limits}
use Rattle.dine_words.specs.declared.version.JournalVersion.{JournalVersion}
use Rattle.dine_words.specs.Versions.{written_version}
use Rattle.dine_journal.specs.declared.text.TextFault.{TextFault}
use Rattle.dine_journal.specs.declared.text.TextFault.TheVariants.{Write, Memory}
use Rattle.dine_journal.specs.Kept.{Journal}
use Rattle.dine_streams.specs.Gathered.{MovesOn}
use Rattle.dine_journal.specs.JournalText.{WritesText, entry_line, entry_lines, first_lines, header_line, header_line_of, journal_text, text_of_version}

-- the lines of two runs of entries stand one behind the other
pub entry_lines-append : (xs ys : List Entry) → entry_lines (xs ++ ys) ≡ entry_lines xs ++ entry_lines ys
entry_lines-append [] ys = refl
entry_lines-append (x ∷ xs) ys = ap (λ l. entry_line x ++ l) (entry_lines-append xs ys) ∙ sym (append_assoc (entry_line x) (entry_lines xs) (entry_lines ys))

-- a journal's text goes on with the lines of further entries
pub text_of_version-append : (v : JournalVersion) (limits : Limits) (xs ys : List Entry) → text_of_version v limits (xs ++ ys) ≡ text_of_version v limits xs ++ entry_lines ys
text_of_version-append v limits xs ys = ap (λ l. header_line_of v limits ++ l) (entry_lines-append xs ys) ∙ sym (append_assoc (header_line_of v limits) (entry_lines xs) (entry_lines ys))

-- one more entry is one more line
pub text_of_version-push : (v : JournalVersion) (limits : Limits) (xs : List Entry) (e : Entry) → text_of_version v limits (xs ++ e ∷ []) ≡ text_of_version v limits xs ++ entry_line e
text_of_version-push v limits xs e = text_of_version-append v limits xs (e ∷ []) ∙ ap (λ l. text_of_version v limits xs ++ l) (append-nil (entry_line e))

-- so in the version that is written
journal_text-append : (limits : Limits) (xs ys : List Entry) → journal_text limits (xs ++ ys) ≡ journal_text limits xs ++ entry_lines ys
journal_text-append = text_of_version-append written_version

-- a journal's text goes on with the line of a further entry
journal_text-push : (limits : Limits) (xs : List Entry) (e : Entry) → journal_text limits (xs ++ e ∷ []) ≡ journal_text limits xs ++ entry_line e
journal_text-push = text_of_version-push written_version

-- the text goes on after the first entries
journal_text-begins : (limits : Limits) (i : ℕ) (entries : List Entry) → journal_text limits entries ≡ journal_text limits (take i entries) ++ entry_lines (drop i entries)
journal_text-begins limits i entries = ap (journal_text limits) (sym (take-append-drop i entries)) ∙ journal_text-append limits (take i entries) (drop i entries)

-- the lines wait that belong between what a writer took and the end of the first i entries
pub record IsPending (before now : Option (List ℕ)) (lines : List ℕ) (limits : Limits) (entries : List Entry) (i : ℕ) : Type 0 where
  pub written : ℕ
  pub appended : Appends before now (first_lines written limits entries)
  pub joined : first_lines written limits entries ++ lines ≡ journal_text limits (take i entries)

module _ (before : Option (List ℕ)) (limits : Limits) (entries : List Entry) where
  -- at first the header waits
  pub pending-header : (lines : List ℕ) → lines ≡ header_line limits → IsPending before before lines limits entries 0
  pending-header lines e = record { written = 0; appended = Appends-nil before; joined = e ∙ sym (append-nil (header_line limits)) }

  -- then the next entry too
  pending-entry : (now : Option (List ℕ)) (lines : List ℕ) (i : ℕ) (d : Entry) → i < length entries → IsPending before now lines limits entries i → IsPending before now (lines ++ entry_line (get_or entries i d)) limits entries (i + 1)
  pending-entry now lines i d h p =
      let done = first_lines p.written limits entries in
      record {
        written = p.written;
        appended = p.appended;
        joined = sym (append_assoc done lines _) ∙ ap (λ l. l ++ entry_line (get_or entries i d)) p.joined ∙ sym (journal_text-push limits (take i entries) (get_or entries i d)) ∙ ap (journal_text limits) (sym (take-suc entries i d h)) ∙ ap (λ n. journal_text limits (take n entries)) (sym (add-one i));
      }

  -- so in a loop over the entries
  pub pending-next : (now : Option (List ℕ)) (lines more : List ℕ) (items : List Entry) (i : ℕ) (d : Entry) → items ≡ entries → i < length items → more ≡ lines ++ entry_line (get_or items i d) → IsPending before now lines limits entries i → IsPending before now more limits entries (i + 1)
  pending-next now lines more items i d same h e p =
      let here : i < length entries = subst (λ (xs : List Entry). i < length xs) same h in
      let line : more ≡ lines ++ entry_line (get_or entries i d) = e ∙ ap (λ (xs : List Entry). lines ++ entry_line (get_or xs i d)) same in
      subst (λ l. IsPending before now l limits entries (i + 1)) (sym line) (pending-entry now lines i d here p)

  -- once the lines are written, none waits
  pending-written : (now next : Option (List ℕ)) (lines : List ℕ) (i : ℕ) → IsPending before now lines limits entries i → Appends now next lines → IsPending before next [] limits entries i
  pending-written now next lines i p q =
      record {
        written = suc i;
        appended = subst (Appends before next) p.joined (Appends-trans before now next _ _ p.appended q);
        joined = append-nil (journal_text limits (take i entries));
      }

  -- whether they were written or not, the entries are the same
  pub pending-moved : (now next : Option (List ℕ)) (lines after : List ℕ) (i : ℕ) → IsPending before now lines limits entries i → MovesOn now next lines after → IsPending before next after limits entries i
  pending-moved now next lines after i p (inl moved) = subst (λ l. IsPending before next l limits entries i) (sym moved.1) (pending-written now next lines i p moved.0)
  pending-moved now next lines after i p (inr stayed) = record { written = p.written; appended = Appends-kept before now next _ p.appended stayed.0; joined = ap (λ l. first_lines p.written limits entries ++ l) stayed.1 ∙ p.joined }

  -- all was written
  pub pending-all : (now next : Option (List ℕ)) (lines : List ℕ) (i : ℕ) → i ≡ length entries → IsPending before now lines limits entries i → Appends now next lines → Appends before next (journal_text limits entries)
  pending-all now next lines i e p q =
      subst (Appends before next) (p.joined ∙ ap (λ n. journal_text limits (take n entries)) e ∙ ap (journal_text limits) (take-length entries)) (Appends-trans before now next _ _ p.appended q)

  -- a first part of the lines was written, and so of the text
  pub pending-cut : (now next : Option (List ℕ)) (lines : List ℕ) (i k : ℕ) → IsPending before now lines limits entries i → Appends now next (take k lines) → (n : ℕ) × Appends before next (take n (journal_text limits entries))
  pending-cut now next lines i k p q =
      let done = first_lines p.written limits entries in
      let rest = entry_lines (drop i entries) in
      let few = min k (length lines) in
      let whole : journal_text limits entries ≡ done ++ (lines ++ rest) = journal_text-begins limits i entries ∙ ap (λ l. l ++ rest) (sym p.joined) ∙ append_assoc done lines rest in
      let part : take (length done + few) (journal_text limits entries) ≡ done ++ take k lines =
      ap (take (length done + few)) whole ∙ take-append-add done (lines ++ rest) few ∙ ap (λ l. done ++ l) (take-append-le few lines rest (omega arith) ∙ take_min k lines) in
      (length done + few, subst (Appends before next) (sym part) (Appends-trans before now next _ _ p.appended q))

-- ---- the answer of a fault

-- a write failed, and a front of the text was written
pub after_failed_write : {A : Type 0} (r : Result A TextFault) (old new : Option (List ℕ)) (journal : Journal) → IsErrAnd r (λ fault. fault ≡ Write) → (n : ℕ) × Appends old new (take n (journal_text journal.limits journal.entries)) → WritesText old new journal r
after_failed_write (Ok done) old new journal h part = absurd h
after_failed_write (Err fault) old new journal h part = subst (λ (f : TextFault). WritesText {A = Unit {0}} old new journal (Err f)) (sym h) part

-- memory was wanting, and the first lines were written
pub after_want_of_memory : {A : Type 0} (r : Result A TextFault) (old new : Option (List ℕ)) (journal : Journal) → IsErrAnd r (λ fault. fault ≡ Memory) → (n : ℕ) × Appends old new (first_lines n journal.limits journal.entries) → WritesText old new journal r
after_want_of_memory (Ok done) old new journal h part = absurd h
after_want_of_memory (Err fault) old new journal h part = subst (λ (f : TextFault). WritesText {A = Unit {0}} old new journal (Err f)) (sym h) part
