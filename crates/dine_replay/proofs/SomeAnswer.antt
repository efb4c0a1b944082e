-- Every text has an answer.
use Rattle.std.proofs.Common.{◌≡◌, ◌≢◌, ◌⊎◌, ℕ, zero, suc, ◌+◌, ◌≤◌, ◌<◌, eqb, List, [], ◌∷◌, ◌++◌, length, Option, Some, None, Result, Ok, Err, inl, inr, refl, sym, ap, ◌∙◌, append_assoc, append-nil, length-append, arith}
use Rattle.std.proofs.lemmas.Bool.{cases_Bool, eqb-true, eq-eqb, false≢true}
use Rattle.std.proofs.lemmas.Slice.Eq.{bytes_eq-Decides}
use Rattle.std.specs.Str.{bytes_eq}
use Rattle.dine_words.specs.declared.task.Task.{Task}
use Rattle.dine_words.specs.declared.call.Refusal.{Refusal}
use Rattle.dine_words.specs.declared.call.Reply.{Reply}
use Rattle.dine_words.specs.declared.call.Reply.TheVariants.{Joined, Done, Refused}
use Rattle.dine_words.specs.declared.entry.Entry.{Entry}
use Rattle.dine_words.specs.declared.limits.Limits.{Limits}
use Rattle.dine_words.specs.declared.version.JournalVersion.{JournalVersion}
use Rattle.dine_table.specs.Table.{opening_table, same_task}
use Rattle.dine_table.specs.Calls.{reply_of}
use Rattle.dine_table.specs.History.{table_after, IsLegal}
use Rattle.dine_words.specs.Texts.{IsEntryOf, entry_text, refusal_text}
use Rattle.dine_words.specs.Versions.{AllowsLimits}
use Rattle.dine_words.specs.Reading.{entry_at, header_at, refusal_at}
use Rattle.dine_words.proofs.CallerLemmas.{entry-fits, entry-found, few_conflicts_of, few_tasks_of, header-found, header_at-Some, header_without_line_feed, no_entry, no_header, no_line_feed, refusal_at-text}
use Rattle.dine_table.proofs.CallerLemmas.{AllByRecursion-push, IsLegalFrom-append, same_task-refl, same_task-true}
use Rattle.dine_journal.proofs.CallerLemmas.{text_of_version-push}
use Rattle.dine_replay.specs.declared.audit_answer.AuditFault.{AuditFault}
use Rattle.dine_replay.specs.declared.audit_answer.AuditFault.TheVariants.{Header, Line, Wrong}
use Rattle.dine_journal.specs.Kept.{Journal}
use Rattle.dine_words.specs.JournalText.{AllFit, HasNoEntry, entry_line, header_line_of, text_of_version}
use Rattle.dine_replay.specs.Audit.{IsAnswer, TellsOfText}

-- ---- two replies are the same, or are not

-- refusals of one text are one, since the text is read as that refusal alone
read_back : (r s : Refusal) → refusal_text r ≡ refusal_text s → r ≡ s
read_back r s same =
    let read : Option (Refusal × List ℕ) → Refusal = λ o. elim o [ None ↦ r | Some found ↦ found.0 ] in
    ap read (sym (refusal_at-text r []) ∙ ap (λ w. refusal_at (w ++ [])) same ∙ refusal_at-text s [])

-- two refusals are one, or they differ
same_refusal : (r s : Refusal) → (r ≡ s) ⊎ (r ≢ s)
same_refusal r s = elim (cases_Bool (bytes_eq (refusal_text r) (refusal_text s))) [
  | inl e ↦ inl (read_back r s ((bytes_eq-Decides (refusal_text r) (refusal_text s)).0 e))
  | inr e ↦ inr (λ h. absurd (false≢true (sym e ∙ (bytes_eq-Decides (refusal_text r) (refusal_text s)).1 (ap refusal_text h))))
]

-- two tasks are one, or they differ
same_task_or_not : (u v : Task) → (u ≡ v) ⊎ (u ≢ v)
same_task_or_not u v = elim (cases_Bool (same_task u v)) [
  | inl e ↦ inl (same_task-true u v e)
  | inr e ↦ inr (λ h. absurd (false≢true (sym e ∙ sym (ap (same_task u) h) ∙ same_task-refl u)))
]

-- two replies of one kind are one, or they differ, as what they tell
same_kind : {X : Type 0} (reply : X → Reply) → ((x y : X) → reply x ≡ reply y → x ≡ y) → (x y : X) → (x ≡ y) ⊎ (x ≢ y) → (reply x ≡ reply y) ⊎ (reply x ≢ reply y)
same_kind reply told x y (inl same) = inl (ap reply same)
same_kind reply told x y (inr other) = inr (λ h. other (told x y h))

-- two replies are one, or they differ
same_reply : (r s : Reply) → (r ≡ s) ⊎ (r ≢ s)
same_reply (Joined u) (Joined v) = same_kind Joined (λ x y h. cc) u v (same_task_or_not u v)
same_reply (Joined u) Done = inr (λ h. absurd (let e : Joined u ≡ Done = h in cc))
same_reply (Joined u) (Refused s) = inr (λ h. absurd (let e : Joined u ≡ Refused s = h in cc))
same_reply Done (Joined v) = inr (λ h. absurd (let e : Done ≡ Joined v = h in cc))
same_reply Done Done = inl refl
same_reply Done (Refused s) = inr (λ h. absurd (let e : Done ≡ Refused s = h in cc))
same_reply (Refused r) (Joined v) = inr (λ h. absurd (let e : Refused r ≡ Joined v = h in cc))
same_reply (Refused r) Done = inr (λ h. absurd (let e : Refused r ≡ Done = h in cc))
same_reply (Refused r) (Refused s) = same_kind Refused (λ x y h. cc) r s (same_refusal r s)

-- ---- line by line

-- a line feed comes first, or does not
feed_or_not : (xs : List ℕ) → ((rest : List ℕ) × (xs ≡ 10 ∷ rest)) ⊎ ((rest : List ℕ) → xs ≢ 10 ∷ rest)
feed_or_not [] = inr (λ rest h. absurd (let e : [] ≡ 10 ∷ rest = h in cc))
feed_or_not (b ∷ bs) = elim (cases_Bool (eqb b 10)) [
  | inl e ↦ inl (bs, ap (λ (x : ℕ). x ∷ bs) (eqb-true b 10 e))
  | inr e ↦ inr (λ rest h. absurd (false≢true (sym e ∙ eq-eqb b 10 (first_of b 10 bs rest h))))
]
  where
    first_of : (x y : ℕ) (us vs : List ℕ) → x ∷ us ≡ y ∷ vs → x ≡ y
    first_of x y us vs h = cc

-- the text has an answer that tells of it
abbrev HasAnswer : List ℕ → Type 0
HasAnswer text = (answer : Result Journal AuditFault) × TellsOfText answer × IsAnswer text answer

-- a text with a byte in front isn't empty
cons-some : (b : ℕ) (bs : List ℕ) → b ∷ bs ≢ []
cons-some b bs h = let e : b ∷ bs ≡ [] = h in cc

-- a line takes a byte at least
shorter-line : (e : Entry) (rest front : List ℕ) → front ≡ entry_line e ++ rest → length rest < length front
shorter-line e rest front is = omega (arith, ap length is, length-append (entry_line e) rest, length-append (entry_text e) (10 ∷ []))

module _ (text : List ℕ) (v : JournalVersion) (limits : Limits) where
  -- the text begins with the lines of this legal history, in this version
  record Begins (history : List Entry) (rest : List ℕ) : Type 0 where
    pub begins : text ≡ text_of_version v limits history ++ rest
    pub allowed : AllowsLimits v limits
    pub fit : AllFit v history
    pub legal : IsLegal limits history

  -- with one more line
  begins-push : (history : List Entry) (front rest : List ℕ) (e : Entry) → Begins history front → IsEntryOf v e → front ≡ entry_line e ++ rest → e.reply ≡ reply_of (table_after limits history) e.call → Begins (history ++ e ∷ []) rest
  begins-push history front rest e p fits is said = record {
    begins = p.begins ∙ ap (λ l. text_of_version v limits history ++ l) is ∙ sym (append_assoc (text_of_version v limits history) (entry_line e) rest) ∙ ap (λ l. l ++ rest) (sym (text_of_version-push v limits history e));
    allowed = p.allowed;
    fit = AllByRecursion-push (IsEntryOf v) history e p.fit fits;
    legal = IsLegalFrom-append (opening_table limits) history e p.legal said;
  }

  -- the next line is no entry's
  refused : (history : List Entry) (b : ℕ) (bs : List ℕ) → Begins history (b ∷ bs) → HasNoEntry v (b ∷ bs) → HasAnswer text
  refused history b bs p none = (
    Err (Line (length history + 1)),
    tt,
    record { version = v; before = record { limits = limits; entries = history }; rest = b ∷ bs; begins = p.begins; allowed = p.allowed; fit = p.fit; legal = p.legal; goes_on = cons-some b bs; no_entry = none; line = refl },
  )

  -- the next line is an entry's: it is wrong, or the history goes on
  next : (history : List Entry) (front after rest : List ℕ) (e : Entry) → Begins history front → entry_at v front ≡ Some (e, after) → after ≡ 10 ∷ rest
      → (Begins (history ++ e ∷ []) rest → length rest < length front → HasAnswer text)
      → HasAnswer text
  next history front after rest e p found feed go_on =
      let fits = entry-fits v front after e found in
      let is = entry-found v front after rest e found feed in
      let wanted = reply_of (table_after limits history) e.call in
      elim (same_reply e.reply wanted) [
        | inl said ↦ go_on (begins-push history front rest e p fits is said) (shorter-line e rest front is)
        | inr other ↦ (
          Err (Wrong (length history + 1) wanted),
          tt,
          record { version = v; before = record { limits = limits; entries = history }; entry = e; rest = rest; begins = p.begins ∙ ap (λ l. text_of_version v limits history ++ l) is; allowed = p.allowed; fit = p.fit; entry_fits = fits; legal = p.legal; says = refl; other = other; line = refl },
        )
      ]

  line : (history : List Entry) (b : ℕ) (bs : List ℕ) (o : Option (Entry × List ℕ)) → entry_at v (b ∷ bs) ≡ o → Begins history (b ∷ bs)
      → ((e : Entry) (rest : List ℕ) → Begins (history ++ e ∷ []) rest → length rest < length (b ∷ bs) → HasAnswer text)
      → HasAnswer text
  line history b bs None found p go_on = refused history b bs p (no_entry v (b ∷ bs) found)
  line history b bs (Some (e, after)) found p go_on = elim (feed_or_not after) [
    | inl (rest, feed) ↦ next history (b ∷ bs) after rest e p found feed (go_on e rest)
    | inr unended ↦ refused history b bs p (no_line_feed v (b ∷ bs) after e found unended)
  ]

  lines : (n : ℕ) (history : List Entry) (rest : List ℕ) → length rest ≤ n → Begins history rest → HasAnswer text
  lines n history [] few p = (
    Ok record { limits = limits; entries = history },
    tt,
    record { version = v; whole = p.begins ∙ append-nil (text_of_version v limits history); allowed = p.allowed; fit = p.fit; legal = p.legal },
  )
  lines zero history (b ∷ bs) few p = absurd (omega arith)
  lines (suc n) history (b ∷ bs) few p =
      line history b bs (entry_at v (b ∷ bs)) refl p (λ e rest more less. lines n (history ++ e ∷ []) rest (omega arith) more)

-- a text has an answer, whatever is read as its header
header : (text : List ℕ) (o : Option (JournalVersion × ℕ × ℕ × List ℕ)) → header_at text ≡ o → HasAnswer text
header text None found = (Err Header, tt, no_header text found)
header text (Some (v, tasks, conflicts, after)) found = elim (feed_or_not after) [
  | inl (rest, feed) ↦
      let at_front = header_at-Some text after v tasks conflicts found in
      let few = at_front.few_tasks in
      let few_too = at_front.few_conflicts in
      let most = few_tasks_of v in
      let most_too = few_conflicts_of v in
      let limits : Limits = record { tasks = tasks; conflicts = conflicts; some_tasks = at_front.some_tasks; tasks_in_range = omega arith; some_conflicts = at_front.some_conflicts; conflicts_in_range = omega arith } in
      let is = header-found v text after rest limits found feed in
      lines text v limits (length rest) [] rest (omega arith) record { begins = is ∙ ap (λ l. l ++ rest) (sym (append-nil (header_line_of v limits))); allowed = (few, few_too); fit = tt; legal = tt }
  | inr unended ↦ (Err Header, tt, header_without_line_feed v text after tasks conflicts found unended)
]

-- every text has an answer
pub some_answer : (text : List ℕ) → HasAnswer text
some_answer text = header text (header_at text) refl
