-- What is read was written, and what was written is read.
use Rattle.std.proofs.Common.{◌≡◌, ℕ, ◌≤◌, ◌<◌, ◌^◌, ◌-◌, true, false, List, [], ◌∷◌, ◌++◌, Option, Some, None, IfSome, ◌⊎◌, inl, inr, refl, sym, ap, subst, ◌∙◌, append_assoc, append-nil, arith, decimal, codes}
use Rattle.dine_words.specs.declared.task.Task.{Task}
use Rattle.dine_words.specs.declared.task.State.TheVariants as state
use Rattle.dine_words.specs.declared.call.Call.{Call}
use Rattle.dine_words.specs.declared.call.Call.TheVariants as call
use Rattle.dine_words.specs.declared.call.Refusal.{Refusal}
use Rattle.dine_words.specs.declared.call.Refusal.TheVariants.{Full, Unknown, Same, Already, Apart, BothEating, NoRoom, WrongState, NotYet}
use Rattle.dine_words.specs.declared.call.Reply.{Reply}
use Rattle.dine_words.specs.declared.call.Reply.TheVariants.{Joined, Done, Refused}
use Rattle.dine_words.specs.declared.entry.Entry.{Entry}
use Rattle.dine_words.specs.declared.call_word.CallOnOne.{CallOnOne}
use Rattle.dine_words.specs.declared.call_word.CallOnOne.TheVariants as one
use Rattle.dine_words.specs.declared.call_word.CallOnTwo.{CallOnTwo}
use Rattle.dine_words.specs.declared.call_word.CallOnTwo.TheVariants as two
use Rattle.dine_words.specs.declared.version.JournalVersion.{JournalVersion}
use Rattle.std.proofs.lemmas.Bool.{cases_Bool}
use Rattle.dine_words.specs.CallWords.{call_about_one, call_about_two, join_word, opening_on_one, opening_on_two}
use Rattle.dine_words.specs.Versions.{has_call, has_call_on_one, written_version}
use Rattle.dine_words.specs.Texts.{task_text, call_text, refusal_text, reply_text, entry_text, FitsTask, FitsReply, FitsCall, FitsEntry, IsEntryOf}
use Rattle.dine_words.specs.Reading.{◌>>=◌, begins_with_digit, number_at, word_at, task_at, tasks_at, of_task, of_tasks, after_or, just, one_at, one_or_other, two_at, two_or_join, call_at, refusal_at, of_refusal, reply_at, asked_at, answer_at, entry_at, whole}
use Rattle.dine_words.proofs.Numbers.{number_at-decimal, number_at-Some}
use Rattle.dine_words.proofs.Words.{word_at-append, word_at-Some}

-- ---- steps

-- what is found in two steps is found in each
pub bind-Some : {A B : Type 0} (o : Option A) (next : A → Option B) (y : B) → (o >>= next) ≡ Some y → (x : A) × (o ≡ Some x) × (next x ≡ Some y)
bind-Some None next y h = absurd (let k : None ≡ Some y = h in cc)
bind-Some (Some x) next y h = (x, refl, h)

-- two that are found with what comes after them
same_found : {A : Type 0} (a x : A) (after rest : List ℕ) → ◌≡◌ {A = Option (A × List ℕ)} (Some (a, after)) (Some (x, rest)) → (a ≡ x) × (after ≡ rest)
same_found {A} a x after rest h =
    let first : Option (A × List ℕ) → A = λ o. elim o [ None ↦ x | Some p ↦ p.0 ] in
    let second : Option (A × List ℕ) → List ℕ = λ o. elim o [ None ↦ rest | Some p ↦ p.1 ] in
    (ap first h, ap second h)

-- either the word was found, or the other
pub after_or-Some : {A : Type 0} (o : Option (List ℕ)) (next : List ℕ → Option A) (other : Option A) (y : A) → after_or o next other ≡ Some y → ((rest : List ℕ) × (o ≡ Some rest) × (next rest ≡ Some y)) ⊎ (other ≡ Some y)
after_or-Some None next other y h = inr h
after_or-Some (Some rest) next other y h = inl (rest, refl, h)

-- what isn't found is nothing
pub nothing : {A : Type 0} (p : A × List ℕ) → ◌≡◌ {A = Option (A × List ℕ)} None (Some p) → ⊥
nothing p h = cc

-- ---- tasks

-- the parts of a task's text, with what follows, grouped as a reader meets them
dotted : (s b : ℕ) (rest : List ℕ) → (decimal s ++ codes "." ++ decimal b) ++ rest ≡ decimal s ++ (codes "." ++ (decimal b ++ rest))
dotted s b rest = grouped (decimal s) (decimal b) rest
  where
    grouped : (a d e : List ℕ) → (a ++ codes "." ++ d) ++ e ≡ a ++ (codes "." ++ (d ++ e))
    grouped a d e = simp append_assoc refl

-- the text of a task is read as that task, where no digit follows
pub task_at-text : (u : Task) (rest : List ℕ) → FitsTask u → begins_with_digit rest ≡ false → task_at (task_text u ++ rest) ≡ Some (u, rest)
task_at-text u rest fits ends =
    let slot : number_at (2 ^ 32 - 1) (decimal u.slot ++ (codes "." ++ (decimal u.born ++ rest))) ≡ Some (u.slot, codes "." ++ (decimal u.born ++ rest)) = let low : u.slot < 2 ^ 32 = fits.0 in number_at-decimal (2 ^ 32 - 1) u.slot (codes "." ++ (decimal u.born ++ rest)) (omega arith) (omega arith) refl in
    let born : number_at (2 ^ 64 - 1) (decimal u.born ++ rest) ≡ Some (u.born, rest) = let low : u.born < 2 ^ 64 = fits.1 in number_at-decimal (2 ^ 64 - 1) u.born rest (omega arith) (omega arith) ends in
    ap task_at (dotted u.slot u.born rest) ∙ rw (slot, born) refl

-- what is read as a task is a task's text
pub task_at-Some : (bytes rest : List ℕ) (u : Task) → task_at bytes ≡ Some (u, rest) → FitsTask u × (bytes ≡ task_text u ++ rest)
task_at-Some bytes rest u h =
    let (slot, at_slot, next) = bind-Some (number_at (2 ^ 32 - 1) bytes) _ _ h in
    let (dot, at_dot, later) = bind-Some (word_at (codes ".") slot.1) _ _ next in
    let (born, at_born, last) = bind-Some (number_at (2 ^ 64 - 1) dot) _ _ later in
    let of : ℕ → ℕ → Task = λ s b. record { slot = s; born = b } in
    let (who, what) = same_found (of slot.0 born.0) u born.1 rest last in
    let first = (number_at-Some (2 ^ 32 - 1) bytes slot.1 slot.0 (omega arith) at_slot).text in
    let low : slot.0 ≤ 2 ^ 32 - 1 = (number_at-Some (2 ^ 32 - 1) bytes slot.1 slot.0 (omega arith) at_slot).bound in
    let early : born.0 ≤ 2 ^ 64 - 1 = (number_at-Some (2 ^ 64 - 1) dot born.1 born.0 (omega arith) at_born).bound in
    let fits : FitsTask (of slot.0 born.0) = (omega arith, omega arith) in
    let second = word_at-Some (codes ".") slot.1 dot at_dot in
    let third = (number_at-Some (2 ^ 64 - 1) dot born.1 born.0 (omega arith) at_born).text in
    let joined : bytes ≡ decimal slot.0 ++ (codes "." ++ (decimal born.0 ++ born.1)) = first ∙ ap (λ r. decimal slot.0 ++ r) (second ∙ ap (λ r. codes "." ++ r) third) in
    (subst FitsTask who fits, joined ∙ sym (dotted slot.0 born.0 born.1) ∙ ap (λ w. task_text w ++ born.1) who ∙ ap (λ r. task_text u ++ r) what)

-- ---- what is made of tasks. Its text is a word and the tasks' texts

-- the text of a task, where what is made of a task is read
of_task-text : {A : Type 0} (make : Task → A) (u : Task) (rest : List ℕ) → FitsTask u → begins_with_digit rest ≡ false → of_task make (task_text u ++ rest) ≡ Some (make u, rest)
of_task-text make u rest fits ends = rw (task_at-text u rest fits ends) refl

-- what is read as made of a task is a word and that task's text
of_task-Some : {A : Type 0} (make : Task → A) (text : A → List ℕ) (Fits : A → Type 0) (word bytes after rest : List ℕ) (x : A) → ((u : Task) → text (make u) ≡ word ++ task_text u) → ((u : Task) → FitsTask u → Fits (make u)) → word_at word bytes ≡ Some after → of_task make after ≡ Some (x, rest) → Fits x × (bytes ≡ text x ++ rest)
of_task-Some make text Fits word bytes after rest x says fit front h =
    let (u, at, last) = bind-Some (task_at after) _ _ h in
    let (who, what) = same_found (make u.0) x u.1 rest last in
    let told = task_at-Some after u.1 u.0 at in
    (subst Fits who (fit u.0 told.0), word_at-Some word bytes after front ∙ ap (λ r. word ++ r) told.1 ∙ sym (append_assoc word (task_text u.0) u.1) ∙ ap (λ r. r ++ u.1) (sym (says u.0)) ∙ ap (λ y. text y ++ u.1) who ∙ ap (λ r. text x ++ r) what)

-- the texts of two tasks, one space between, are read as these two
tasks_at-text : (u v : Task) (rest : List ℕ) → FitsTask u → FitsTask v → begins_with_digit rest ≡ false → tasks_at (task_text u ++ (codes " " ++ (task_text v ++ rest))) ≡ Some (u, v, rest)
tasks_at-text u v rest first second ends = rw (task_at-text u (codes " " ++ (task_text v ++ rest)) first refl, task_at-text v rest second ends) refl

-- what is read as two tasks is their texts, one space between
tasks_at-Some : (bytes rest : List ℕ) (u v : Task) → tasks_at bytes ≡ Some (u, v, rest) → FitsTask u × FitsTask v × (bytes ≡ task_text u ++ (codes " " ++ (task_text v ++ rest)))
tasks_at-Some bytes rest u v h =
    let (first, at_first, next) = bind-Some (task_at bytes) _ _ h in
    let (space, at_space, later) = bind-Some (word_at (codes " ") first.1) _ _ next in
    let (second, at_second, last) = bind-Some (task_at space) _ _ later in
    let made : (first.0, second.0, second.1) ≡ (u, v, rest) = let k : Some (first.0, second.0, second.1) ≡ Some (u, v, rest) = last in cc in
    let a : first.0 ≡ u = ap (λ (p : Task × Task × List ℕ). p.0) made in
    let b : second.0 ≡ v = ap (λ (p : Task × Task × List ℕ). p.1) made in
    let r : second.1 ≡ rest = ap (λ (p : Task × Task × List ℕ). p.2) made in
    let told = task_at-Some bytes first.1 first.0 at_first in
    let told_second = task_at-Some space second.1 second.0 at_second in (
      subst FitsTask a told.0,
      subst FitsTask b told_second.0,
      told.1
          ∙ ap (λ w. task_text w ++ first.1) a
          ∙ ap (λ w. task_text u ++ w) (word_at-Some (codes " ") first.1 space at_space)
          ∙ ap (λ w. task_text u ++ (codes " " ++ w)) told_second.1
          ∙ ap (λ w. task_text u ++ (codes " " ++ (task_text w ++ second.1))) b
          ∙ ap (λ w. task_text u ++ (codes " " ++ (task_text v ++ w))) r,
    )

-- the parts of a call's text about two tasks, with what follows, grouped as a reader meets them
two_tasks : (word : List ℕ) (u v : Task) (rest : List ℕ) → (word ++ task_text u ++ codes " " ++ task_text v) ++ rest ≡ word ++ (task_text u ++ (codes " " ++ (task_text v ++ rest)))
two_tasks word u v rest = grouped word (task_text u) (task_text v) rest
  where
    grouped : (a b d e : List ℕ) → (a ++ b ++ codes " " ++ d) ++ e ≡ a ++ (b ++ (codes " " ++ (d ++ e)))
    grouped a b d e = simp append_assoc refl

-- what is read as made of two tasks is a word and their texts
of_tasks-Some : {A : Type 0} (make : Task → Task → A) (text : A → List ℕ) (Fits : A → Type 0) (word bytes after rest : List ℕ) (x : A) → ((u v : Task) → text (make u v) ≡ word ++ task_text u ++ codes " " ++ task_text v) → ((u v : Task) → FitsTask u → FitsTask v → Fits (make u v)) → word_at word bytes ≡ Some after → of_tasks make after ≡ Some (x, rest) → Fits x × (bytes ≡ text x ++ rest)
of_tasks-Some make text Fits word bytes after rest x says fit front h =
    let (u, at, last) = bind-Some (tasks_at after) _ _ h in
    let (who, what) = same_found (make u.0 u.1) x u.2 rest last in
    let told = tasks_at-Some after u.2 u.0 u.1 at in
    (subst Fits who (fit u.0 u.1 told.0 told.1), word_at-Some word bytes after front ∙ ap (λ r. word ++ r) told.2 ∙ sym (two_tasks word u.0 u.1 u.2) ∙ ap (λ r. r ++ u.2) (sym (says u.0 u.1)) ∙ ap (λ y. text y ++ u.2) who ∙ ap (λ r. text x ++ r) what)

-- what is read as a value that a word alone stands for is its text
pub just-Some : {A : Type 0} (y x : A) (text : A → List ℕ) (bytes after rest : List ℕ) → word_at (text y) bytes ≡ Some after → just y after ≡ Some (x, rest) → bytes ≡ text x ++ rest
just-Some y x text bytes after rest front h =
    let (who, what) = same_found y x after rest h in
    word_at-Some (text y) bytes after front ∙ ap (λ z. text z ++ after) who ∙ ap (λ r. text x ++ r) what

-- the first of some things that a text begins with, and the bytes after its text
abbrev first_read : {A : Type 0} → (A → List ℕ) → List A → List ℕ → Option (A × List ℕ)
first_read text [] bytes = None
first_read text (x ∷ xs) bytes = after_or (word_at (text x) bytes) (just x) (first_read text xs bytes)

-- its text stands at the front
pub first_read-Some : {A : Type 0} (text : A → List ℕ) (xs : List A) (bytes rest : List ℕ) (y : A) → first_read text xs bytes ≡ Some (y, rest) → bytes ≡ text y ++ rest
first_read-Some text [] bytes rest y h = absurd (nothing (y, rest) h)
first_read-Some text (x ∷ xs) bytes rest y h = elim (after_or-Some (word_at (text x) bytes) _ _ _ h) [
  | inl f ↦ just-Some x y text bytes f.0 rest f.1 f.2
  | inr next ↦ first_read-Some text xs bytes rest y next
]

-- what is read so fits, if that value does
just-fits : {A : Type 0} (y x : A) (Fits : A → Type 0) (after rest : List ℕ) → Fits y → just y after ≡ Some (x, rest) → Fits x
just-fits y x Fits after rest fit h = subst Fits (same_found y x after rest h).0 fit

-- ---- calls

-- the tasks of the call fit, and an entry of the version can have it
abbrev pub IsCallOf : JournalVersion → Call → Type 0
IsCallOf version c = FitsCall c × (has_call version c ≡ true)

-- the text of a call about one task is the word, a space and the task
on_one-text : (asked : CallOnOne) (u : Task) → call_text (call_about_one asked u) ≡ opening_on_one asked ++ task_text u
on_one-text one.Leave u = refl
on_one-text one.Hungry u = refl
on_one-text one.Begin u = refl
on_one-text one.Finish u = refl
on_one-text one.Withdraw u = refl

-- it is a version's where its task fits and the version has its word
on_one-is : (v : JournalVersion) (asked : CallOnOne) (u : Task) → has_call_on_one v asked ≡ true → FitsTask u → IsCallOf v (call_about_one asked u)
on_one-is v one.Leave u has fits = (fits, has)
on_one-is v one.Hungry u has fits = (fits, has)
on_one-is v one.Begin u has fits = (fits, has)
on_one-is v one.Finish u has fits = (fits, has)
on_one-is v one.Withdraw u has fits = (fits, has)

-- its word is found at the front
one_at-text : (asked : CallOnOne) (rest : List ℕ) → one_at (opening_on_one asked ++ rest) ≡ Some (asked, rest)
one_at-text one.Leave rest = refl
one_at-text one.Hungry rest = refl
one_at-text one.Begin rest = refl
one_at-text one.Finish rest = refl
one_at-text one.Withdraw rest = refl

-- and no other is found
pub one_at-Some : (bytes rest : List ℕ) (asked : CallOnOne) → one_at bytes ≡ Some (asked, rest) → bytes ≡ opening_on_one asked ++ rest
one_at-Some bytes rest asked h = first_read-Some opening_on_one (one.Hungry ∷ one.Begin ∷ one.Finish ∷ one.Leave ∷ one.Withdraw ∷ []) bytes rest asked h

-- the text of a call about two tasks is the word, a space and the tasks
on_two-text : (asked : CallOnTwo) (u v : Task) → call_text (call_about_two asked u v) ≡ opening_on_two asked ++ task_text u ++ codes " " ++ task_text v
on_two-text two.Conflict u v = refl
on_two-text two.Separate u v = refl

-- it is each version's where its tasks fit
on_two-is : (version : JournalVersion) (asked : CallOnTwo) (u v : Task) → FitsTask u → FitsTask v → IsCallOf version (call_about_two asked u v)
on_two-is version two.Conflict u v first second = ((first, second), refl)
on_two-is version two.Separate u v first second = ((first, second), refl)

-- its word is found at the front
two_at-text : (asked : CallOnTwo) (rest : List ℕ) → two_at (opening_on_two asked ++ rest) ≡ Some (asked, rest)
two_at-text two.Conflict rest = refl
two_at-text two.Separate rest = refl

-- where no word of a call about one task is
two_at-not_one : (asked : CallOnTwo) (rest : List ℕ) → one_at (opening_on_two asked ++ rest) ≡ None
two_at-not_one two.Conflict rest = refl
two_at-not_one two.Separate rest = refl

-- and no other is found
two_at-Some : (bytes rest : List ℕ) (asked : CallOnTwo) → two_at bytes ≡ Some (asked, rest) → bytes ≡ opening_on_two asked ++ rest
two_at-Some bytes rest asked h = first_read-Some opening_on_two (two.Conflict ∷ two.Separate ∷ []) bytes rest asked h

-- a call about one task is read
one_is_read : (v : JournalVersion) (asked : CallOnOne) (u : Task) (rest : List ℕ) → FitsTask u → has_call_on_one v asked ≡ true → begins_with_digit rest ≡ false → call_at v ((opening_on_one asked ++ task_text u) ++ rest) ≡ Some (call_about_one asked u, rest)
one_is_read v asked u rest fits has ends =
    let text = opening_on_one asked ++ (task_text u ++ rest) in
    ap (call_at v) (append_assoc (opening_on_one asked) (task_text u) rest)
    ∙ ap (λ o. one_or_other v o text) (one_at-text asked (task_text u ++ rest))
    ∙ rw has (of_task-text (call_about_one asked) u rest fits ends)

-- and one about two tasks
two_is_read : (version : JournalVersion) (asked : CallOnTwo) (u v : Task) (rest : List ℕ) → FitsTask u → FitsTask v → begins_with_digit rest ≡ false → call_at version ((opening_on_two asked ++ task_text u ++ codes " " ++ task_text v) ++ rest) ≡ Some (call_about_two asked u v, rest)
two_is_read version asked u v rest first second ends =
    let tasks = task_text u ++ (codes " " ++ (task_text v ++ rest)) in
    ap (call_at version) (two_tasks (opening_on_two asked) u v rest)
    ∙ ap (λ o. one_or_other version o (opening_on_two asked ++ tasks)) (two_at-not_one asked tasks)
    ∙ ap (λ o. two_or_join o (opening_on_two asked ++ tasks)) (two_at-text asked tasks)
    ∙ rw (tasks_at-text u v rest first second ends) refl

-- a call of the version is read, whatever follows it that is no digit
pub call_at-text : (v : JournalVersion) (c : Call) (rest : List ℕ) → IsCallOf v c → begins_with_digit rest ≡ false → call_at v (call_text c ++ rest) ≡ Some (c, rest)
call_at-text v call.Join rest is ends = refl
call_at-text v (call.Leave u) rest is ends = one_is_read v one.Leave u rest is.0 is.1 ends
call_at-text v (call.Conflict t u) rest is ends = two_is_read v two.Conflict t u rest is.0.0 is.0.1 ends
call_at-text v (call.Separate t u) rest is ends = two_is_read v two.Separate t u rest is.0.0 is.0.1 ends
call_at-text v (call.Hungry u) rest is ends = one_is_read v one.Hungry u rest is.0 is.1 ends
call_at-text v (call.Begin u) rest is ends = one_is_read v one.Begin u rest is.0 is.1 ends
call_at-text v (call.Finish u) rest is ends = one_is_read v one.Finish u rest is.0 is.1 ends
call_at-text v (call.Withdraw u) rest is ends = one_is_read v one.Withdraw u rest is.0 is.1 ends

module _ (v : JournalVersion) (bytes rest : List ℕ) (c : Call) where
  -- a call that isn't about one task
  other_was_written : (o : Option (CallOnTwo × List ℕ)) → two_at bytes ≡ o → two_or_join o bytes ≡ Some (c, rest) → IsCallOf v c × (bytes ≡ call_text c ++ rest)
  other_was_written None found h = elim (after_or-Some (word_at join_word bytes) _ _ _ h) [
    | inl f ↦ (just-fits call.Join c (IsCallOf v) f.0 rest (tt, refl) f.2, just-Some call.Join c call_text bytes f.0 rest f.1 f.2)
    | inr h1 ↦ absurd (nothing (c, rest) h1)
  ]
  other_was_written (Some (asked, after)) found h =
      let front = ap (word_at (opening_on_two asked)) (two_at-Some bytes after asked found) ∙ word_at-append (opening_on_two asked) after in
      of_tasks-Some (call_about_two asked) call_text (IsCallOf v) (opening_on_two asked) bytes after rest c (on_two-text asked) (on_two-is v asked) front h

  -- a call about one task, or another
  one_was_written : (o : Option (CallOnOne × List ℕ)) → one_at bytes ≡ o → one_or_other v o bytes ≡ Some (c, rest) → IsCallOf v c × (bytes ≡ call_text c ++ rest)
  one_was_written None found h = other_was_written (two_at bytes) refl h
  one_was_written (Some (asked, after)) found h = elim (cases_Bool (has_call_on_one v asked)) [
    | inl has ↦
        let front = ap (word_at (opening_on_one asked)) (one_at-Some bytes after asked found) ∙ word_at-append (opening_on_one asked) after in
        of_task-Some (call_about_one asked) call_text (IsCallOf v) (opening_on_one asked) bytes after rest c (on_one-text asked) (λ u fits. on_one-is v asked u has fits) front (rw has at h)
    | inr lacks ↦ absurd (nothing (c, rest) (rw lacks at h))
  ]

  -- a call that is read was written, and is the version's
  pub call_at-Some : call_at v bytes ≡ Some (c, rest) → IsCallOf v c × (bytes ≡ call_text c ++ rest)
  call_at-Some h = one_was_written (one_at bytes) refl h

-- ---- refusals and replies

-- the text of a refusal is read as that refusal
pub refusal_at-text : (r : Refusal) (rest : List ℕ) → refusal_at (refusal_text r ++ rest) ≡ Some (r, rest)
refusal_at-text Full rest = refl
refusal_at-text (WrongState state.Thinking) rest = refl
refusal_at-text r rest = refl

-- the refusals, in the order in which their texts are tried
abbrev all_refusals : List Refusal
all_refusals =
    NotYet ∷ WrongState state.Thinking ∷ WrongState state.Hungry ∷ WrongState state.Eating ∷ Full ∷ Unknown ∷ Same ∷ Already ∷ Apart ∷ BothEating ∷ NoRoom ∷ []

-- what is read as a refusal is a refusal's text
refusal_at-Some : (bytes rest : List ℕ) (r : Refusal) → refusal_at bytes ≡ Some (r, rest) → bytes ≡ refusal_text r ++ rest
refusal_at-Some bytes rest r h = first_read-Some refusal_text all_refusals bytes rest r h

-- the text of a reply is read as that reply, where no digit follows
pub reply_at-text : (r : Reply) (rest : List ℕ) → FitsReply r → begins_with_digit rest ≡ false → reply_at (reply_text r ++ rest) ≡ Some (r, rest)
reply_at-text (Joined u) rest fits ends = of_task-text Joined u rest fits ends
reply_at-text Done rest fits ends = refl
reply_at-text (Refused refusal) rest fits ends = rw (refusal_at-text refusal rest) refl

-- what is read as a refusal behind its word is a reply's text
of_refusal-Some : (bytes rest after : List ℕ) (r : Reply) → word_at (codes "refused ") bytes ≡ Some after → of_refusal after ≡ Some (r, rest) → FitsReply r × (bytes ≡ reply_text r ++ rest)
of_refusal-Some bytes rest after r front h =
    let (refusal, at, last) = bind-Some (refusal_at after) _ _ h in
    let (who, what) = same_found (Refused refusal.0) r refusal.1 rest last in
    (subst FitsReply who tt, word_at-Some (codes "refused ") bytes after front ∙ ap (λ w. codes "refused " ++ w) (refusal_at-Some after refusal.1 refusal.0 at) ∙ sym (append_assoc (codes "refused ") (refusal_text refusal.0) refusal.1) ∙ ap (λ y. reply_text y ++ refusal.1) who ∙ ap (λ w. reply_text r ++ w) what)

-- a reply that is read was written
pub reply_at-Some : (bytes rest : List ℕ) (r : Reply) → reply_at bytes ≡ Some (r, rest) → FitsReply r × (bytes ≡ reply_text r ++ rest)
reply_at-Some bytes rest r h =
    elim (after_or-Some (word_at (codes "done") bytes) _ _ _ h) [
      | inl f ↦ (just-fits Done r FitsReply f.0 rest tt f.2, just-Some Done r reply_text bytes f.0 rest f.1 f.2)
      | inr h1 ↦ elim (after_or-Some (word_at (codes "refused ") bytes) _ _ _ h1) [
        | inl f ↦ of_refusal-Some bytes rest f.0 r f.1 f.2
        | inr h2 ↦ elim (after_or-Some (word_at (codes "joined ") bytes) _ _ _ h2) [
          | inl f ↦ of_task-Some Joined reply_text FitsReply (codes "joined ") bytes f.0 rest r (λ u. refl) (λ u fits. fits) f.1 f.2
          | inr h3 ↦ absurd (nothing (r, rest) h3)
        ]
      ]
    ]

-- ---- entries

-- the parts of an entry's text, with what follows, grouped as a reader meets them
arrowed : (p : ℕ) (c : Call) (r : Reply) (rest : List ℕ) → (decimal p ++ codes " " ++ call_text c ++ codes " -> " ++ reply_text r) ++ rest ≡ decimal p ++ (codes " " ++ (call_text c ++ (codes " -> " ++ (reply_text r ++ rest))))
arrowed p c r rest = grouped (decimal p) (call_text c) (reply_text r) rest
  where
    grouped : (a b d e : List ℕ) → (a ++ codes " " ++ b ++ codes " -> " ++ d) ++ e ≡ a ++ (codes " " ++ (b ++ (codes " -> " ++ (d ++ e))))
    grouped a b d e = simp append_assoc refl

-- the entry of a pass and a call, with the reply that was found
abbrev of : ℕ → Call → Reply × List ℕ → Option (Entry × List ℕ)
of pass asked answer = Some (record { pass = pass; call = asked; reply = answer.0 }, answer.1)

-- an entry, once its pass and its call are read: its answer follows
abbrev answered : ℕ × Call × List ℕ → Option (Entry × List ℕ)
answered asked = answer_at asked.2 >>= of asked.0 asked.1

module _ (v : JournalVersion) where
  -- the entry is made where the reply is read, or afterwards: that is the same
  after_reply : (pass : ℕ) (asked : Call) (o : Option (Reply × List ℕ)) → (o >>= of pass asked) ≡ ((o >>= Some) >>= of pass asked)
  after_reply pass asked None = refl
  after_reply pass asked (Some reply) = refl

  -- the same from the arrow on
  after_arrow : (pass : ℕ) (asked : Call) (o : Option (List ℕ)) → (o >>= λ arrow. reply_at arrow >>= of pass asked) ≡ ((o >>= λ arrow. reply_at arrow >>= Some) >>= of pass asked)
  after_arrow pass asked None = refl
  after_arrow pass asked (Some arrow) = after_reply pass asked (reply_at arrow)

  -- from the call on
  after_call : (pass : ℕ) (o : Option (Call × List ℕ)) → (o >>= λ c. word_at (codes " -> ") c.1 >>= λ arrow. reply_at arrow >>= of pass c.0) ≡ ((o >>= λ c. Some (pass, c.0, c.1)) >>= answered)
  after_call pass None = refl
  after_call pass (Some c) = after_arrow pass c.0 (word_at (codes " -> ") c.1)

  -- from the space behind the pass on
  after_space : (pass : ℕ) (o : Option (List ℕ)) → (o >>= λ space. call_at v space >>= λ c. word_at (codes " -> ") c.1 >>= λ arrow. reply_at arrow >>= of pass c.0) ≡ ((o >>= λ space. call_at v space >>= λ c. Some (pass, c.0, c.1)) >>= answered)
  after_space pass None = refl
  after_space pass (Some space) = after_call pass (call_at v space)

  -- and from the pass on
  after_pass : (o : Option (ℕ × List ℕ)) → (o >>= λ p. word_at (codes " ") p.1 >>= λ space. call_at v space >>= λ c. word_at (codes " -> ") c.1 >>= λ arrow. reply_at arrow >>= of p.0 c.0) ≡ ((o >>= λ p. word_at (codes " ") p.1 >>= λ space. call_at v space >>= λ c. Some (p.0, c.0, c.1)) >>= answered)
  after_pass None = refl
  after_pass (Some p) = after_space p.0 (word_at (codes " ") p.1)

  -- an entry is its pass and its call, and then its reply
  pub entry_by_parts : (bytes : List ℕ) → entry_at v bytes ≡ (asked_at v bytes >>= answered)
  entry_by_parts bytes = after_pass (number_at (2 ^ 32 - 1) bytes)

  -- where no pass and call are read, no entry is
  pub entry_unasked : (bytes : List ℕ) → asked_at v bytes ≡ None → entry_at v bytes ≡ None
  entry_unasked bytes none = entry_by_parts bytes ∙ ap (λ o. o >>= answered) none

  -- where no reply is read behind them, no entry is
  pub entry_unanswered : (bytes rest : List ℕ) (pass : ℕ) (asked : Call) → asked_at v bytes ≡ Some (pass, asked, rest) → answer_at rest ≡ None → entry_at v bytes ≡ None
  entry_unanswered bytes rest pass asked front none = entry_by_parts bytes ∙ ap (λ o. o >>= answered) front ∙ ap (λ o. o >>= of pass asked) none

  -- where one is, the entry is that pass, call and reply
  pub entry_answered : (bytes rest after : List ℕ) (pass : ℕ) (asked : Call) (reply : Reply) → asked_at v bytes ≡ Some (pass, asked, rest) → answer_at rest ≡ Some (reply, after) → entry_at v bytes ≡ Some (record { pass = pass; call = asked; reply = reply }, after)
  entry_answered bytes rest after pass asked reply front found = entry_by_parts bytes ∙ ap (λ o. o >>= answered) front ∙ ap (λ o. o >>= of pass asked) found

-- an entry of the version is read, whatever follows it that is no digit
pub entry_at-text : (v : JournalVersion) (e : Entry) (rest : List ℕ) → IsEntryOf v e → begins_with_digit rest ≡ false → entry_at v (entry_text e ++ rest) ≡ Some (e, rest)
entry_at-text v e rest is ends =
    let low : e.pass < 2 ^ 32 = is.fits.0 in
    let pass = number_at-decimal (2 ^ 32 - 1) e.pass (codes " " ++ (call_text e.call ++ (codes " -> " ++ (reply_text e.reply ++ rest)))) (omega arith) (omega arith) refl in
    let asked = call_at-text v e.call (codes " -> " ++ (reply_text e.reply ++ rest)) (is.fits.1, is.has) refl in
    let answered = reply_at-text e.reply rest is.fits.2 ends in
    ap (entry_at v) (arrowed e.pass e.call e.reply rest) ∙ rw (pass, asked, answered) refl

-- an entry that is read was written, and is the version's
pub entry_at-Some : (v : JournalVersion) (bytes rest : List ℕ) (e : Entry) → entry_at v bytes ≡ Some (e, rest) → IsEntryOf v e × (bytes ≡ entry_text e ++ rest)
entry_at-Some v bytes rest e h =
    let (pass, at_pass, h1) = bind-Some (number_at (2 ^ 32 - 1) bytes) _ _ h in
    let (space, at_space, h2) = bind-Some (word_at (codes " ") pass.1) _ _ h1 in
    let (asked, at_call, h3) = bind-Some (call_at v space) _ _ h2 in
    let (arrow, at_arrow, h4) = bind-Some (word_at (codes " -> ") asked.1) _ _ h3 in
    let (answered, at_reply, h5) = bind-Some (reply_at arrow) _ _ h4 in
    let of : ℕ → Call → Reply → Entry = λ p c r. record { pass = p; call = c; reply = r } in
    let (who, what) = same_found (of pass.0 asked.0 answered.0) e answered.1 rest h5 in
    let number = number_at-Some (2 ^ 32 - 1) bytes pass.1 pass.0 (omega arith) at_pass in
    let low : pass.0 ≤ 2 ^ 32 - 1 = number.bound in
    let asks = call_at-Some v space asked.1 asked.0 at_call in
    let answers = reply_at-Some arrow answered.1 answered.0 at_reply in
    let joined : bytes ≡ decimal pass.0 ++ (codes " " ++ (call_text asked.0 ++ (codes " -> " ++ (reply_text answered.0 ++ answered.1)))) =
    number.text
    ∙ ap (λ r. decimal pass.0 ++ r) (word_at-Some (codes " ") pass.1 space at_space
    ∙ ap (λ r. codes " " ++ r) (asks.1
    ∙ ap (λ r. call_text asked.0 ++ r) (word_at-Some (codes " -> ") asked.1 arrow at_arrow
    ∙ ap (λ r. codes " -> " ++ r) answers.1))) in
    let small : pass.0 < 2 ^ 32 = omega arith in
    let is : IsEntryOf v (of pass.0 asked.0 answered.0) = record { fits = (small, asks.0.0, answers.0); has = asks.0.1 } in
    (subst (IsEntryOf v) who is, joined ∙ sym (arrowed pass.0 asked.0 answered.0 answered.1) ∙ ap (λ w. entry_text w ++ answered.1) who ∙ ap (λ r. entry_text e ++ r) what)

-- ---- the whole of the bytes

-- what is the whole of a text is found at its front, with nothing behind it
whole-Some : {A : Type 0} (o : Option (A × List ℕ)) (x : A) → whole o ≡ Some x → ◌≡◌ {A = Option (A × List ℕ)} o (Some (x, []))
whole-Some None x h = absurd (let k : None ≡ Some x = h in cc)
whole-Some (Some (y, [])) x h = ap (λ z. Some (z, [])) (let k : Some y ≡ Some x = h in cc)
whole-Some (Some (y, b ∷ bs)) x h = absurd (let k : None ≡ Some x = h in cc)

-- a task is read from its text alone
pub task-found : (bytes : List ℕ) (o : Option Task) → o ≡ whole (task_at bytes) → IfSome o (λ u. bytes ≡ task_text u)
task-found bytes None e = tt
task-found bytes (Some u) e = (task_at-Some bytes [] u (whole-Some (task_at bytes) u (sym e))).1 ∙ append-nil (task_text u)

-- the text of a task and nothing else is read as that task
pub task-only : (u : Task) (bytes : List ℕ) → FitsTask u → bytes ≡ task_text u → whole (task_at bytes) ≡ Some u
task-only u bytes fits e = ap (λ b. whole (task_at b)) (e ∙ sym (append-nil (task_text u))) ∙ ap whole (task_at-text u [] fits refl)

-- the version in which journals are written has each call
has_each : (c : Call) → has_call written_version c ≡ true
has_each call.Join = refl
has_each c = refl

-- and so is an entry
pub entry-found : (bytes : List ℕ) (o : Option Entry) → o ≡ whole (entry_at written_version bytes) → IfSome o (λ e. bytes ≡ entry_text e)
entry-found bytes None e = tt
entry-found bytes (Some x) e = (entry_at-Some written_version bytes [] x (whole-Some (entry_at written_version bytes) x (sym e))).1 ∙ append-nil (entry_text x)

-- the text of an entry and nothing else is read as that entry
pub entry-only : (x : Entry) (bytes : List ℕ) → FitsEntry x → bytes ≡ entry_text x → whole (entry_at written_version bytes) ≡ Some x
entry-only x bytes fits e =
    ap (λ b. whole (entry_at written_version b)) (e ∙ sym (append-nil (entry_text x)))
    ∙ ap whole (entry_at-text written_version x [] record { fits = fits; has = has_each x.call } refl)
