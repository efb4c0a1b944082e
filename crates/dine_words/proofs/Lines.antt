-- A line at the front of a text: what is read there with its line feed is the line, and where nothing is read no line
-- stands.
use Rattle.std.proofs.Common.{◌≡◌, ◌≢◌, ◌≤◌, ℕ, List, [], ◌∷◌, ◌++◌, Option, Some, None, IfNone, refl, sym, ap, ◌∙◌, subst, append_assoc}
use Rattle.std.specs.Coded.{le_prop}
use Rattle.dine_words.specs.declared.call.Call.{Call}
use Rattle.dine_words.specs.declared.call.Reply.{Reply}
use Rattle.dine_words.specs.declared.entry.Entry.{Entry}
use Rattle.dine_words.specs.declared.limits.Limits.{Limits}
use Rattle.dine_words.specs.declared.version.JournalVersion.{JournalVersion}
use Rattle.dine_words.specs.Ranges.{most_tasks, most_conflicts}
use Rattle.dine_words.specs.Texts.{IsEntryOf, entry_text, header_text}
use Rattle.dine_words.specs.Versions.{AllowsLimits}
use Rattle.dine_words.specs.Reading.{answer_at, asked_at, entry_at, header_at}
use Rattle.dine_words.specs.JournalText.{HasNoEntry, HasNoHeader, entry_line, header_line_of}
use Rattle.dine_words.proofs.Headers.{header_at-Some, header_at-text}
use Rattle.dine_words.proofs.Spelling.{entry_answered, entry_at-Some, entry_at-text, entry_unanswered, entry_unasked, nothing}

-- a text with a line feed after it
with_line_feed : (text rest : List ℕ) → (text ++ 10 ∷ []) ++ rest ≡ text ++ (10 ∷ rest)
with_line_feed text rest = append_assoc text (10 ∷ []) rest

-- of two equal findings what follows is equal
same_second : {A : Type 0} (x y : A) (u v : List ℕ) → ◌≡◌ {A = Option (A × List ℕ)} (Some (x, u)) (Some (y, v)) → u ≡ v
same_second {A} x y u v h = let pair : ◌≡◌ {A = A × List ℕ} (x, u) (y, v) = cc in ap (λ (p : A × List ℕ). p.1) pair

-- what is found of a header
abbrev pub Found : Type 0
Found = JournalVersion × ℕ × ℕ × List ℕ

-- of two equal headers what follows is equal
same_fourth : (v w : JournalVersion) (a b x y : ℕ) (t u : List ℕ) → ◌≡◌ {A = Option Found} (Some (v, a, b, t)) (Some (w, x, y, u)) → t ≡ u
same_fourth v w a b x y t u h = let all : ◌≡◌ {A = Found} (v, a, b, t) (w, x, y, u) = cc in ap (λ (p : Found). p.3) all

-- ---- entries

-- what is read as an entry is one of that version
pub entry-fits : (v : JournalVersion) (text after : List ℕ) (e : Entry) → entry_at v text ≡ Some (e, after) → IsEntryOf v e
entry-fits v text after e h = (entry_at-Some v text after e h).0

-- an entry with a line feed behind it is a line
pub entry-found : (v : JournalVersion) (text after rest : List ℕ) (e : Entry) → entry_at v text ≡ Some (e, after) → after ≡ 10 ∷ rest → text ≡ entry_line e ++ rest
entry-found v text after rest e h feed =
    (entry_at-Some v text after e h).1 ∙ ap (λ r. entry_text e ++ r) feed ∙ sym (with_line_feed (entry_text e) rest)

-- a line is read as its entry, and its line feed follows
pub line_is_read : (v : JournalVersion) (text rest : List ℕ) (e : Entry) → IsEntryOf v e → text ≡ entry_line e ++ rest → entry_at v text ≡ Some (e, 10 ∷ rest)
line_is_read v text rest e fits h = ap (entry_at v) (h ∙ with_line_feed (entry_text e) rest) ∙ entry_at-text v e (10 ∷ rest) fits refl

-- where no entry is read the text begins with no line
pub no_entry : (v : JournalVersion) (text : List ℕ) → entry_at v text ≡ None → HasNoEntry v text
no_entry v text none e rest fits h = let found = line_is_read v text rest e fits h in cc

-- where an entry is read, and no line feed follows it, the text begins with no line
pub no_line_feed : (v : JournalVersion) (text after : List ℕ) (x : Entry) → entry_at v text ≡ Some (x, after) → ((rest : List ℕ) → after ≢ 10 ∷ rest) → HasNoEntry v text
no_line_feed v text after x found unended e rest fits h =
    unended rest (same_second x e after (10 ∷ rest) (sym found ∙ line_is_read v text rest e fits h))

-- ---- entries whose call was read, and then their reply

module _ (v : JournalVersion) (text rest : List ℕ) (pass : ℕ) (asked : Call) (front : asked_at v text ≡ Some (pass, asked, rest)) where
  -- where no reply and line feed follow, the line is no entry's
  pub unanswered : ((reply : Reply) (more : List ℕ) → answer_at rest ≢ Some (reply, 10 ∷ more)) → HasNoEntry v text
  unanswered none e more fits h = answers (answer_at rest) refl
    where
      read : entry_at v text ≡ Some (e, 10 ∷ more)
      read = line_is_read v text more e fits h

      answers : (o : Option (Reply × List ℕ)) → answer_at rest ≡ o → ⊥
      answers None is = nothing (e, 10 ∷ more) (sym (entry_unanswered v text rest pass asked front is) ∙ read)
      answers (Some (reply, after)) is =
          let ends = same_second _ e after (10 ∷ more) (sym (entry_answered v text rest after pass asked reply front is) ∙ read) in
          none reply more (is ∙ ap (λ l. Some (reply, l)) ends)

  -- and where they do, it is that of an entry
  pub answered-fits : (reply : Reply) (more : List ℕ) → answer_at rest ≡ Some (reply, 10 ∷ more) → IsEntryOf v (record { pass = pass; call = asked; reply = reply })
  answered-fits reply more is = entry-fits v text (10 ∷ more) _ (entry_answered v text rest (10 ∷ more) pass asked reply front is)

  -- and the text begins with the line of that entry
  pub answered-found : (reply : Reply) (more : List ℕ) → answer_at rest ≡ Some (reply, 10 ∷ more) → text ≡ entry_line (record { pass = pass; call = asked; reply = reply }) ++ more
  answered-found reply more is = entry-found v text (10 ∷ more) more _ (entry_answered v text rest (10 ∷ more) pass asked reply front is) refl

-- where not even a pass and a call are read the text begins with no line
pub unasked : (v : JournalVersion) (text : List ℕ) → asked_at v text ≡ None → HasNoEntry v text
unasked v text none = no_entry v text (entry_unasked v text none)

-- ---- what a line says after its call

-- where a reply is read, and no line feed follows it, no reply with one is
pub without_line_feed : (text after : List ℕ) (x : Reply) → answer_at text ≡ Some (x, after) → ((rest : List ℕ) → after ≢ 10 ∷ rest) → (reply : Reply) (rest : List ℕ) → answer_at text ≢ Some (reply, 10 ∷ rest)
without_line_feed text after x found unended reply rest h = unended rest (same_second x reply after (10 ∷ rest) (sym found ∙ h))

-- where no reply is read, none with a line feed is
pub no_answer : (text : List ℕ) → answer_at text ≡ None → (reply : Reply) (rest : List ℕ) → answer_at text ≢ Some (reply, 10 ∷ rest)
no_answer text none reply rest h = nothing (reply, 10 ∷ rest) (sym none ∙ h)

-- ---- the header

-- a header with a line feed behind it is a header's line
pub header-found : (v : JournalVersion) (text after rest : List ℕ) (limits : Limits) → header_at text ≡ Some (v, limits.tasks, limits.conflicts, after) → after ≡ 10 ∷ rest → text ≡ header_line_of v limits ++ rest
header-found v text after rest limits h feed =
    (header_at-Some text after v limits.tasks limits.conflicts h).text ∙ ap (λ r. header_text v limits ++ r) feed ∙ sym (with_line_feed (header_text v limits) rest)

-- limits that were read are within the ranges of the version
pub header-allowed : (v : JournalVersion) (text after : List ℕ) (limits : Limits) → header_at text ≡ Some (v, limits.tasks, limits.conflicts, after) → AllowsLimits v limits
header-allowed v text after limits h =
    let found = header_at-Some text after v limits.tasks limits.conflicts h in (found.few_tasks, found.few_conflicts)

-- a header's line is read as that header, and its line feed follows
pub header_is_read : (v : JournalVersion) (text rest : List ℕ) (limits : Limits) → AllowsLimits v limits → text ≡ header_line_of v limits ++ rest → header_at text ≡ Some (v, limits.tasks, limits.conflicts, 10 ∷ rest)
header_is_read v text rest limits allowed h =
    ap header_at (h ∙ with_line_feed (header_text v limits) rest) ∙ header_at-text v limits (10 ∷ rest) allowed refl

-- where no header is read the text begins with no header's line
pub no_header : (text : List ℕ) → header_at text ≡ None → HasNoHeader text
no_header text none v limits rest allowed h = let found = header_is_read v text rest limits allowed h in cc

-- where a header is read, and no line feed follows it, the text begins with no header's line
pub header_without_line_feed : (v : JournalVersion) (text after : List ℕ) (tasks conflicts : ℕ) → header_at text ≡ Some (v, tasks, conflicts, after) → ((rest : List ℕ) → after ≢ 10 ∷ rest) → HasNoHeader text
header_without_line_feed v text after tasks conflicts found unended w limits rest allowed h =
    unended rest (same_fourth v w tasks conflicts limits.tasks limits.conflicts after (10 ∷ rest) (sym found ∙ header_is_read w text rest limits allowed h))

-- what holds anyway, holds where there is nothing
pub if_none : {X : Type 0} (o : Option X) (P : Type 0) → P → IfNone o P
if_none None P p = p
if_none (Some x) P p = tt

-- ---- two lines at the front of one text

-- two texts behind one byte are equal, where the whole are
cons-same : (b : ℕ) (u v : List ℕ) → b ∷ u ≡ b ∷ v → u ≡ v
cons-same b u v h = cc

-- two entries' lines are one
pub line-same : (v : JournalVersion) (e f : Entry) (x y : List ℕ) → IsEntryOf v e → IsEntryOf v f → entry_line e ++ x ≡ entry_line f ++ y → (e ≡ f) × (x ≡ y)
line-same v e f x y fe ff h =
    let read : ◌≡◌ {A = Option (Entry × List ℕ)} (Some (e, 10 ∷ x)) (Some (f, 10 ∷ y)) = sym (line_is_read v (entry_line e ++ x) x e fe refl) ∙ line_is_read v (entry_line e ++ x) y f ff h in
    let pair = pair_of e f (10 ∷ x) (10 ∷ y) read in
    (ap (λ (p : Entry × List ℕ). p.0) pair, cons-same 10 x y (ap (λ (p : Entry × List ℕ). p.1) pair))
  where
    pair_of : (a b : Entry) (p q : List ℕ) → ◌≡◌ {A = Option (Entry × List ℕ)} (Some (a, p)) (Some (b, q)) → ◌≡◌ {A = Entry × List ℕ} (a, p) (b, q)
    pair_of a b p q h = cc

-- the limits are those of these two numbers
abbrev IsOf : Limits → ℕ → ℕ → Type 0
IsOf a t c = (p : 1 ≤ t) (q : t ≤ most_tasks) (r : 1 ≤ c) (s : c ≤ most_conflicts) → ◌≡◌ {A = Limits} a record { tasks = t; conflicts = c; some_tasks = p; tasks_in_range = q; some_conflicts = r; conflicts_in_range = s }

-- limits are those that their own two numbers make
of_their_own : (a : Limits) → IsOf a a.tasks a.conflicts
of_their_own a p q r s =
    ap (λ (x : 1 ≤ a.tasks). let l : Limits = record { tasks = a.tasks; conflicts = a.conflicts; some_tasks = x; tasks_in_range = a.tasks_in_range; some_conflicts = a.some_conflicts; conflicts_in_range = a.conflicts_in_range } in l) (le_prop a.some_tasks p)
    ∙ ap (λ (x : a.tasks ≤ most_tasks). let l : Limits = record { tasks = a.tasks; conflicts = a.conflicts; some_tasks = p; tasks_in_range = x; some_conflicts = a.some_conflicts; conflicts_in_range = a.conflicts_in_range } in l) (le_prop a.tasks_in_range q)
    ∙ ap (λ (x : 1 ≤ a.conflicts). let l : Limits = record { tasks = a.tasks; conflicts = a.conflicts; some_tasks = p; tasks_in_range = q; some_conflicts = x; conflicts_in_range = a.conflicts_in_range } in l) (le_prop a.some_conflicts r)
    ∙ ap (λ (x : a.conflicts ≤ most_conflicts). let l : Limits = record { tasks = a.tasks; conflicts = a.conflicts; some_tasks = p; tasks_in_range = q; some_conflicts = r; conflicts_in_range = x } in l) (le_prop a.conflicts_in_range s)

-- limits are their two numbers
limits-same : (a b : Limits) → a.tasks ≡ b.tasks → a.conflicts ≡ b.conflicts → a ≡ b
limits-same a b tasks conflicts =
    let at_tasks : IsOf a b.tasks a.conflicts = subst (λ (t : ℕ). IsOf a t a.conflicts) tasks (of_their_own a) in
    subst (IsOf a b.tasks) conflicts at_tasks b.some_tasks b.tasks_in_range b.some_conflicts b.conflicts_in_range

-- two headers' lines are one
pub header-same : (v w : JournalVersion) (a b : Limits) (x y : List ℕ) → AllowsLimits v a → AllowsLimits w b → header_line_of v a ++ x ≡ header_line_of w b ++ y → (v ≡ w) × (a ≡ b) × (x ≡ y)
header-same v w a b x y allowed allowed_too h =
    let read : ◌≡◌ {A = Option Found} (Some (v, a.tasks, a.conflicts, 10 ∷ x)) (Some (w, b.tasks, b.conflicts, 10 ∷ y)) = sym (header_is_read v (header_line_of v a ++ x) x a allowed refl) ∙ header_is_read w (header_line_of v a ++ x) y b allowed_too h in
    let all = all_of v w a.tasks a.conflicts b.tasks b.conflicts (10 ∷ x) (10 ∷ y) read in (
      ap (λ (p : Found). p.0) all,
      limits-same a b (ap (λ (p : Found). p.1) all) (ap (λ (p : Found). p.2) all),
      cons-same 10 x y (ap (λ (p : Found). p.3) all),
    )
  where
    all_of : (v w : JournalVersion) (k l m n : ℕ) (p q : List ℕ) → ◌≡◌ {A = Option Found} (Some (v, k, l, p)) (Some (w, m, n, q)) → ◌≡◌ {A = Found} (v, k, l, p) (w, m, n, q)
    all_of v w k l m n p q h = cc
