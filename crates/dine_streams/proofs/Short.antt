-- Texts that are short and end no line: numbers, tasks, and the lines of a journal.
use Rattle.std.proofs.Common.{◌≡◌, ℕ, ◌==◌, ◌+◌, ◌^◌, ◌<◌, ◌≤◌, false, List, [], ◌∷◌, ◌++◌, length, map, codes, decimal, inl, inr, ◌⊎◌, refl, ap, ◌∙◌, arith, length-append, lit≤}
use Rattle.std.proofs.lemmas.Bool.{cases_Bool, cases_lt}
use Rattle.std.proofs.lemmas.Bool.Decides.{nat_tests}
use Rattle.std.proofs.lemmas.Fmt.{decimal-digits_of, decimal_digit, length-decimal-le}
use Rattle.std.specs.Int.Digits.{digits_of}
use Rattle.dine_words.specs.declared.task.Task.{Task}
use Rattle.dine_words.specs.declared.task.State.TheVariants.{Thinking as thinking, Hungry as hungry, Eating as eating}
use Rattle.dine_words.specs.declared.call.Call.{Call}
use Rattle.dine_words.specs.declared.call.Call.TheVariants.{Join, Leave, Conflict, Separate, Hungry, Begin, Finish, Withdraw}
use Rattle.dine_words.specs.declared.call.Refusal.{Refusal}
use Rattle.dine_words.specs.declared.call.Refusal.TheVariants.{Full, Unknown, Same, Already, Apart, BothEating, NoRoom, WrongState, NotYet}
use Rattle.dine_words.specs.declared.call.Reply.{Reply}
use Rattle.dine_words.specs.declared.call.Reply.TheVariants.{Joined, Done, Refused}
use Rattle.dine_words.specs.declared.call_word.CallOnOne.{CallOnOne}
use Rattle.dine_words.specs.declared.call_word.CallOnOne.TheVariants as one
use Rattle.dine_words.specs.declared.entry.Entry.{Entry}
use Rattle.dine_words.specs.declared.limits.Limits.{Limits}
use Rattle.dine_words.specs.declared.version.JournalVersion.{JournalVersion}
use Rattle.dine_words.specs.declared.version.JournalVersion.TheVariants as version
use Rattle.dine_words.specs.CallWords.{opening_on_one}
use Rattle.dine_words.specs.Texts.{FitsCall, FitsReply, FitsTask, IsEntryOf, call_text, entry_text, header_text, refusal_text, reply_text, task_text}
use Rattle.dine_words.specs.Versions.{AllowsLimits, most_conflicts_of, most_tasks_of, opening_of}
use Rattle.dine_streams.specs.Lines.{begun_line, ended_lines}
use Rattle.dine_streams.proofs.Pieces.{ended-pieces}

-- the bytes have no line feed, and are at most n
pub record IsShort (n : ℕ) (bytes : List ℕ) : Type 0 where
  pub one : ended_lines [] bytes ≡ []
  pub short : length bytes ≤ n

-- bytes that end no line end none whatever has begun
one-on : (begun other bytes : List ℕ) → ended_lines begun bytes ≡ [] → ended_lines other bytes ≡ []
one-on begun other [] one = refl
one-on begun other (x ∷ xs) one = elim (cases_Bool (x == 10)) [
  | inl e ↦ absurd (let some : begun ∷ ended_lines [] xs ≡ [] = rw e at one in cc)
  | inr e ↦ rw e (one-on (begun ++ x ∷ []) (other ++ x ∷ []) xs (rw e at one))
]

-- two short texts, one behind the other, are as short as their lengths together
pub short-both : (m n : ℕ) (xs ys : List ℕ) → IsShort m xs → IsShort n ys → IsShort (m + n) (xs ++ ys)
short-both m n xs ys p q = record {
  one = ended-pieces [] xs ys ∙ ap (λ lines. lines ++ ended_lines (begun_line [] xs) ys) p.one ∙ one-on [] (begun_line [] xs) ys q.one;
  short = (let few = p.short in let more = q.short in omega (arith, length-append xs ys));
}

-- a short text is one for a longer bound too
pub short-more : (m n : ℕ) (xs : List ℕ) → m ≤ n → IsShort m xs → IsShort n xs
short-more m n xs le p = record { one = p.one; short = (let few = p.short in omega arith) }

-- ---- numbers

-- digits end no line
digits-one : (begun digits : List ℕ) → ended_lines begun (map (λ d. 48 + d) digits) ≡ []
digits-one begun [] = refl
digits-one begun (d ∷ ds) = let other : (48 + d == 10) ≡ false = grind (arith, nat_tests) in rw other (digits-one (begun ++ (48 + d) ∷ []) ds)

-- a number has 20 digits at most
pub short-decimal : (n : ℕ) → n < 2 ^ 64 → IsShort 20 (decimal n)
short-decimal n fits = record { one = by (cases_lt 0 n); short = length-decimal-le 20 n (omega arith) (omega arith) fits }
  where
    by : (0 < n) ⊎ (n ≤ 0) → ended_lines [] (decimal n) ≡ []
    by (inl some) = ap (ended_lines []) (decimal-digits_of n some fits) ∙ digits-one [] (digits_of 10 n)
    by (inr none) = ap (ended_lines []) (ap decimal (let zero_is : n ≡ 0 = omega arith in zero_is) ∙ decimal_digit 0 (omega arith)) ∙ refl

-- ---- the words of a line

-- a task has 41 bytes at most
pub short-task : (u : Task) → FitsTask u → IsShort 41 (task_text u)
short-task u fits =
    let small : u.slot < 2 ^ 32 = fits.0 in
    short-both 21 20 (decimal u.slot ++ codes ".") (decimal u.born) (short-both 20 1 (decimal u.slot) (codes ".") (short-decimal u.slot (omega arith)) record { one = refl; short = lit≤ tt }) (short-decimal u.born fits.1)

-- the word of a call about one task, and the space behind it, have 9 bytes at most
pub short-opening : (asked : CallOnOne) → IsShort 9 (opening_on_one asked)
short-opening one.Leave = record { one = refl; short = lit≤ tt }
short-opening one.Hungry = record { one = refl; short = lit≤ tt }
short-opening one.Begin = record { one = refl; short = lit≤ tt }
short-opening one.Finish = record { one = refl; short = lit≤ tt }
short-opening one.Withdraw = record { one = refl; short = lit≤ tt }

-- a word and two tasks have 92 bytes at most
short-two : (word : List ℕ) (u v : Task) → IsShort 9 word → FitsTask u × FitsTask v → IsShort 92 (word ++ task_text u ++ codes " " ++ task_text v)
short-two word u v p fits =
    short-both 51 41 (word ++ task_text u ++ codes " ") (task_text v)
    (short-both 50 1 (word ++ task_text u) (codes " ") (short-both 9 41 word (task_text u) p (short-task u fits.0)) record { one = refl; short = lit≤ tt })
    (short-task v fits.1)

-- a call has 92 bytes at most
short-call : (c : Call) → FitsCall c → IsShort 92 (call_text c)
short-call Join fits = record { one = refl; short = lit≤ tt }
short-call (Leave u) fits = short-more 47 92 _ (lit≤ tt) (short-both 6 41 (codes "leave ") (task_text u) record { one = refl; short = lit≤ tt } (short-task u fits))
short-call (Conflict u v) fits = short-two (codes "conflict ") u v record { one = refl; short = lit≤ tt } fits
short-call (Separate u v) fits = short-two (codes "separate ") u v record { one = refl; short = lit≤ tt } fits
short-call (Hungry u) fits = short-more 48 92 _ (lit≤ tt) (short-both 7 41 (codes "hungry ") (task_text u) record { one = refl; short = lit≤ tt } (short-task u fits))
short-call (Begin u) fits = short-more 47 92 _ (lit≤ tt) (short-both 6 41 (codes "begin ") (task_text u) record { one = refl; short = lit≤ tt } (short-task u fits))
short-call (Finish u) fits = short-more 48 92 _ (lit≤ tt) (short-both 7 41 (codes "finish ") (task_text u) record { one = refl; short = lit≤ tt } (short-task u fits))
short-call (Withdraw u) fits = short-more 50 92 _ (lit≤ tt) (short-both 9 41 (codes "withdraw ") (task_text u) record { one = refl; short = lit≤ tt } (short-task u fits))

-- a refusal has 11 bytes at most
short-refusal : (r : Refusal) → IsShort 11 (refusal_text r)
short-refusal Full = record { one = refl; short = lit≤ tt }
short-refusal Unknown = record { one = refl; short = lit≤ tt }
short-refusal Same = record { one = refl; short = lit≤ tt }
short-refusal Already = record { one = refl; short = lit≤ tt }
short-refusal Apart = record { one = refl; short = lit≤ tt }
short-refusal BothEating = record { one = refl; short = lit≤ tt }
short-refusal NoRoom = record { one = refl; short = lit≤ tt }
short-refusal (WrongState thinking) = record { one = refl; short = lit≤ tt }
short-refusal (WrongState hungry) = record { one = refl; short = lit≤ tt }
short-refusal (WrongState eating) = record { one = refl; short = lit≤ tt }
short-refusal NotYet = record { one = refl; short = lit≤ tt }

-- a reply has 48 bytes at most
short-reply : (r : Reply) → FitsReply r → IsShort 48 (reply_text r)
short-reply (Joined u) fits = short-both 7 41 (codes "joined ") (task_text u) record { one = refl; short = lit≤ tt } (short-task u fits)
short-reply Done fits = record { one = refl; short = lit≤ tt }
short-reply (Refused refusal) fits = short-more 19 48 _ (lit≤ tt) (short-both 8 11 (codes "refused ") (refusal_text refusal) record { one = refl; short = lit≤ tt } (short-refusal refusal))

-- ---- lines

-- the line of an entry
pub short-entry : (v : JournalVersion) (e : Entry) → IsEntryOf v e → IsShort 165 (entry_text e)
short-entry v e of =
    let small : e.pass < 2 ^ 32 = of.fits.0 in
    let pass : IsShort 21 (decimal e.pass ++ codes " ") = short-both 20 1 (decimal e.pass) (codes " ") (short-decimal e.pass (omega arith)) record { one = refl; short = lit≤ tt } in
    let asked : IsShort 117 (decimal e.pass ++ codes " " ++ call_text e.call ++ codes " -> ") =
    short-both 113 4 (decimal e.pass ++ codes " " ++ call_text e.call) (codes " -> ") (short-both 21 92 (decimal e.pass ++ codes " ") (call_text e.call) pass (short-call e.call of.fits.1)) record { one = refl; short = lit≤ tt } in
    short-both 117 48 (decimal e.pass ++ codes " " ++ call_text e.call ++ codes " -> ") (reply_text e.reply) asked (short-reply e.reply of.fits.2)

-- the tasks that a version allows fit 64 bits
few_tasks : (v : JournalVersion) (n : ℕ) → n ≤ most_tasks_of v → n < 2 ^ 64
few_tasks version.One n few = omega arith
few_tasks version.Two n few = omega arith

-- the conflicts that a version allows fit 64 bits
few_conflicts : (v : JournalVersion) (n : ℕ) → n ≤ most_conflicts_of v → n < 2 ^ 64
few_conflicts version.One n few = omega arith
few_conflicts version.Two n few = omega arith

-- what a header begins with has 7 bytes at most
short-version : (v : JournalVersion) → IsShort 7 (opening_of v)
short-version version.One = record { one = refl; short = lit≤ tt }
short-version version.Two = record { one = refl; short = lit≤ tt }

-- the header's line
pub short-header : (v : JournalVersion) (limits : Limits) → AllowsLimits v limits → IsShort 48 (header_text v limits)
short-header v limits allowed =
    short-both 28 20 (opening_of v ++ decimal limits.tasks ++ codes " ") (decimal limits.conflicts)
    (short-both 27 1 (opening_of v ++ decimal limits.tasks) (codes " ") (short-both 7 20 (opening_of v) (decimal limits.tasks) (short-version v) (short-decimal limits.tasks (few_tasks v limits.tasks allowed.0))) record { one = refl; short = lit≤ tt })
    (short-decimal limits.conflicts (few_conflicts v limits.conflicts allowed.1))
