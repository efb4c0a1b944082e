-- What the passes of two workers have called, and what the journal of their front says of it.
use Rattle.std.proofs.Common.{◌≡◌, ℕ, zero, suc, ◌+◌, ◌*◌, ◌<◌, ◌==◌, List, [], ◌∷◌, ◌++◌, length, drop, get_or, take, Option, Some, None, refl, sym, ap, ◌∙◌, append_assoc, length-append, arith}
use Rattle.std.proofs.lemmas.List.{length-map, map-append}
use Rattle.dine_words.specs.declared.call.Call.{Call}
use Rattle.dine_words.specs.declared.limits.Limits.{Limits}
use Rattle.dine_words.specs.declared.task.Task.{Task}
use Rattle.dine_table.specs.History.{IsLegal}
use Rattle.dine_journal.specs.declared.hall.Answer.{Answer}
use Rattle.dine_journal.specs.Kept.{Journal}
use Rattle.dine_front.specs.declared.verdict.Verdict.{Verdict}
use Rattle.dine_front.specs.declared.verdict.Verdict.TheVariants.{Missing, Differs, Settled}
use Rattle.dine_front.specs.Mine.{first_if, receipts_of, sum_of_shares}
use Rattle.dine_front.specs.Passes.{Acted, AreNew, Pass}
use Rattle.dine_front.specs.Verdicts.{IsVerdict, UnlessMissing}
use Rattle.dine_uses.specs.Sharing.{HaveEaten, IsShared, MadeCallsMore, calls_of, meal_of, meals_of, setting}

-- ---- calls, one after the other

-- a pass that made no call has the receipts that it had
pub made_none : (p : Pass) → calls_of p.receipts ≡ calls_of p.receipts ++ [] → MadeCallsMore p [] p
made_none p none = record { number = refl; made = none }

-- a pass that made one call has its receipt behind the others
pub made_one : (p q : Pass) (call : Call) (answer : Answer) → Acted p call answer q → MadeCallsMore p (call ∷ []) q
made_one p q call answer acted = record {
  number = acted.number;
  made = ap calls_of acted.receipts ∙ map-append (λ (receipt : Call × Answer). receipt.0) p.receipts ((call, answer) ∷ []);
}

-- calls that are made one after the other are made together
pub made_then : (p q r : Pass) (first then : List Call) → MadeCallsMore p first q → MadeCallsMore q then r → MadeCallsMore p (first ++ then) r
made_then p q r first then one other = record {
  number = other.number ∙ one.number;
  made = other.made ∙ ap (λ calls. calls ++ then) one.made ∙ append_assoc (calls_of p.receipts) first then;
}

-- ---- the two passes

-- the value that is found, or else another
from_some : {A : Type 0} → A → Option A → A
from_some d None = d
from_some d (Some x) = x

-- what is there is one thing
some_same : {A : Type 0} (x y : A) → Some x ≡ Some y → x ≡ y
unfolding from_some
some_same x y e = ap (from_some x) e

-- the two passes of a front that was just opened, taken from the back
pub record TakenOut (p q : Pass) (left : List Pass) : Type 0 where
  pub first : p ≡ record { number = 0; receipts = []; seen = [] }
  pub second : q ≡ record { number = 1; receipts = []; seen = [] }
  pub none : left ≡ []

-- of two new passes the first is number 0 and the second number 1
pub taken_out : (passes rest left : List Pass) (p q : Pass) → AreNew 2 passes → q ≡ get_or passes 1 q → rest ≡ take 1 passes ++ drop 2 passes → p ≡ get_or rest 0 p → left ≡ drop 1 rest → TakenOut p q left
taken_out [] rest left p q new second others first none = absurd (let n : 0 ≡ 2 = new.0 in omega (arith, n))
taken_out (x ∷ []) rest left p q new second others first none = absurd (let n : 1 ≡ 2 = new.0 in omega (arith, n))
taken_out (x ∷ y ∷ z ∷ zs) rest left p q new second others first none = absurd (let n : suc (suc (suc (length zs))) ≡ 2 = new.0 in omega (arith, n))
taken_out (x ∷ y ∷ []) rest left p q new second others first none = record {
  first = first ∙ ap (λ xs. get_or xs 0 p) others ∙ some_same _ _ (new.1 0 (omega arith));
  second = second ∙ some_same _ _ (new.1 1 (omega arith));
  none = none ∙ ap (λ xs. drop 1 xs) others;
}

-- put back in order
pub put_back : (left one both : List Pass) (p q : Pass) → left ≡ [] → one ≡ left ++ p ∷ [] → both ≡ one ++ q ∷ [] → both ≡ p ∷ q ∷ []
put_back left one both p q none first second = second ∙ ap (λ xs. xs ++ q ∷ []) (first ∙ ap (λ xs. xs ++ p ∷ []) none)

-- each of two passes has made just the calls of its meals, the first after those that set the table
pub have_eaten : (meals : ℕ) (tasks : Task × Task) (p0 q0 p1 p2 q2 : Pass) (handed : List Pass)
    → p0 ≡ record { number = 0; receipts = []; seen = [] } → q0 ≡ record { number = 1; receipts = []; seen = [] }
    → MadeCallsMore p0 (setting tasks.0 tasks.1) p1 → MadeCallsMore p1 (meals_of tasks.0 meals) p2 → MadeCallsMore q0 (meals_of tasks.1 meals) q2
    → handed ≡ p2 ∷ q2 ∷ [] → HaveEaten meals handed
have_eaten meals tasks p0 q0 p1 p2 q2 handed first second set by_first by_second both =
    let all = made_then p0 p1 p2 (setting tasks.0 tasks.1) (meals_of tasks.0 meals) set by_first in
    record {
      first = p2;
      second = q2;
      tasks = tasks;
      both = both;
      number_of_first = all.number ∙ ap (λ (p : Pass). p.number) first;
      number_of_second = by_second.number ∙ ap (λ (p : Pass). p.number) second;
      by_first = all.made ∙ ap (λ (p : Pass). calls_of p.receipts ++ (setting tasks.0 tasks.1 ++ meals_of tasks.0 meals)) first;
      by_second = by_second.made ∙ ap (λ (p : Pass). calls_of p.receipts ++ meals_of tasks.1 meals) second;
    }

-- ---- the journal

-- a meal is three calls
length-meals_of : (task : Task) (meals : ℕ) → length (meals_of task meals) ≡ 3 * meals
length-meals_of task zero = refl
length-meals_of task (suc n) =
    let split = length-append (meals_of task n) (meal_of task) in
    let rest = length-meals_of task n in
    omega (arith, split, rest)

-- there are as many receipts as calls
length-calls_of : (receipts : List (Call × Answer)) (calls : List Call) → calls_of receipts ≡ calls → length receipts ≡ length calls
length-calls_of receipts calls is = sym (length-map receipts (λ (receipt : Call × Answer). receipt.0)) ∙ ap length is

-- the receipts of pass 0 are those of the first that is handed in
receipts_first : (p q : Pass) → p.number ≡ 0 → receipts_of 0 (p ∷ q ∷ []) ≡ Some p.receipts
receipts_first p q first = ap (λ (n : ℕ). first_if (n == 0) p.receipts (receipts_of 0 (q ∷ []))) first

-- the receipts of pass 1 are those of the second
receipts_second : (p q : Pass) → p.number ≡ 0 → q.number ≡ 1 → receipts_of 1 (p ∷ q ∷ []) ≡ Some q.receipts
receipts_second p q first second = ap (λ (n : ℕ). first_if (n == 1) p.receipts (receipts_of 1 (q ∷ []))) first ∙ ap (λ (n : ℕ). first_if (n == 1) q.receipts None) second

-- the same of passes that have eaten
of_first : (meals : ℕ) (handed : List Pass) (eaten : HaveEaten meals handed) → receipts_of 0 handed ≡ Some eaten.first.receipts
of_first meals handed eaten = ap (receipts_of 0) eaten.both ∙ receipts_first eaten.first eaten.second eaten.number_of_first

-- and of the second of them
of_second : (meals : ℕ) (handed : List Pass) (eaten : HaveEaten meals handed) → receipts_of 1 handed ≡ Some eaten.second.receipts
of_second meals handed eaten = ap (receipts_of 1) eaten.both ∙ receipts_second eaten.first eaten.second eaten.number_of_first eaten.number_of_second

-- nothing is no value
none_is_not_some : {A : Type 0} (x : A) → None ≡ Some x → ⊥
none_is_not_some x e = cc

-- both passes were handed in
none_missing : (meals : ℕ) (handed : List Pass) → HaveEaten meals handed → (k : ℕ) → k < 2 → receipts_of k handed ≡ None → ⊥
none_missing meals handed eaten zero inside missing = none_is_not_some _ (sym missing ∙ of_first meals handed eaten)
none_missing meals handed eaten (suc zero) inside missing = none_is_not_some _ (sym missing ∙ of_second meals handed eaten)
none_missing meals handed eaten (suc (suc k)) inside missing = absurd (omega (arith, inside))

-- three calls set the table, and each meal is three
all_calls : (meals : ℕ) (handed : List Pass) → HaveEaten meals handed → sum_of_shares handed ≡ 3 + 6 * meals
all_calls meals handed eaten =
    let first = length-calls_of eaten.first.receipts _ eaten.by_first in
    let second = length-calls_of eaten.second.receipts _ eaten.by_second in
    let split = length-append (setting eaten.tasks.0 eaten.tasks.1) (meals_of eaten.tasks.0 meals) in
    let of_one = length-meals_of eaten.tasks.0 meals in
    let of_other = length-meals_of eaten.tasks.1 meals in
    ap sum_of_shares eaten.both ∙ omega (arith, first, second, split, of_one, of_other)

-- the journal of a front at which two have eaten in turns: how many calls it has, and what it says of each pass
pub is_shared : (limits : Limits) (meals : ℕ) (handed : List Pass) (journal : Journal) (verdict : Verdict)
    → HaveEaten meals handed → journal.limits ≡ limits → IsLegal journal.limits journal.entries → IsVerdict 2 handed journal.entries verdict
    → UnlessMissing verdict (length journal.entries ≡ sum_of_shares handed) → IsShared limits meals journal verdict
is_shared limits meals handed journal (Missing k) eaten kept legal says shares = absurd (none_missing meals handed eaten k says.in_range says.missing)
is_shared limits meals handed journal (Differs k i) eaten kept legal says shares = record {
  limits_kept = kept;
  legal = legal;
  many = shares ∙ all_calls meals handed eaten;
  tasks = eaten.tasks;
  settled = tt;
}
is_shared limits meals handed journal Settled eaten kept legal says shares = record {
  limits_kept = kept;
  legal = legal;
  many = shares ∙ all_calls meals handed eaten;
  tasks = eaten.tasks;
  settled = (
    ap calls_of (some_same _ _ (sym (says 0 (omega arith)) ∙ of_first meals handed eaten)) ∙ eaten.by_first,
    ap calls_of (some_same _ _ (sym (says 1 (omega arith)) ∙ of_second meals handed eaten)) ∙ eaten.by_second,
  );
}
