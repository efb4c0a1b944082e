-- What two workers that share a front have called, and what its journal says of it.
use Rattle.std.specs.Prelude.{◌≡◌, ℕ, zero, suc, ◌+◌, ◌*◌, Bool, true, false, List, [], ◌∷◌, ◌++◌, length, map}
use Rattle.dine_words.specs.declared.task.Task.{Task}
use Rattle.dine_words.specs.declared.call.Call.{Call}
use Rattle.dine_words.specs.declared.call.Call.TheVariants.{Join, Conflict, Hungry, Begin, Finish}
use Rattle.dine_words.specs.declared.call.Reply.{Reply}
use Rattle.dine_words.specs.declared.call.Reply.TheVariants as reply
use Rattle.dine_words.specs.declared.limits.Limits.{Limits}
use Rattle.dine_table.specs.History.{IsLegal}
use Rattle.dine_journal.specs.declared.hall.Answer.{Answer}
use Rattle.dine_journal.specs.Kept.{Journal}
use Rattle.dine_front.specs.declared.verdict.Verdict.{Verdict}
use Rattle.dine_front.specs.Mine.{mine}
use Rattle.dine_front.specs.Passes.{Pass}
use Rattle.dine_front.specs.Verdicts.{IfSettled}

-- the reply is a refusal
abbrev pub is_refused : Reply → Bool
is_refused (reply.Joined u) = false
is_refused reply.Done = false
is_refused (reply.Refused refusal) = true

-- the calls of these receipts
abbrev pub calls_of : List (Call × Answer) → List Call
calls_of receipts = map (λ receipt. receipt.0) receipts

-- the pass p has made these calls more, and is q now: it is still the same pass
pub record MadeCallsMore (p : Pass) (calls : List Call) (q : Pass) : Type 0 where
  pub number : q.number ≡ p.number
  pub made : calls_of q.receipts ≡ calls_of p.receipts ++ calls

-- the calls of one meal of a task
abbrev pub meal_of : Task → List Call
meal_of task = Hungry task ∷ Begin task ∷ Finish task ∷ []

-- the calls of so many meals of a task
abbrev pub meals_of : Task → ℕ → List Call
meals_of task zero = []
meals_of task (suc n) = meals_of task n ++ meal_of task

-- the calls that bring two tasks to the table, in conflict
abbrev pub setting : Task → Task → List Call
setting first second = Join ∷ Join ∷ Conflict first second ∷ []

-- pass 0 has set the table and eaten so many meals of the first task, and pass 1 so many of the second
pub record HaveEaten (meals : ℕ) (passes : List Pass) : Type 0 where
  pub first : Pass
  pub second : Pass
  pub tasks : Task × Task
  pub both : passes ≡ first ∷ second ∷ []
  pub number_of_first : first.number ≡ 0
  pub number_of_second : second.number ≡ 1
  pub by_first : calls_of first.receipts ≡ setting tasks.0 tasks.1 ++ meals_of tasks.0 meals
  pub by_second : calls_of second.receipts ≡ meals_of tasks.1 meals

-- The journal is that of a legal history under these limits, with the three calls that set the table and three for each
-- meal of the two. Where all is settled, it says of each pass that it made just these calls, in this order
pub record IsShared (limits : Limits) (meals : ℕ) (journal : Journal) (verdict : Verdict) : Type 0 where
  pub limits_kept : journal.limits ≡ limits
  pub legal : IsLegal journal.limits journal.entries
  pub many : length journal.entries ≡ 3 + 6 * meals
  pub tasks : Task × Task
  pub settled :
      IfSettled verdict
      ((calls_of (mine 0 journal.entries) ≡ setting tasks.0 tasks.1 ++ meals_of tasks.0 meals)
      × (calls_of (mine 1 journal.entries) ≡ meals_of tasks.1 meals))
