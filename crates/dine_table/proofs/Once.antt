-- Each task stands once in the order, whatever is called.
use Rattle.std.proofs.Common.{◌≡◌, List, [], ◌∷◌, ◌++◌, Some, None, inl, inr, refl, ◌∙◌}
use Rattle.std.proofs.lemmas.Bool.{cases_Bool}
use Rattle.dine_words.specs.declared.task.Task.{Task}
use Rattle.dine_words.specs.declared.task.State.{State}
use Rattle.dine_words.specs.declared.task.Diner.{Diner}
use Rattle.dine_table.specs.Table.{same_task, state_in}
use Rattle.dine_table.specs.Calls.{with_state, without}
use Rattle.dine_table.specs.Sound.{EachOnce}
use Rattle.dine_table.proofs.Tasks.{same_task-sym}
use Rattle.dine_table.proofs.Order.{diner_put_in-task, state_in-append_other}

-- whoever isn't present still isn't where another gets a state
absent-with_state : (s : State) (u w : Task) (order : List Diner) → state_in order w ≡ None → state_in (with_state s u order) w ≡ None
absent-with_state s u w [] h = refl
absent-with_state s u w (d ∷ ds) h = elim (cases_Bool (same_task d.task w)) [
  | inl e ↦ absurd (let k : Some d.state ≡ None = rw e at h in cc)
  | inr e ↦ rw (diner_put_in-task s u d, e) (absent-with_state s u w ds (rw e at h))
]

-- each task stands once where one of them gets a state
pub each_once-with_state : (s : State) (u : Task) (order : List Diner) → EachOnce order → EachOnce (with_state s u order)
each_once-with_state s u [] h = tt
each_once-with_state s u (d ∷ ds) h = (rw (diner_put_in-task s u d) (absent-with_state s u d.task ds h.0), each_once-with_state s u ds h.1)

-- whoever isn't present still isn't where another is taken out
absent-without : (u w : Task) (order : List Diner) → state_in order w ≡ None → state_in (without u order) w ≡ None
absent-without u w [] h = refl
absent-without u w (d ∷ ds) h = elim (cases_Bool (same_task d.task w)) [
  | inl e ↦ absurd (let k : Some d.state ≡ None = rw e at h in cc)
  | inr e ↦ elim (cases_Bool (same_task d.task u)) [
    | inl f ↦ rw f (absent-without u w ds (rw e at h))
    | inr f ↦ rw (f, e) (absent-without u w ds (rw e at h))
  ]
]

-- each task stands once where one of them is taken out
pub each_once-without : (u : Task) (order : List Diner) → EachOnce order → EachOnce (without u order)
each_once-without u [] h = tt
each_once-without u (d ∷ ds) h = elim (cases_Bool (same_task d.task u)) [
  | inl f ↦ rw f (each_once-without u ds h.1)
  | inr f ↦ rw f (absent-without u d.task ds h.0, each_once-without u ds h.1)
]

-- each task stands once where one that wasn't there comes behind them
pub each_once-append : (order : List Diner) (d : Diner) → EachOnce order → state_in order d.task ≡ None → EachOnce (order ++ d ∷ [])
each_once-append [] d h k = (refl, tt)
each_once-append (e ∷ es) d h k = elim (cases_Bool (same_task e.task d.task)) [
  | inl f ↦ absurd (let w : Some e.state ≡ None = rw f at k in cc)
  | inr f ↦ (state_in-append_other es d e.task (same_task-sym d.task e.task ∙ f) ∙ h.0, each_once-append es d h.1 (rw f at k))
]
