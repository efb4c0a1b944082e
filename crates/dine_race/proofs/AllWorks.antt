-- Works, one after the other.
use Rattle.std.proofs.Common.{◌≡◌, ℕ, ◌<◌, true, inl, inr, List, [], ◌∷◌, ◌++◌, length, get_or, refl, sym, ap, ◌∙◌, subst, arith, append-nil}
use Rattle.std.specs.List.{list_any}
use Rattle.std.proofs.lemmas.Bool.{or_cases, or_left, or_right, false≢true}
use Rattle.dine_scenario.specs.declared.scenario.Worker.{Worker}
use Rattle.dine_front.specs.Passes.{Pass}
use Rattle.dine_lines.specs.Names.{Names}
use Rattle.dine_race.specs.Works.{Work, AreDone, IsWorkDone, work_may_wait, work_with, worker_may_wait, works_with}

-- one more work is done
are_done-push : (works : List Work) (passes : List Pass) (work : Work) (pass : Pass) → AreDone works passes → IsWorkDone work pass → AreDone (works ++ work ∷ []) (passes ++ pass ∷ [])
are_done-push [] [] work pass all one = (one, tt)
are_done-push [] (q ∷ passes) work pass all one = absurd all
are_done-push (w ∷ works) [] work pass all one = absurd all
are_done-push (w ∷ works) (q ∷ passes) work pass all one = (all.0, are_done-push works passes work pass all.1 one)

-- one more pass is handed back
pub handed_in : (works : List Work) (passes passes' : List Pass) (work : Work) (pass : Pass) → AreDone works passes → IsWorkDone work pass → passes' ≡ passes ++ pass ∷ [] → AreDone (works ++ work ∷ []) passes'
handed_in works passes passes' work pass all one is =
    subst (AreDone (works ++ work ∷ [])) (sym is) (are_done-push works passes work pass all one)

-- the next worker has the next pass
works_with-push : (names : Names) (passes : List Pass) (workers : List Worker) (pass : Pass) (d : Worker) → length passes < length workers
    → works_with names (passes ++ pass ∷ []) workers ≡ works_with names passes workers ++ work_with names pass (get_or workers (length passes) d) ∷ []
works_with-push names passes [] pass d short = absurd (omega arith)
works_with-push names [] (worker ∷ workers) pass d short = refl
works_with-push names (q ∷ passes) (worker ∷ workers) pass d short =
    ap (λ works. work_with names q worker ∷ works) (works_with-push names passes workers pass d (omega arith))

-- one more worker is at work
pub started_next : (names : Names) (passes : List Pass) (workers : List Worker) (works works' : List Work) (pass : Pass) (i : ℕ) (worker : Worker) (work : Work)
    → i < length workers → i ≡ length passes → worker ≡ get_or workers i worker → work ≡ work_with names pass worker
    → works ≡ works_with names passes workers → works' ≡ works ++ work ∷ [] → works' ≡ works_with names (passes ++ pass ∷ []) workers
started_next names passes workers works works' pass i worker work inside at is this so_far pushed =
    let found : worker ≡ get_or workers (length passes) worker = is ∙ ap (λ (n : ℕ). get_or workers n worker) at in
    pushed ∙ ap (λ l. l ++ work ∷ []) so_far ∙ ap (λ w. works_with names passes workers ++ w ∷ []) (this ∙ ap (work_with names pass) found)
    ∙ sym (works_with-push names passes workers pass worker (omega arith))

-- where some work may wait, so may some worker
worker_of_waiting : (names : Names) (passes : List Pass) (workers : List Worker) → list_any work_may_wait (works_with names passes workers) ≡ true → list_any worker_may_wait workers ≡ true
worker_of_waiting names [] workers waits = absurd (false≢true waits)
worker_of_waiting names (pass ∷ passes) [] waits = absurd (false≢true waits)
worker_of_waiting names (pass ∷ passes) (worker ∷ workers) waits =
    elim (or_cases (worker_may_wait worker) (list_any work_may_wait (works_with names passes workers)) waits) [
      | inl this ↦ or_left (worker_may_wait worker) (list_any worker_may_wait workers) this
      | inr later ↦ or_right (worker_may_wait worker) (list_any worker_may_wait workers) (worker_of_waiting names passes workers later)
    ]

-- where some work may wait, so may some worker
pub some_worker_waits : (names : Names) (passes : List Pass) (workers : List Worker) (works : List Work) → works ≡ works_with names passes workers → list_any work_may_wait works ≡ true → list_any worker_may_wait workers ≡ true
some_worker_waits names passes workers works is waits = worker_of_waiting names passes workers (ap (list_any work_may_wait) (sym is) ∙ waits)

-- work that may wait, among others
pub some_work_waits : (before : List Work) (work : Work) (after : List Work) → work_may_wait work ≡ true → list_any work_may_wait (before ++ work ∷ after) ≡ true
some_work_waits [] work after waits = or_left (work_may_wait work) (list_any work_may_wait after) waits
some_work_waits (first ∷ before) work after waits =
    or_right (work_may_wait first) (list_any work_may_wait (before ++ work ∷ after)) (some_work_waits before work after waits)

-- what stands in the middle, moved to those before it
moved : {A : Type 0} (before : List A) (this : A) (after : List A) → before ++ this ∷ after ≡ (before ++ this ∷ []) ++ after
moved [] this after = refl
moved (first ∷ before) this after = ap (λ rest. first ∷ rest) (moved before this after)

-- one is taken from the front of what is left
pub left_after : {A : Type 0} (all before : List A) (this : A) (left after : List A) → all ≡ before ++ left → left ≡ this ∷ after → all ≡ (before ++ this ∷ []) ++ after
left_after all before this left after are is = are ∙ ap (λ rest. before ++ rest) is ∙ moved before this after

-- none is left, so those before are all
pub none_left : {A : Type 0} (all before left : List A) → all ≡ before ++ left → length left ≡ 0 → all ≡ before
none_left all before [] are none = are ∙ append-nil before
none_left all before (this ∷ left) are none = absurd (omega (arith, none))

-- and may wait, so some work may
pub waits_among : (works before : List Work) (work : Work) (left after : List Work) → works ≡ before ++ left → left ≡ work ∷ after → work_may_wait work ≡ true → list_any work_may_wait works ≡ true
waits_among works before work left after are is waits =
    ap (list_any work_may_wait) (are ∙ ap (λ rest. before ++ rest) is) ∙ some_work_waits before work after waits
