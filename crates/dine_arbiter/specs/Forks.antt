-- What each call does to the forks of the conflicts, which stand in the order of the conflicts.
use Rattle.std.specs.Prelude.{◌≡◌, ℕ, Bool, true, not, if◌then◌else◌, List, [], ◌∷◌, ◌++◌, Option, Some, None}
use Rattle.dine_words.specs.declared.task.Task.{Task}
use Rattle.dine_words.specs.declared.call.Call.{Call}
use Rattle.dine_words.specs.declared.call.Call.TheVariants as call
use Rattle.dine_words.specs.declared.call.Refusal.{Refusal}
use Rattle.dine_table.specs.Table.{Table, state_of, sooner, is_between, has_end}
use Rattle.dine_table.specs.Calls.{refusal_of, changed_by}
use Rattle.dine_forks.specs.declared.record.Fork.{Fork}
use Rattle.dine_arbiter.specs.Edge.{SettlesAt, SettlesAround, dirtied_around, withdrawn_around, withdrawal_messages_around}

-- the forks of the conflicts that pass a test
abbrev pub forks_kept : (Task × Task → Bool) → List (Task × Task) → List Fork → List Fork
forks_kept p (c ∷ cs) (f ∷ fs) = if p c then f ∷ forks_kept p cs fs else forks_kept p cs fs
forks_kept p cs fs = []

-- the fork of a new conflict: the end with the later meal holds it, dirty, and the other has the token
abbrev pub new_fork : Bool → Fork
new_fork first_is_sooner = record { at_first = not first_is_sooner; dirty = true; token_first = first_is_sooner }

-- what an accepted call does to the forks, with n messages
abbrev pub ChangesForks : Table → Call → List Fork → List Fork → ℕ → Type 0
ChangesForks t call.Join old new n = (new ≡ old) × (n ≡ 0)
ChangesForks t (call.Leave u) old new n = (new ≡ forks_kept (λ c. not (has_end u c)) t.conflicts old) × (n ≡ 0)
ChangesForks t (call.Conflict u v) old new n =
    (fork : Fork) × (new ≡ old ++ fork ∷ [])
    × SettlesAt (state_of t u) (state_of t v) (new_fork (sooner t.order u v)) fork n
ChangesForks t (call.Separate u v) old new n =
    (new ≡ forks_kept (λ c. not (is_between u v c)) t.conflicts old) × (n ≡ 0)
ChangesForks t (call.Hungry u) old new n = SettlesAround u (changed_by t (call.Hungry u)).order t.conflicts old new n
ChangesForks t (call.Begin u) old new n = (new ≡ dirtied_around u t.conflicts old) × (n ≡ 0)
ChangesForks t (call.Finish u) old new n = SettlesAround u (changed_by t (call.Finish u)).order t.conflicts old new n
ChangesForks t (call.Withdraw u) old new n =
    (new ≡ withdrawn_around u t.conflicts old) × (n ≡ withdrawal_messages_around u t.conflicts old)

-- what a call does to the forks that is accepted where there is no refusal
abbrev pub ChangesForksUnless : Option Refusal → Table → Call → List Fork → List Fork → ℕ → Type 0
ChangesForksUnless None t c old new n = ChangesForks t c old new n
ChangesForksUnless (Some refusal) t c old new n = (new ≡ old) × (n ≡ 0)

-- a refused call changes none
abbrev pub ForksFollow : Table → Call → List Fork → List Fork → ℕ → Type 0
ForksFollow t c old new n = ChangesForksUnless (refusal_of t c) t c old new n
