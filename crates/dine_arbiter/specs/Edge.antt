-- The fork and the request token of a conflict, on the edge between its two ends, and the rules by which they are sent.
-- Fork, token, dirt and the two rules are those of Chandy and Misra's solution of 1984. Here they run at once, within one
-- call, until neither is enabled.
use Rattle.std.specs.Prelude.{◌≡◌, ℕ, zero, suc, ◌+◌, Bool, true, false, not, ◌&&◌, ◌||◌, if◌then◌else◌, List, [], ◌∷◌, Option, Some, None, unwrap_or, IsTrue}
use Rattle.std.specs.List.{AllZip}
use Rattle.std.specs.Bool.{MatchBool}
pub use Rattle.dine_words.specs.declared.task.Task.{Task}
pub use Rattle.dine_words.specs.declared.task.State.{State}
pub use Rattle.dine_words.specs.declared.task.State.TheVariants.{Thinking, Hungry, Eating}
pub use Rattle.dine_words.specs.declared.task.Diner.{Diner}
use Rattle.dine_table.specs.Table.{Table, same_task, has_end, same_state, state_in, sooner}
pub use Rattle.dine_forks.specs.declared.record.Fork.{Fork}
use Rattle.dine_forks.specs.Book.{dirtied}

-- the two answers are one
abbrev pub same_bool : Bool → Bool → Bool
same_bool true b = b
same_bool false b = not b

-- the fork and the token are at the same end
abbrev pub has_both : Fork → Bool
has_both fork = same_bool fork.at_first fork.token_first

-- the state of the end with the token
abbrev pub requester : Fork → State → State → State
requester fork first second = if fork.token_first then first else second

-- the state of the end with the fork
abbrev pub holder : Fork → State → State → State
holder fork first second = if fork.at_first then first else second

-- ---- the two rules of forks

-- a hungry task with the token and without the fork sends the token to the other end
abbrev pub asks : Fork → State → State → Bool
asks fork first second = same_state Hungry (requester fork first second) && not (has_both fork)

-- the token is at the other end
abbrev pub token_sent : Fork → Fork
token_sent fork = record fork { token_first = not fork.token_first }

-- a task that isn't eating, with the token and a dirty fork, sends the fork to the other end. It keeps the token
abbrev pub yields : Fork → State → State → Bool
yields fork first second = not (same_state Eating (requester fork first second)) && has_both fork && fork.dirty

-- the fork is at the other end, and clean
abbrev pub fork_sent : Fork → Fork
fork_sent fork = record fork { at_first = not fork.at_first; dirty = false }

-- the fork after one message, if a rule is enabled
abbrev pub step_of : Fork → State → State → Option Fork
step_of fork first second =
    if asks fork first second then Some (token_sent fork)
    else if yields fork first second then Some (fork_sent fork)
    else None

-- no rule is enabled
abbrev pub IsQuiet : Fork → State → State → Type 0
IsQuiet fork first second = step_of fork first second ≡ None

-- this many messages lead from old to new
abbrev pub ReachedBy : ℕ → Fork → State → State → Fork → Type 0
ReachedBy zero old first second new = old ≡ new
ReachedBy (suc n) old first second new =
    (mid : Fork) × (step_of old first second ≡ Some mid) × ReachedBy n mid first second new

-- ---- forks between calls

-- the six shapes of an edge between calls: the holder's state, the other end's, the fork is dirty, the holder has the
-- token too
abbrev pub is_shape : State → State → Bool → Bool → Bool
is_shape Thinking Thinking dirty both = dirty && not both
is_shape Hungry Thinking dirty both = not both
is_shape Eating Thinking dirty both = dirty && not both
is_shape Eating Hungry dirty both = dirty && both
is_shape Hungry Hungry dirty both = not dirty && both
is_shape holds lacks dirty both = false

-- the edge has one of the shapes
abbrev pub is_lawful : Fork → State → State → Bool
is_lawful fork first second =
    if fork.at_first then is_shape first second fork.dirty (has_both fork)
    else is_shape second first fork.dirty (has_both fork)

-- the first end holds the fork clean, or the second end holds it dirty
abbrev pub first_precedes : Fork → Bool
first_precedes fork = if fork.dirty then not fork.at_first else fork.at_first

-- ends in these states, with the last meal of the first sooner or not: the edge is lawful, and the end that precedes has
-- the sooner meal
abbrev pub agrees_at : Option State → Option State → Bool → Fork → Bool
agrees_at (Some first) (Some second) is_sooner fork =
    is_lawful fork first second && same_bool (first_precedes fork) is_sooner
agrees_at first second is_sooner fork = false

-- the fork is as the order of last meals wants it between the two tasks
abbrev pub agrees : List Diner → Task × Task → Fork → Bool
agrees order c fork = agrees_at (state_in order c.0) (state_in order c.1) (sooner order c.0 c.1) fork

-- each conflict has its fork, in the same order
abbrev pub ForksAgree : Table → List Fork → Type 0
ForksAgree t forks = AllZip (λ c fork. IsTrue (agrees t.order c fork)) t.conflicts forks

-- the edge is quiet at new, n messages after old
pub record Settles (old : Fork) (first second : State) (new : Fork) (n : ℕ) : Type 0 where
  pub reached : ReachedBy n old first second new
  pub quiet : IsQuiet new first second

-- ---- all forks at once

-- ends in these states settle the edge. Both are present
abbrev pub SettlesAt : Option State → Option State → Fork → Fork → ℕ → Type 0
SettlesAt (Some first) (Some second) old new n = Settles old first second new n
SettlesAt first second old new n = ⊥

-- an edge of u is settled for the states in the order, and another stays. n is its messages
abbrev pub SettlesEnd : Task → List Diner → Task × Task → Fork → Fork → ℕ → Type 0
SettlesEnd u order c old new n =
    MatchBool (has_end u c) (SettlesAt (state_in order c.0) (state_in order c.1) old new n) ((new ≡ old) × (n ≡ 0))

-- so for each of these conflicts. n is the messages in all
abbrev pub SettlesAround : Task → List Diner → List (Task × Task) → List Fork → List Fork → ℕ → Type 0
SettlesAround u order [] [] [] n = n ≡ 0
SettlesAround u order (c ∷ cs) (f ∷ fs) (g ∷ gs) n =
    (m k : ℕ) × (n ≡ m + k) × SettlesEnd u order c f g m × SettlesAround u order cs fs gs k
SettlesAround u order cs fs gs n = ⊥

-- u holds the fork of a conflict that has it
abbrev pub holds : Task → Task × Task → Fork → Bool
holds u c fork = if same_task u c.0 then fork.at_first else not fork.at_first

-- u holds the forks of all its conflicts
abbrev pub holds_all : Task → List (Task × Task) → List Fork → Bool
holds_all u (c ∷ cs) (f ∷ fs) = (not (has_end u c) || holds u c f) && holds_all u cs fs
holds_all u cs forks = true

-- the forks of u get dirty
abbrev pub dirtied_around : Task → List (Task × Task) → List Fork → List Fork
dirtied_around u (c ∷ cs) (f ∷ fs) = (if has_end u c then dirtied f else f) ∷ dirtied_around u cs fs
dirtied_around u cs forks = []

-- ---- hunger that is given up: two moves, which are no steps of the rules

-- the fork is given back: it is at the other end, dirty
abbrev pub fork_given_back : Fork → Fork
fork_given_back fork = record fork { at_first = not fork.at_first; dirty = true }

-- the token is given back: it is at the first end, or at the second
abbrev pub token_given_back : Bool → Fork → Fork
token_given_back to_first fork = record fork { token_first = to_first }

-- the edge once an end has withdrawn, the first or the second. A clean fork that it holds goes to the other end, dirty, and
-- a dirty one stays. It has the token of each fork that it lacks then
abbrev pub withdrawn : Bool → Fork → Fork
withdrawn is_first fork =
    if same_bool fork.at_first is_first
    then (if fork.dirty then fork else token_given_back is_first (fork_given_back fork))
    else token_given_back is_first fork

-- the messages that bring the token to an end: none where it is there
abbrev pub token_messages : Bool → Fork → ℕ
token_messages to_first fork = if same_bool fork.token_first to_first then 0 else 1

-- the messages of an end that withdraws
abbrev pub withdrawal_messages : Bool → Fork → ℕ
withdrawal_messages is_first fork =
    if same_bool fork.at_first is_first then (if fork.dirty then 0 else 1 + token_messages is_first fork)
    else token_messages is_first fork

-- the forks once u has withdrawn
abbrev pub withdrawn_around : Task → List (Task × Task) → List Fork → List Fork
withdrawn_around u (c ∷ cs) (f ∷ fs) =
    (if has_end u c then withdrawn (same_task u c.0) f else f) ∷ withdrawn_around u cs fs
withdrawn_around u cs forks = []

-- the messages of all that
abbrev pub withdrawal_messages_around : Task → List (Task × Task) → List Fork → ℕ
withdrawal_messages_around u (c ∷ cs) (f ∷ fs) =
    (if has_end u c then withdrawal_messages (same_task u c.0) f else 0) + withdrawal_messages_around u cs fs
withdrawal_messages_around u cs forks = 0

-- ---- where the rules come to

-- the fork after one message, or as it is where the edge is quiet
abbrev pub step_or_stay : Fork → State → State → Fork
step_or_stay fork first second = unwrap_or (step_of fork first second) fork

-- the fork once the edge is quiet
abbrev pub settled : Fork → State → State → Fork
settled fork first second = step_or_stay (step_or_stay (step_or_stay fork first second) first second) first second

-- one message and those that are left then, if there is one
abbrev pub one_more : (Fork → ℕ) → Option Fork → ℕ
one_more count None = 0
one_more count (Some next) = count next + 1

-- the messages until the edge is quiet, n at most
abbrev pub messages_within : ℕ → Fork → State → State → ℕ
messages_within zero fork first second = 0
messages_within (suc n) fork first second =
    one_more (λ next. messages_within n next first second) (step_of fork first second)

-- the messages until the edge is quiet
unfoldable pub messages_left : Fork → State → State → ℕ
messages_left fork first second = messages_within 3 fork first second
