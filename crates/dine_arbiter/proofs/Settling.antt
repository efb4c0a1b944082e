-- What is true of each edge, by trying them all: the two rules come to one end, and it is computed.
use Rattle.dine_arbiter.proofs.Words.{◌≡◌, Bool, true, false, not, ◌&&◌, ◌||◌, sym, ap, ◌∙◌, ℕ, zero, suc, eqb, Option, Some, None, refl, subst, add-one, unwrap_or, and_parts, eqb-true, not-true, Fork, same_bool, step_of, IsQuiet, ReachedBy, Settles, step_or_stay, settled, one_more, messages_within, messages_left, asks, holder, is_lawful, yields, same_state, same_state-true}
use Rattle.dine_arbiter.specs.Edge.{State, Thinking, Hungry, Eating}

-- a test passes at both answers
abbrev pub both_bools : (Bool → Bool) → Bool
both_bools p = p true && p false

-- a test passes in each state
abbrev pub all_states : (State → Bool) → Bool
all_states p = p Thinking && (p Hungry && p Eating)

-- a test passes at each fork
abbrev pub all_forks : (Fork → Bool) → Bool
all_forks p = both_bools (λ a. both_bools (λ d. both_bools (λ k. p record { at_first = a; dirty = d; token_first = k })))

-- what passes at both answers passes at one
each_bool : (p : Bool → Bool) → both_bools p ≡ true → (b : Bool) → p b ≡ true
each_bool p h true = (and_parts (p true) (p false) h).0
each_bool p h false = (and_parts (p true) (p false) h).1

-- what passes in each state passes in one
each_state : (p : State → Bool) → all_states p ≡ true → (s : State) → p s ≡ true
each_state p h Thinking = (and_parts (p Thinking) _ h).0
each_state p h Hungry = (and_parts (p Hungry) _ (and_parts (p Thinking) _ h).1).0
each_state p h Eating = (and_parts (p Hungry) _ (and_parts (p Thinking) _ h).1).1

-- what passes at each fork passes at one
each_fork : (p : Fork → Bool) → all_forks p ≡ true → (f : Fork) → p f ≡ true
each_fork p h f =
    let of : Bool → Bool → Bool → Fork = λ a d k. record { at_first = a; dirty = d; token_first = k } in
    let first = each_bool (λ a. both_bools (λ d. both_bools (λ k. p (of a d k)))) h f.at_first in
    let second = each_bool (λ d. both_bools (λ k. p (of f.at_first d k))) first f.dirty in
    each_bool (λ k. p (of f.at_first f.dirty k)) second f.token_first

-- a test passes at each edge: each fork, the states of its ends, and whether the first end stands before the second
abbrev pub all_edges : (Fork → State → State → Bool → Bool) → Bool
all_edges p = all_forks (λ f. all_states (λ x. all_states (λ y. both_bools (p f x y))))

-- what passes at each edge passes at one
pub each_edge : (p : Fork → State → State → Bool → Bool) → all_edges p ≡ true → (f : Fork) (x y : State) (s : Bool) → p f x y s ≡ true
each_edge p h f x y s =
    each_bool (p f x y) (each_state (λ y. both_bools (p f x y)) (each_state (λ x. all_states (λ y. both_bools (p f x y)))
    (each_fork (λ f. all_states (λ x. all_states (λ y. both_bools (p f x y)))) h f) x) y) s

-- where the first test passes, so does the second
abbrev pub implies : Bool → Bool → Bool
implies a b = not a || b

-- so the second passes where the first does
implied : (a b : Bool) → implies a b ≡ true → a ≡ true → b ≡ true
implied true b h k = h
implied false b h k = absurd (let w : false ≡ true = k in cc)

-- and it does at each edge where that is so at all
pub each_where : (p q : Fork → State → State → Bool → Bool) → all_edges (λ f x y s. implies (p f x y s) (q f x y s)) ≡ true
    → (f : Fork) (x y : State) (s : Bool) → p f x y s ≡ true → q f x y s ≡ true
each_where p q h f x y s = implied (p f x y s) (q f x y s) (each_edge (λ f x y s. implies (p f x y s) (q f x y s)) h f x y s)

-- ---- two forks that are one

-- the two forks are one
abbrev pub same_fork : Fork → Fork → Bool
same_fork a b = same_bool a.at_first b.at_first && (same_bool a.dirty b.dirty && same_bool a.token_first b.token_first)

-- answers that are tested to be one are
pub same_bool-true : (a b : Bool) → same_bool a b ≡ true → a ≡ b
same_bool-true true b h = sym h
same_bool-true false true h = h
same_bool-true false false h = cc

-- and so are forks
pub same_fork-true : (a b : Fork) → same_fork a b ≡ true → a ≡ b
same_fork-true a b h =
    let at = and_parts (same_bool a.at_first b.at_first) (same_bool a.dirty b.dirty && same_bool a.token_first b.token_first) h in
    let rest = and_parts (same_bool a.dirty b.dirty) (same_bool a.token_first b.token_first) at.1 in
    let of : Bool → Bool → Bool → Fork = λ p q r. record { at_first = p; dirty = q; token_first = r } in
    ap (λ p. of p a.dirty a.token_first) (same_bool-true a.at_first b.at_first at.0)
    ∙ ap (λ q. of b.at_first q a.token_first) (same_bool-true a.dirty b.dirty rest.0)
    ∙ ap (λ r. of b.at_first b.dirty r) (same_bool-true a.token_first b.token_first rest.1)

-- ---- where the two rules end

-- no step follows
abbrev pub no_step : Option Fork → Bool
no_step None = true
no_step (Some next) = false

-- where no step follows there is none
pub no_step-None : (o : Option Fork) → no_step o ≡ true → o ≡ None
no_step-None None h = refl
no_step-None (Some next) h = absurd (let k : false ≡ true = h in cc)

-- the fork after n steps, or where it is quiet before
abbrev steps_on : ℕ → Fork → State → State → Fork
steps_on zero fork first second = fork
steps_on (suc n) fork first second = steps_on n (step_or_stay fork first second) first second

-- a quiet edge stays as it is
stays : (n : ℕ) (fork : Fork) (first second : State) → step_of fork first second ≡ None → steps_on n fork first second ≡ fork
stays zero fork first second h = refl
stays (suc n) fork first second h = ap (λ o. steps_on n (unwrap_or o fork) first second) h ∙ stays n fork first second h

-- the steps that are counted lead there
reaches : (n : ℕ) (fork : Fork) (first second : State) → ReachedBy (messages_within n fork first second) fork first second (steps_on n fork first second)
reaches zero fork first second = refl
reaches (suc n) fork first second = go (λ next. reaches n next first second) (step_of fork first second) refl
  where
    go : ((next : Fork) → ReachedBy (messages_within n next first second) next first second (steps_on n next first second)) → (o : Option Fork) → step_of fork first second ≡ o
        → ReachedBy (one_more (λ next. messages_within n next first second) (step_of fork first second)) fork first second (steps_on n (unwrap_or (step_of fork first second) fork) first second)
    go rest None e = rw e (sym (stays n fork first second e))
    go rest (Some next) e = rw e (rw add-one (next, e, rest next))

-- each edge settles where it is computed to
pub settles-settled : (fork : Fork) (first second : State) → Settles fork first second (settled fork first second) (messages_left fork first second)
unfolding messages_left
settles-settled fork first second = record {
  reached = reaches 3 fork first second;
  quiet = no_step-None _ (each_edge (λ f x y _. no_step (step_of (settled f x y) x y)) refl fork first second true);
}

-- and nowhere else
settles_once : (m n : ℕ) (old f g : Fork) (x y : State) → IsQuiet f x y → IsQuiet g x y → ReachedBy m old x y f → ReachedBy n old x y g → (f ≡ g) × (m ≡ n)
settles_once zero zero old f g x y qf qg p q = (sym p ∙ q, refl)
settles_once zero (suc n) old f g x y qf qg p (mid, step, rest) = absurd (let k : Some mid ≡ None = sym step ∙ subst (λ w. step_of w x y ≡ None) (sym p) qf in cc)
settles_once (suc m) zero old f g x y qf qg (mid, step, rest) q = absurd (let k : Some mid ≡ None = sym step ∙ subst (λ w. step_of w x y ≡ None) (sym q) qg in cc)
settles_once (suc m) (suc n) old f g x y qf qg (mid, step, rest) (mid', step', rest') =
    let same : mid' ≡ mid = (let k : Some mid' ≡ Some mid = sym step' ∙ step in cc) in
    let r = settles_once m n mid f g x y qf qg rest (subst (λ w. ReachedBy n w x y g) same rest') in
    (r.0, ap suc r.1)

-- where an edge is quiet is so computed
pub settled-is : (n : ℕ) (old new : Fork) (x y : State) → ReachedBy n old x y new → IsQuiet new x y → (new ≡ settled old x y) × (n ≡ messages_left old x y)
settled-is n old new x y reached quiet =
    let all = settles-settled old x y in
    settles_once n (messages_left old x y) old new (settled old x y) x y quiet all.quiet reached all.reached

-- which a walk may cite
pub ruleset where_quiet = (settled-is)

-- the edge is computed to settle at a fork, with so many messages
abbrev pub settles_so : Fork → State → State → Fork → ℕ → Bool
settles_so old x y new n = same_fork (settled old x y) new && eqb (messages_left old x y) n

-- then it is the one that is computed
pub settles_so-true : (old new : Fork) (x y : State) (n : ℕ) → settles_so old x y new n ≡ true → (new ≡ settled old x y) × (n ≡ messages_left old x y)
settles_so-true old new x y n h =
    let both = and_parts (same_fork (settled old x y) new) (eqb (messages_left old x y) n) h in
    (sym (same_fork-true (settled old x y) new both.0), sym (eqb-true (messages_left old x y) n both.1))

-- and the edge settles there
pub settles_by : (old new : Fork) (x y : State) (n : ℕ) → settles_so old x y new n ≡ true → Settles old x y new n
settles_by old new x y n h =
    let is = settles_so-true old new x y n h in
    rw (is.0, is.1) (settles-settled old x y)

-- ---- what the shapes of an edge tell of its holder and of what is sent on it

-- at most one rule is enabled
pub one_rule : (fork : Fork) (x y : State) → (asks fork x y && yields fork x y) ≡ false
one_rule fork x y = not-true (asks fork x y && yields fork x y) (each_edge (λ f x y _. not (asks f x y && yields f x y)) refl fork x y true)

-- a lawful edge has nothing to send
pub lawful-quiet : (fork : Fork) (x y : State) → is_lawful fork x y ≡ true → IsQuiet fork x y
lawful-quiet fork x y h =
    no_step-None (step_of fork x y) (each_where (λ f x y _. is_lawful f x y) (λ f x y _. no_step (step_of f x y)) refl fork x y true h)

-- the holder of a clean fork is hungry
pub clean-hungry : (fork : Fork) (x y : State) → is_lawful fork x y ≡ true → fork.dirty ≡ false → holder fork x y ≡ Hungry
clean-hungry fork x y lawful clean =
    same_state-true Hungry (holder fork x y) (each_where (λ f x y _. is_lawful f x y && not f.dirty) (λ f x y _. same_state Hungry (holder f x y)) refl
    fork x y true (rw (lawful, clean) refl))

-- an eater that is the first end holds the fork, dirty
pub first-eater : (fork : Fork) (y : State) → is_lawful fork Eating y ≡ true → (fork.at_first ≡ true) × (fork.dirty ≡ true)
first-eater fork y lawful = and_parts fork.at_first fork.dirty (each_where (λ f _ y _. is_lawful f Eating y) (λ f _ _ _. f.at_first && f.dirty) refl fork y y true lawful)

-- and so does one that is the second
pub second-eater : (fork : Fork) (x : State) → is_lawful fork x Eating ≡ true → (fork.at_first ≡ false) × (fork.dirty ≡ true)
second-eater fork x lawful =
    let both = and_parts (not fork.at_first) fork.dirty (each_where (λ f x _ _. is_lawful f x Eating) (λ f _ _ _. not f.at_first && f.dirty) refl fork x x true lawful) in
    (not-true fork.at_first both.0, both.1)

-- so much is a law
pub ruleset shapes = (one_rule, lawful-quiet, clean-hungry, first-eater, second-eater)

-- what two ends send brings their edge to rest, where it does so at each edge that passes a test
pub sends : (p : Fork → State → State → Bool) (sent : Fork → Fork) (n : ℕ) → all_edges (λ f x y _. implies (p f x y) (settles_so f x y (sent f) n)) ≡ true → (f : Fork) (x y : State) → p f x y ≡ true → Settles f x y (sent f) n
sends p sent n h f x y passes = settles_by f (sent f) x y n (each_where (λ f x y _. p f x y) (λ f x y _. settles_so f x y (sent f) n) h f x y true passes)
