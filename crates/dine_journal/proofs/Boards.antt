-- The board that a legal history leaves shows the states of its table.
use Rattle.std.proofs.Common.{◌≡◌, ℕ, zero, suc, ◌<◌, ◌==◌, ◌++◌, false, cond, List, [], ◌∷◌, length, Option, Some, None, inl, inr, refl, sym, ap, ◌∙◌, subst, arith, length-set}
use Rattle.std.specs.List.{All}
use Rattle.std.specs.Prelude.{replicate, slice_get, slice_set}
use Rattle.std.proofs.lemmas.Bool.{cases_Bool, cases_eq, eqb-true, eq-eqb, ne_eqb}
use Rattle.std.proofs.lemmas.List.{length-replicate}
use Rattle.std.proofs.lemmas.Option.{slice_get_within}
use Rattle.dine_words.specs.declared.task.Diner.{Diner}
use Rattle.dine_words.specs.declared.task.Task.{Task}
use Rattle.dine_words.specs.declared.task.State.{State}
use Rattle.dine_words.specs.declared.task.State.TheVariants.{Thinking, Hungry, Eating}
use Rattle.dine_words.specs.declared.call.Call.{Call}
use Rattle.dine_words.specs.declared.call.Call.TheVariants as call
use Rattle.dine_words.specs.declared.call.Refusal.{Refusal}
use Rattle.dine_words.specs.declared.entry.Entry.{Entry}
use Rattle.dine_words.specs.declared.limits.Limits.{Limits}
use Rattle.dine_table.specs.Table.{Table, opening_table, same_task, state_in, state_of}
use Rattle.dine_table.specs.Calls.{newcomer, refusal_of, refusal_unless, reply_of, acceptance_of, table_after_call}
use Rattle.dine_table.specs.History.{IsLegal, IsLegalFrom, table_after, table_from}
use Rattle.dine_table.specs.Sound.{IsSound}
use Rattle.dine_table.proofs.CallerLemmas.{found, limits-after_call, newcomers_slot-free, newcomers_slot-lt, or_else-None, same_task-true, slice_get-set_other, slice_get-set_same, sound_after_call, sound_at_opening}
use Rattle.dine_journal.specs.declared.board.Place.{Place}
use Rattle.dine_journal.specs.declared.board.Change.{Change}
use Rattle.dine_journal.specs.Told.{told_by, told_by_reply, has_from_now, put_told, board_from, board_after, opening_board, empty_place, shown_in, shown_at}
use Rattle.dine_journal.proofs.StateChanges.{state_changed, state-changed}

-- the board has a place for each task that the limits allow, and shows the states of the table
record Shows (places : List Place) (t : Table) : Type 0 where
  places_here : length places ≡ t.limits.tasks
  states : (w : Task) → state_of t w ≡ shown_at places w

-- where a state is shown, somebody of that name sits there
sits_there : (o : Option Place) (x : Task) (s : State) → shown_in o x ≡ Some s → (p : Place) × (o ≡ Some p) × (p.born ≡ x.born)
sits_there None x s h = absurd (let k : None ≡ Some s = h in cc)
sits_there (Some p) x s h = elim (cases_Bool (p.born == x.born)) [
  | inl e ↦ (p, refl, eqb-true p.born x.born e)
  | inr e ↦ absurd (let k : None ≡ Some s = rw e at h in cc)
]

-- what is told of a task is shown of it, and of no other, where it alone may sit in its slot
put_shown : (places : List Place) (t : Table) (x : Task) (new : Option State) → ((w : Task) → state_of t w ≡ shown_at places w) → x.slot < length places
    → ((w : Task) → x.slot ≡ w.slot → (x.born == w.born) ≡ false → state_of t w ≡ None)
    → (w : Task) → cond (same_task x w) new (state_of t w) ≡ shown_at (put_told places (has_from_now x new)) w
put_shown places t x new states inside alone w =
    let p : Place = record { born = x.born; state = new } in
    elim (cases_eq x.slot w.slot) [
      | inl here ↦
          let get : slice_get (slice_set places x.slot p) w.slot ≡ Some p = ap (slice_get (slice_set places x.slot p)) (sym here) ∙ slice_get-set_same places x.slot p inside in
          elim (cases_Bool (x.born == w.born)) [
            | inl same ↦ rw (get, eq-eqb x.slot w.slot here, same) refl
            | inr other ↦ rw (get, eq-eqb x.slot w.slot here, other) (alone w here other)
          ]
      | inr away ↦ rw (ne_eqb x.slot w.slot away, slice_get-set_other places x.slot w.slot p away) (states w)
    ]

-- whoever is present sits in its slot alone
put_present : (places : List Place) (t : Table) (x : Task) (s : State) (new : Option State) → ((w : Task) → state_of t w ≡ shown_at places w) → state_of t x ≡ Some s
    → (w : Task) → cond (same_task x w) new (state_of t w) ≡ shown_at (put_told places (has_from_now x new)) w
put_present places t x s new states present =
    let there = sits_there (slice_get places x.slot) x s (sym (states x) ∙ present) in
    put_shown places t x new states (slice_get_within places x.slot there.0 there.1)
    (λ w here other. (let empty : (there.0.born == w.born) ≡ false = ap (λ n. n == w.born) there.2 ∙ other in let get : slice_get places w.slot ≡ Some there.0 = ap (slice_get places) (sym here) ∙ there.1 in states w ∙ rw (get, empty) refl))

-- nobody sits in a slot that is free
absent_if_free : (s : ℕ) (order : List Diner) → All (λ d. d.task.slot ≡ s → ⊥) order → (w : Task) → s ≡ w.slot → state_in order w ≡ None
absent_if_free s [] free w here = refl
absent_if_free s (d ∷ ds) free w here = elim (cases_Bool (same_task d.task w)) [
  | inl e ↦ absurd (free 0 d (omega arith) (ap (λ (u : Task). u.slot) (same_task-true d.task w e) ∙ sym here))
  | inr e ↦ rw e (absent_if_free s ds (λ k x lt. free (suc k) x (omega arith)) w here)
]

-- a board that shows the states before an accepted call shows those after it, once what its reply tells was put there
shown-changed : (t : Table) → IsSound t → (places : List Place) → Shows places t → (c : Call) → refusal_of t c ≡ None → (w : Task) → state_changed t c w (state_of t w) ≡ shown_at (put_told places (told_by_reply c (acceptance_of t c))) w
shown-changed t sound places shows call.Join ok w =
    put_shown places t (newcomer t) (Some Thinking) shows.states (subst (λ (n : ℕ). (newcomer t).slot < n) (sym shows.places_here) (newcomers_slot-lt t ok))
    (λ x here other. absent_if_free (newcomer t).slot t.order (newcomers_slot-free t) x here) w
shown-changed t sound places shows (call.Leave x) ok w = put_present places t x Thinking None shows.states (found Thinking (state_of t x) ok) w
shown-changed t sound places shows (call.Conflict a b) ok w = shows.states w
shown-changed t sound places shows (call.Separate a b) ok w = shows.states w
shown-changed t sound places shows (call.Hungry x) ok w = put_present places t x Thinking (Some Hungry) shows.states (found Thinking (state_of t x) ok) w
shown-changed t sound places shows (call.Begin x) ok w = put_present places t x Hungry (Some Eating) shows.states (found Hungry (state_of t x) (or_else-None (refusal_unless Hungry (state_of t x)) _ ok).0) w
shown-changed t sound places shows (call.Finish x) ok w = put_present places t x Eating (Some Thinking) shows.states (found Eating (state_of t x) ok) w
shown-changed t sound places shows (call.Withdraw x) ok w = put_present places t x Hungry (Some Thinking) shows.states (found Hungry (state_of t x) ok) w

-- no place comes or goes
length-put_told : (places : List Place) (told : Option Change) → length (put_told places told) ≡ length places
length-put_told places None = refl
length-put_told places (Some told) = length-set places told.task.slot (record { born = told.task.born; state = told.state })

-- the same of any call
shows-call : (t : Table) → IsSound t → (places : List Place) → Shows places t → (c : Call) → Shows (put_told places (told_by_reply c (reply_of t c))) (table_after_call t c)
shows-call t sound places shows c = record {
  places_here = length-put_told places (told_by_reply c (reply_of t c)) ∙ (shows.places_here ∙ sym (ap (λ (l : Limits). l.tasks) (limits-after_call t c)));
  states = λ w. go w (refusal_of t c) refl;
}
  where
    go : (w : Task) (o : Option Refusal) → refusal_of t c ≡ o → state_of (table_after_call t c) w ≡ shown_at (put_told places (told_by_reply c (reply_of t c))) w
    go w None e = rw e (state-changed t sound c e w ∙ shown-changed t sound places shows c e w)
    go w (Some r) e = rw e (shows.states w)

-- the same of entries one after the other
shows-from : (t : Table) → IsSound t → (places : List Place) → Shows places t → (history : List Entry) → IsLegalFrom t history → Shows (board_from places history) (table_from t history)
shows-from t sound places shows [] legal = shows
shows-from t sound places shows (e ∷ es) legal =
    let one : Shows (put_told places (told_by e)) (table_after_call t e.call) = subst (λ r. Shows (put_told places (told_by_reply e.call r)) (table_after_call t e.call)) (sym legal.0) (shows-call t sound places shows e.call) in
    shows-from (table_after_call t e.call) (sound_after_call t e.call sound) (put_told places (told_by e)) one es legal.1

-- at the opening nobody is present, and no place shows anybody
shows-opening : (limits : Limits) → Shows (opening_board limits) (opening_table limits)
shows-opening limits = record {
  places_here = length-replicate limits.tasks empty_place;
  states = λ w. sym (empty limits.tasks w.slot w);
}
  where
    empty_in : (w : Task) → shown_in (Some empty_place) w ≡ None
    empty_in w = elim (cases_Bool (0 == w.born)) [
      | inl e ↦ rw e refl
      | inr e ↦ rw e refl
    ]

    empty : (n i : ℕ) (w : Task) → shown_in (slice_get (replicate n empty_place) i) w ≡ None
    empty zero i w = refl
    empty (suc n) zero w = empty_in w
    empty (suc n) (suc i) w = empty n i w

-- so the board of a legal history shows the states of its table
pub board-shows : (limits : Limits) (history : List Entry) (u : Task) → IsLegal limits history → state_of (table_after limits history) u ≡ shown_at (board_after limits history) u
board-shows limits history u legal = (shows-from (opening_table limits) (sound_at_opening limits) (opening_board limits) (shows-opening limits) history legal).states u

-- the board after one entry more
pub board_from-append : (places : List Place) (history : List Entry) (e : Entry) → board_from places (history ++ e ∷ []) ≡ put_told (board_from places history) (told_by e)
board_from-append places [] e = refl
board_from-append places (x ∷ xs) e = board_from-append (put_told places (told_by x)) xs e
