-- No two bars of one task lie over one place.
use Rattle.std.proofs.Common.{◌≡◌, ◌⊎◌, ℕ, zero, suc, ◌+◌, ◌<◌, ◌≤◌, Bool, true, false, ◌&&◌, ◌||◌, cond, List, [], ◌∷◌, ◌++◌, length, Option, Some, None, is_some, inl, inr, refl, sym, ap, ◌∙◌, arith}
use Rattle.std.specs.Prelude.{◌==◌, nat_le, nat_lt, slice_index_or}
use Rattle.std.specs.List.{list_any}
use Rattle.std.proofs.Math.Bool.{and-true}
use Rattle.std.proofs.lemmas.Bool.{cases_eq, and_right, le-ltb, lt-leb, lt-ltb, ne_eqb, or_right}
use Rattle.std.proofs.lemmas.List.Sums.{sum_by-append}
use Rattle.dine_words.specs.declared.task.Task.{Task}
use Rattle.dine_words.specs.declared.call.Call.{Call}
use Rattle.dine_words.specs.declared.call.Call.TheVariants as call
use Rattle.dine_words.specs.declared.call.Reply.{Reply}
use Rattle.dine_words.specs.declared.call.Reply.TheVariants as reply
use Rattle.dine_table.specs.Table.{Table, same_task, state_of}
use Rattle.dine_table.proofs.CallerLemmas.{same_task-refl}
use Rattle.dine_bars.specs.declared.bar.BarKind.{BarKind}
use Rattle.dine_bars.specs.declared.bar.OpenBar.{OpenBar}
use Rattle.dine_bars.specs.declared.mark.Mark.{Mark}
use Rattle.dine_bars.specs.Bars.{kind_at, bars_over, is_over}
use Rattle.dine_bars.specs.Marks.{begun_of, begun_by, begun_by_look, ended_at, ended_by, ended_by_look, goes_on, last_marks, mark_of_done, marks_of_call, next_bar}
use Rattle.dine_bars.proofs.Looks.{AreSeated, AreStanding, IsOf, at_slot, bar_looked, elsewhere, looked_all, looked_stands, own_bar}
use Rattle.dine_bars.proofs.Meals.{one_if}

-- ---- one bar

-- the bar that goes on is one of w, and lies over the place
abbrev pub open_over : Task → ℕ → Option OpenBar → Bool
open_over w n None = false
open_over w n (Some bar) = same_task bar.task w && nat_le bar.from n

-- the bars of two runs of marks over a place are those of both together
pub over-append : (w : Task) (n : ℕ) (xs ys : List Mark) → bars_over (xs ++ ys) w n ≡ bars_over xs w n + bars_over ys w n
over-append w n xs ys = sum_by-append (λ m. cond (is_over w n m) 1 0) xs ys

-- it is 1 at most
pub one_if-le : (b : Bool) → one_if b ≤ 1
one_if-le true = omega arith
one_if-le false = omega arith

-- none and some are these
none-plus : (n : ℕ) → 0 + n ≡ n
none-plus n = omega arith

-- once it ends at a later place, its mark lies over it, too
ended-over : (w : Task) (n place : ℕ) → n < place → (o : Option OpenBar) → bars_over (ended_at place o) w n ≡ one_if (open_over w n o)
ended-over w n place before None = refl
ended-over w n place before (Some bar) =
    let within : nat_lt n place ≡ true = lt-ltb n place before in
    rw within (none-plus _ ∙ ap (λ b. one_if (same_task bar.task w && b)) (and-true (nat_le bar.from n)))

-- and not over the place or later ones
pub ended-not_over : (w : Task) (n place : ℕ) → place ≤ n → (o : Option OpenBar) → bars_over (ended_at place o) w n ≡ 0
ended-not_over w n place past None = refl
ended-not_over w n place past (Some bar) =
    let over : nat_lt n place ≡ false = le-ltb n place past in
    rw over (none-plus _ ∙ ap one_if (and_right (same_task bar.task w) _ (and_right (nat_le bar.from n) false refl)))

-- a bar of another task doesn't lie over it
other-over : (u w : Task) → same_task u w ≡ false → (place n : ℕ) (o : Option OpenBar) → IsOf u place o → open_over w n o ≡ false
other-over u w other place n None own = refl
other-over u w other place n (Some bar) own = let isnt : same_task bar.task w ≡ false = ap (λ x. same_task x w) (own bar refl).0 ∙ other in rw isnt refl

-- nor does one that begins later
next-over : (c : Call) (place : ℕ) (u w : Task) (n : ℕ) → n < place → (o : Option OpenBar) (now : Option BarKind) → open_over w n (next_bar c place u o now) ≡ false
next-over c place u w n before o None = refl
next-over c place u w n before o (Some kind) = let later : nat_le place n ≡ false = lt-leb place n before in rw later (and_right (same_task u w) false refl)

-- ---- looks

module _ (c : Call) (place : ℕ) (t next : Table) (slots : ℕ) (seated : AreSeated t slots) (w : Task) (n : ℕ) where
  module _ (before : n < place) where
    module _ (begun : List (Option OpenBar)) (stands : AreStanding t place begun) (every : length begun ≡ slots) (u : Task) (here : is_some (state_of t u) ≡ true) where
      -- the bar at u's slot before the look
      abbrev was : Option OpenBar
      was = begun_of begun u

      -- what is drawn of u in the next table
      abbrev now : Option BarKind
      now = kind_at next u

      -- the bars that go on after the look
      abbrev after : List (Option OpenBar)
      after = begun_by_look c place next begun u

      -- the bar before the look is one of u
      own : IsOf u place was
      own = own_bar c place t next slots seated begun stands u here

      -- the bar that ends and the one that goes on lie over a place as often as the bar before did
      itself : (x : Task) → bars_over (ended_by_look place next begun u) x n + one_if (open_over x n (bar_looked c place u was now)) ≡ one_if (open_over x n was)
      itself x = go (goes_on was now)
        where
          go : (b : Bool) → bars_over (cond b [] (ended_at place was)) x n + one_if (open_over x n (cond b was (next_bar c place u was now))) ≡ one_if (open_over x n was)
          go true = none-plus (one_if (open_over x n was))
          go false =
              let ends = ended-over x n place before was in
              let begins : one_if (open_over x n (next_bar c place u was now)) ≡ 0 = ap one_if (next-over c place u x n before was now) in
              omega (arith, ends, begins)

      -- so they do together with the bars of other slots
      look-over : bars_over (ended_by_look place next begun u) w n + one_if (open_over w n (begun_of after w)) ≡ one_if (open_over w n (begun_of begun w))
      look-over = by_slot (cases_eq w.slot u.slot)
        where
          none_ends : same_task u w ≡ false → bars_over (ended_by_look place next begun u) w n ≡ 0
          none_ends other = go (goes_on was now)
            where
              go : (b : Bool) → bars_over (cond b [] (ended_at place was)) w n ≡ 0
              go true = refl
              go false = ended-over w n place before was ∙ ap one_if (other-over u w other place n was own)

          by_slot : (w.slot ≡ u.slot) ⊎ (w.slot ≡ u.slot → ⊥) → bars_over (ended_by_look place next begun u) w n + one_if (open_over w n (begun_of after w)) ≡ one_if (open_over w n (begun_of begun w))
          by_slot (inl same) =
              let there : one_if (open_over w n (begun_of after w)) ≡ one_if (open_over w n (bar_looked c place u was now)) = ap (λ o. one_if (open_over w n o)) (at_slot c place t next slots seated begun stands every u here w.slot same) in
              let here_too : one_if (open_over w n (begun_of begun w)) ≡ one_if (open_over w n was) = ap (λ i. one_if (open_over w n (slice_index_or begun i None))) same in
              let sums = itself w in
              omega (arith, there, here_too, sums)
          by_slot (inr apart) =
              let kept : one_if (open_over w n (begun_of after w)) ≡ one_if (open_over w n (begun_of begun w)) = ap (λ o. one_if (open_over w n o)) (elsewhere c place t next slots seated begun stands every u here w.slot apart) in
              let other : same_task u w ≡ false = ap (λ b. b && (u.born == w.born)) (ne_eqb u.slot w.slot (λ e. apart (sym e))) in
              let none = none_ends other in
              omega (arith, kept, none)

    -- over an earlier place lie as many bars after the looks as before them
    pub looks-over : (begun : List (Option OpenBar)) → AreStanding t place begun → length begun ≡ slots → (us : List Task) → ((u : Task) → list_any (same_task u) us ≡ true → is_some (state_of t u) ≡ true)
        → bars_over (ended_by c place next begun us) w n + one_if (open_over w n (begun_of (begun_by c place next begun us) w)) ≡ one_if (open_over w n (begun_of begun w))
    looks-over begun stands every [] here = none-plus (one_if (open_over w n (begun_of begun w)))
    looks-over begun stands every (u ∷ us) here =
        let here_u : is_some (state_of t u) ≡ true = here u (ap (λ b. b || list_any (same_task u) us) (same_task-refl u)) in
        let first = look-over begun stands every u here_u in
        let rest = looks-over (begun_by_look c place next begun u) (looked_stands c place t next slots seated begun stands every u here_u) (looked_all c place t next slots seated begun stands every u here_u) us (λ v h. here v (or_right (same_task v u) (list_any (same_task v) us) h)) in
        let both = over-append w n (ended_by_look place next begun u) (ended_by c place next (begun_by_look c place next begun u) us) in
        omega (arith, first, rest, both)

  -- no bar that they end lies over the place or a later one
  pub looks-not_over : place ≤ n → (begun : List (Option OpenBar)) (us : List Task) → bars_over (ended_by c place next begun us) w n ≡ 0
  looks-not_over past begun [] = refl
  looks-not_over past begun (u ∷ us) =
      let first : bars_over (ended_by_look place next begun u) w n ≡ 0 = one_look (goes_on (begun_of begun u) (kind_at next u)) in
      let rest = looks-not_over past (begun_by_look c place next begun u) us in
      let both = over-append w n (ended_by_look place next begun u) (ended_by c place next (begun_by_look c place next begun u) us) in
      omega (arith, first, rest, both)
    where
      one_look : (b : Bool) → bars_over (cond b [] (ended_at place (begun_of begun u))) w n ≡ 0
      one_look true = refl
      one_look false = ended-not_over w n place past (begun_of begun u)

-- ---- the bars that go on at the end

module _ (w : Task) (n place : ℕ) where
  -- a bar at another slot lies over no place of w
  silent-elsewhere : n < place → (s : ℕ) → (s ≡ w.slot → ⊥) → (o : Option OpenBar) → ((bar : OpenBar) → o ≡ Some bar → bar.task.slot ≡ s) → bars_over (ended_at place o) w n ≡ 0
  silent-elsewhere before s apart None at = refl
  silent-elsewhere before s apart (Some bar) at =
      let isnt : same_task bar.task w ≡ false = ap (λ b. b && (bar.task.born == w.born)) (ne_eqb bar.task.slot w.slot (λ e. apart (sym (at bar refl) ∙ e))) in
      ended-over w n place before (Some bar) ∙ rw isnt refl

  -- nor do those behind its slot
  silent-behind : n < place → (bars : List (Option OpenBar)) (from : ℕ) → ((j : ℕ) (bar : OpenBar) → slice_index_or bars j None ≡ Some bar → bar.task.slot ≡ from + j) → w.slot < from → bars_over (last_marks place bars) w n ≡ 0
  silent-behind before [] from at less = refl
  silent-behind before (o ∷ os) from at less =
      let first = silent-elsewhere before from (λ e. omega (arith, e, less)) o (λ bar e. (let h = at zero bar e in omega (arith, h))) in
      let rest = silent-behind before os (from + 1) (λ j bar e. (let h = at (suc j) bar e in omega (arith, h))) (omega (arith, less)) in
      let both = over-append w n (ended_at place o) (last_marks place os) in
      omega (arith, first, rest, both)

  -- once they end, as many bars of w lie over an earlier place as the one at w's slot did
  pub last-over : n < place → (bars : List (Option OpenBar)) (from i : ℕ) → ((j : ℕ) (bar : OpenBar) → slice_index_or bars j None ≡ Some bar → bar.task.slot ≡ from + j) → w.slot ≡ from + i → bars_over (last_marks place bars) w n ≡ one_if (open_over w n (slice_index_or bars i None))
  last-over before [] from i at here = refl
  last-over before (o ∷ os) from zero at here =
      let first = ended-over w n place before o in
      let rest = silent-behind before os (from + 1) (λ j bar e. (let h = at (suc j) bar e in omega (arith, h))) (omega (arith, here)) in
      let both = over-append w n (ended_at place o) (last_marks place os) in
      omega (arith, first, rest, both)
  last-over before (o ∷ os) from (suc i) at here =
      let first = silent-elsewhere before from (λ e. omega (arith, e, here)) o (λ bar e. (let h = at zero bar e in omega (arith, h))) in
      let rest = last-over before os (from + 1) i (λ j bar e. (let h = at (suc j) bar e in omega (arith, h))) (omega (arith, here)) in
      let both = over-append w n (ended_at place o) (last_marks place os) in
      omega (arith, first, rest, both)

  -- and none lies over the place or a later one
  pub last-not_over : place ≤ n → (bars : List (Option OpenBar)) → bars_over (last_marks place bars) w n ≡ 0
  last-not_over past [] = refl
  last-not_over past (o ∷ os) =
      let first = ended-not_over w n place past o in
      let rest = last-not_over past os in
      let both = over-append w n (ended_at place o) (last_marks place os) in
      omega (arith, first, rest, both)

-- ---- what is drawn of a call beside bars lies over no place

-- the mark of an accepted call lies over no place
done-over : (w : Task) (n place : ℕ) (c : Call) → bars_over (mark_of_done place c) w n ≡ 0
done-over w n place call.Join = refl
done-over w n place (call.Leave u) = refl
done-over w n place (call.Conflict u v) = refl
done-over w n place (call.Separate u v) = refl
done-over w n place (call.Hungry u) = refl
done-over w n place (call.Begin u) = refl
done-over w n place (call.Finish u) = refl
done-over w n place (call.Withdraw u) = refl

-- the mark of a call lies over no place
pub call-over : (w : Task) (n place pass : ℕ) (c : Call) (r : Reply) → bars_over (marks_of_call place pass c r) w n ≡ 0
call-over w n place pass c (reply.Joined u) = refl
call-over w n place pass c reply.Done = done-over w n place c
call-over w n place pass c (reply.Refused refusal) = refl
