-- Looks at tasks: what they leave of the bars that go on, and what the bars that end and those that go on say together.
use Rattle.std.proofs.Common.{◌≡◌, ℕ, zero, suc, ◌+◌, ◌<◌, ◌≤◌, Bool, true, false, ◌&&◌, ◌||◌, cond, List, [], ◌∷◌, length, Option, Some, None, is_some, inl, inr, refl, sym, ap, ◌∙◌, subst, arith, length-set}
use Rattle.std.specs.Prelude.{◌==◌, nat_le, nat_lt, slice_index_or, slice_set}
use Rattle.std.specs.List.{list_any}
use Rattle.std.proofs.lemmas.Bool.{cases_Bool, cases_eq, and_right, le-leb, ne_eqb, le-ltb, lt-leb, lt-ltb, or_from, or_parts}
use Rattle.std.proofs.Math.Bool.{and-true, or-false, or_assoc}
use Rattle.std.proofs.lemmas.List.{get_or-set_other, get_or-set_same}
use Rattle.std.proofs.lemmas.List.Folds.{list_any-append}
use Rattle.std.proofs.lemmas.Option.{same_Some}
use Rattle.dine_words.specs.declared.task.Task.{Task}
use Rattle.dine_words.specs.declared.call.Call.{Call}
use Rattle.dine_table.specs.Table.{Table, same_task, state_of}
use Rattle.dine_table.proofs.CallerLemmas.{same_task-refl, same_task-sym, same_task-true}
use Rattle.dine_bars.specs.declared.bar.BarKind.{BarKind}
use Rattle.dine_bars.specs.declared.bar.BarKind.TheVariants.{Meal, KeptWaiting, MayBegin}
use Rattle.dine_bars.specs.declared.bar.OpenBar.{OpenBar}
use Rattle.dine_bars.specs.declared.mark.Mark.{Mark}
use Rattle.dine_bars.specs.Bars.{kind_at, same_kind, is_kind, is_drawn}
pub use Rattle.dine_bars.specs.Begun.{AreSeated, AreStanding, kind_of_bar}
use Rattle.dine_bars.specs.Marks.{begun_of, begun_by, begun_by_look, ended_at, ended_by, ended_by_look, goes_on, last_marks, next_bar, turn_after}

-- ---- kinds

-- only equal kinds are told to be one
pub same_kind-true : (a b : BarKind) → same_kind a b ≡ true → a ≡ b
same_kind-true Meal Meal h = refl
same_kind-true KeptWaiting KeptWaiting h = refl
same_kind-true MayBegin MayBegin h = refl
same_kind-true a b h = absurd (let k : false ≡ true = h in cc)

-- a kind is one with itself
pub same_kind-refl : (a : BarKind) → same_kind a a ≡ true
same_kind-refl Meal = refl
same_kind-refl KeptWaiting = refl
same_kind-refl MayBegin = refl

-- ---- what a bar that goes on says

-- that u does this at a place, if that isn't before its beginning
abbrev pub open_says : Task → BarKind → ℕ → Option OpenBar → Bool
open_says u k n None = false
open_says u k n (Some bar) = same_task bar.task u && (same_kind bar.kind k && nat_le bar.from n)

-- it is of u, and began at the place or before
abbrev pub IsOf : Task → ℕ → Option OpenBar → Type 0
IsOf u place o = (bar : OpenBar) → o ≡ Some bar → (bar.task ≡ u) × (bar.from ≤ place)

-- once it ends at a later place, its mark says the same
pub says-ended : (w : Task) (k : BarKind) (n place : ℕ) → n < place → (o : Option OpenBar) → is_drawn (ended_at place o) w k n ≡ open_says w k n o
says-ended w k n place before None = refl
says-ended w k n place before (Some bar) =
    let within : nat_lt n place ≡ true = lt-ltb n place before in
    rw within (or-false _ ∙ ap (λ b. same_task bar.task w && (same_kind bar.kind k && b)) (and-true (nat_le bar.from n)))

-- and nothing of the place and later ones
says-no_more : (w : Task) (k : BarKind) (n place : ℕ) → place ≤ n → (o : Option OpenBar) → is_drawn (ended_at place o) w k n ≡ false
says-no_more w k n place past None = refl
says-no_more w k n place past (Some bar) =
    let over : nat_lt n place ≡ false = le-ltb n place past in
    rw over (or-false _ ∙ and_right (same_task bar.task w) _ (and_right (same_kind bar.kind k) _ (and_right (nat_le bar.from n) false refl)))

-- it says nothing of another task
module _ (u w : Task) (other : same_task u w ≡ false) (place : ℕ) where
  -- it is of no kind where the other task is asked for
  pub kind_of_other : (o : Option OpenBar) → IsOf u place o → kind_of_bar w o ≡ None
  kind_of_other None own = refl
  kind_of_other (Some bar) own = let isnt : same_task bar.task w ≡ false = ap (λ x. same_task x w) (own bar refl).0 ∙ other in rw isnt refl

  -- and says nothing of it at any place
  pub says-other : (o : Option OpenBar) → IsOf u place o → (k : BarKind) (n : ℕ) → open_says w k n o ≡ false
  says-other None own k n = refl
  says-other (Some bar) own k n = let isnt : same_task bar.task w ≡ false = ap (λ x. same_task x w) (own bar refl).0 ∙ other in rw isnt refl

-- a bar says at its last place of which kind it is
pub says-now : (w : Task) (k : BarKind) (n : ℕ) (o : Option OpenBar) → ((bar : OpenBar) → o ≡ Some bar → bar.from ≤ n) → open_says w k n o ≡ is_kind k (kind_of_bar w o)
says-now w k n None began = refl
says-now w k n (Some bar) began =
    let here : nat_le bar.from n ≡ true = le-leb bar.from n (began bar refl) in
    elim (cases_Bool (same_task bar.task w)) [
      | inl same ↦ rw (same, here) (and-true (same_kind bar.kind k))
      | inr other ↦ rw other refl
    ]

-- ---- one look

module _ (c : Call) (place : ℕ) (u : Task) where
  -- the bar at u's slot after a look, and the marks
  abbrev pub bar_looked : Option OpenBar → Option BarKind → Option OpenBar
  bar_looked o now = cond (goes_on o now) o (next_bar c place u o now)

  -- the mark of the bar that the look ends
  abbrev marks_looked : Option OpenBar → Option BarKind → List Mark
  marks_looked o now = cond (goes_on o now) [] (ended_at place o)

  -- the bar after the look is one of u, as the one before it was
  pub looked-own : (o : Option OpenBar) (now : Option BarKind) → IsOf u place o → IsOf u place (bar_looked o now)
  looked-own o now own = go (goes_on o now)
    where
      next_own : (now : Option BarKind) → IsOf u place (next_bar c place u o now)
      next_own None bar e = absurd (let k : None ≡ Some bar = e in cc)
      next_own (Some kind) bar e =
          let new : OpenBar = record { task = u; kind = kind; from = place; turn = turn_after c place u o kind } in
          let is : new ≡ bar = same_Some new bar e in
          let began : place ≡ bar.from = ap (λ (b : OpenBar). b.from) is in
          (sym (ap (λ (b : OpenBar). b.task) is), omega (arith, began))

      go : (b : Bool) → IsOf u place (cond b o (next_bar c place u o now))
      go true = own
      go false = next_own now

  -- the bar of u after the look is of the kind that is drawn now
  looked-kind : (o : Option OpenBar) (now : Option BarKind) → IsOf u place o → kind_of_bar u (bar_looked o now) ≡ now
  looked-kind None None own = refl
  looked-kind None (Some kind) own = rw (same_task-refl u) refl
  looked-kind (Some bar) None own = refl
  looked-kind (Some bar) (Some kind) own = elim (cases_Bool (same_kind kind bar.kind)) [
    | inl same ↦
        let mine : same_task bar.task u ≡ true = ap (λ x. same_task x u) (own bar refl).0 ∙ same_task-refl u in
        rw (same, mine) (ap Some (sym (same_kind-true kind bar.kind same)))
    | inr other ↦ rw (other, same_task-refl u) refl
  ]

  -- a bar that begins at the place says nothing of those before
  next-silent : (w : Task) (k : BarKind) (n : ℕ) → n < place → (o : Option OpenBar) (now : Option BarKind) → open_says w k n (next_bar c place u o now) ≡ false
  next-silent w k n before o None = refl
  next-silent w k n before o (Some kind) =
      let later : nat_le place n ≡ false = lt-leb place n before in
      rw later (and_right (same_task u w) _ (and_right (same_kind kind k) false refl))

  -- of the places before, the mark and the bar together say what the bar said
  looked-past : (w : Task) (k : BarKind) (n : ℕ) → n < place → (o : Option OpenBar) (now : Option BarKind) → (is_drawn (marks_looked o now) w k n || open_says w k n (bar_looked o now)) ≡ open_says w k n o
  looked-past w k n before o now = go (goes_on o now)
    where
      go : (b : Bool) → (is_drawn (cond b [] (ended_at place o)) w k n || open_says w k n (cond b o (next_bar c place u o now))) ≡ open_says w k n o
      go true = refl
      go false = ap (λ x. is_drawn (ended_at place o) w k n || x) (next-silent w k n before o now) ∙ or-false _ ∙ says-ended w k n place before o

  -- the mark says nothing of the place or one behind it
  looked-end : (w : Task) (k : BarKind) (n : ℕ) → place ≤ n → (o : Option OpenBar) (now : Option BarKind) → is_drawn (marks_looked o now) w k n ≡ false
  looked-end w k n past o now = go (goes_on o now)
    where
      go : (b : Bool) → is_drawn (cond b [] (ended_at place o)) w k n ≡ false
      go true = refl
      go false = says-no_more w k n place past o

  -- of another task the mark says nothing
  looked-other : (w : Task) → same_task u w ≡ false → (k : BarKind) (n : ℕ) → n < place → (o : Option OpenBar) (now : Option BarKind) → IsOf u place o → is_drawn (marks_looked o now) w k n ≡ false
  looked-other w other k n before o now own = go (goes_on o now)
    where
      go : (b : Bool) → is_drawn (cond b [] (ended_at place o)) w k n ≡ false
      go true = refl
      go false = says-ended w k n place before o ∙ says-other u w other place o own k n

-- ---- the bars by slot

module _ (c : Call) (place : ℕ) (t next : Table) (slots : ℕ) (seated : AreSeated t slots) where
  -- the bar at the slot of a task that is present is its own
  pub own_bar : (begun : List (Option OpenBar)) → AreStanding t place begun → (u : Task) → is_some (state_of t u) ≡ true → IsOf u place (begun_of begun u)
  own_bar begun stands u here bar e =
      let (slot, present, from) = stands u.slot bar e in
      (seated.one bar.task u present here slot, from)

  module _ (begun : List (Option OpenBar)) (stands : AreStanding t place begun) (all : length begun ≡ slots) (u : Task) (here : is_some (state_of t u) ≡ true) where
    -- the bars that go on after the look
    abbrev pub after : List (Option OpenBar)
    after = begun_by_look c place next begun u

    -- the bar at u's slot before it
    abbrev pub was : Option OpenBar
    was = begun_of begun u

    -- what is drawn of u in the next table
    abbrev pub now : Option BarKind
    now = kind_at next u

    -- the bar before the look is one of u
    pub own : IsOf u place was
    own = own_bar begun stands u here

    -- at u's slot is the bar that the look leaves there
    pub at_slot : (s : ℕ) → s ≡ u.slot → slice_index_or after s None ≡ bar_looked c place u was now
    at_slot s same = go (goes_on was now)
      where
        go : (b : Bool) → slice_index_or (cond b begun (slice_set begun u.slot (next_bar c place u was now))) s None ≡ cond b was (next_bar c place u was now)
        go true = ap (λ i. slice_index_or begun i None) same
        go false = ap (λ i. slice_index_or (slice_set begun u.slot (next_bar c place u was now)) i None) same ∙ get_or-set_same begun u.slot (next_bar c place u was now) None (subst (λ m. u.slot < m) (sym all) (seated.within u here))

    -- every other slot has the bar that it had
    pub elsewhere : (s : ℕ) → (s ≡ u.slot → ⊥) → slice_index_or after s None ≡ slice_index_or begun s None
    elsewhere s apart = go (goes_on was now)
      where
        go : (b : Bool) → slice_index_or (cond b begun (slice_set begun u.slot (next_bar c place u was now))) s None ≡ slice_index_or begun s None
        go true = refl
        go false = get_or-set_other begun u.slot s (next_bar c place u was now) None apart

    -- the bars still stand at the slots of tasks that are present
    pub looked_stands : AreStanding t place after
    looked_stands s bar e = elim (cases_eq s u.slot) [
      | inl same ↦
          let mine = looked-own c place u was now own bar (sym (at_slot s same) ∙ e) in
          (ap (λ (x : Task). x.slot) mine.0 ∙ sym same, ap (λ x. is_some (state_of t x)) mine.0 ∙ here, mine.1)
      | inr apart ↦ stands s bar (sym (elsewhere s apart) ∙ e)
    ]

    -- there are as many slots as before
    pub looked_all : length after ≡ slots
    looked_all = go (goes_on was now)
      where
        go : (b : Bool) → length (cond b begun (slice_set begun u.slot (next_bar c place u was now))) ≡ slots
        go true = all
        go false = length-set begun u.slot (next_bar c place u was now) ∙ all

    -- the bar of u is of the kind that is drawn of it in the next table
    pub kind_now : kind_of_bar u (begun_of after u) ≡ kind_at next u
    kind_now = ap (kind_of_bar u) (at_slot u.slot refl) ∙ looked-kind c place u was now own

    -- the bar of another task is of the kind that it was
    pub kind_still : (w : Task) → same_task u w ≡ false → kind_of_bar w (begun_of after w) ≡ kind_of_bar w (begun_of begun w)
    kind_still w other = elim (cases_eq w.slot u.slot) [
      | inl same ↦
          ap (kind_of_bar w) (at_slot w.slot same) ∙ kind_of_other u w other place (bar_looked c place u was now) (looked-own c place u was now own)
          ∙ sym (ap (λ i. kind_of_bar w (slice_index_or begun i None)) same ∙ kind_of_other u w other place was own)
      | inr apart ↦ ap (kind_of_bar w) (elsewhere w.slot apart)
    ]

    -- of the places before, the marks and the bars that go on say together what the bars said
    says_past : (w : Task) (k : BarKind) (n : ℕ) → n < place → (is_drawn (ended_by_look place next begun u) w k n || open_says w k n (begun_of after w)) ≡ open_says w k n (begun_of begun w)
    says_past w k n before = elim (cases_Bool (same_task u w)) [
      | inl same ↦ subst (λ x. (is_drawn (ended_by_look place next begun u) x k n || open_says x k n (begun_of after x)) ≡ open_says x k n (begun_of begun x)) (same_task-true u w same) (ap (λ o. is_drawn (ended_by_look place next begun u) u k n || open_says u k n o) (at_slot u.slot refl) ∙ looked-past c place u u k n before was now)
      | inr other ↦ ap (λ b. b || open_says w k n (begun_of after w)) (looked-other c place u w other k n before was now own) ∙ still other
    ]
      where
        still : same_task u w ≡ false → open_says w k n (begun_of after w) ≡ open_says w k n (begun_of begun w)
        still other = elim (cases_eq w.slot u.slot) [
          | inl same ↦
              ap (open_says w k n) (at_slot w.slot same) ∙ says-other u w other place (bar_looked c place u was now) (looked-own c place u was now own) k n
              ∙ sym (ap (λ i. open_says w k n (slice_index_or begun i None)) same ∙ says-other u w other place was own k n)
          | inr apart ↦ ap (open_says w k n) (elsewhere w.slot apart)
        ]

    -- and the marks say nothing of the place or one behind it
    says_end : (w : Task) (k : BarKind) (n : ℕ) → place ≤ n → is_drawn (ended_by_look place next begun u) w k n ≡ false
    says_end w k n past = looked-end c place u w k n past was now

  -- ---- looks at each of some tasks

  -- what is known after them
  pub record AreLooked (begun : List (Option OpenBar)) (us : List Task) : Type 0 where
    pub stand : AreStanding t place (begun_by c place next begun us)
    pub all : length (begun_by c place next begun us) ≡ slots
    pub now : (w : Task) → list_any (same_task w) us ≡ true → kind_of_bar w (begun_of (begun_by c place next begun us) w) ≡ kind_at next w
    pub still : (w : Task) → list_any (same_task w) us ≡ false → kind_of_bar w (begun_of (begun_by c place next begun us) w) ≡ kind_of_bar w (begun_of begun w)
    pub past : (w : Task) (k : BarKind) (n : ℕ) → n < place → (is_drawn (ended_by c place next begun us) w k n || open_says w k n (begun_of (begun_by c place next begun us) w)) ≡ open_says w k n (begun_of begun w)
    pub end : (w : Task) (k : BarKind) (n : ℕ) → place ≤ n → is_drawn (ended_by c place next begun us) w k n ≡ false

  -- so much is known after looks at any tasks that are present
  pub looked : (begun : List (Option OpenBar)) → AreStanding t place begun → length begun ≡ slots → (us : List Task) → ((u : Task) → list_any (same_task u) us ≡ true → is_some (state_of t u) ≡ true) → AreLooked begun us
  looked begun stands every [] here = record {
    stand = stands;
    all = every;
    now = λ w h. absurd (let k : false ≡ true = h in cc);
    still = λ w h. refl;
    past = λ w k n before. refl;
    end = λ w k n over. refl;
  }
  looked begun stands every (u ∷ us) here =
      let here_u : is_some (state_of t u) ≡ true = here u (ap (λ b. b || list_any (same_task u) us) (same_task-refl u)) in
      let next_begun : List (Option OpenBar) = begun_by_look c place next begun u in
      let rest : AreLooked next_begun us = looked next_begun (looked_stands begun stands every u here_u) (looked_all begun stands every u here_u) us (λ w h. here w (or-second (same_task w u) (list_any (same_task w) us) h)) in
      record {
        stand = rest.stand;
        all = rest.all;
        now = λ w h. (elim (cases_Bool (list_any (same_task w) us)) [
          | inl later ↦ rest.now w later
          | inr never ↦ rest.still w never ∙ subst (λ x. kind_of_bar x (begun_of next_begun x) ≡ kind_at next x) (sym (same_task-true w u (or-first (same_task w u) (list_any (same_task w) us) h never))) (kind_now begun stands every u here_u)
        ]);
        still = λ w h. (let parts = or_parts (same_task w u) (list_any (same_task w) us) h in rest.still w parts.1 ∙ kind_still begun stands every u here_u w (same_task-sym u w ∙ parts.0));
        past = λ w k n before. (
            ap (λ b. b || open_says w k n (begun_of (begun_by c place next next_begun us) w)) (list_any-append _ (ended_by_look place next begun u) (ended_by c place next next_begun us))
            ∙ or_assoc (is_drawn (ended_by_look place next begun u) w k n) (is_drawn (ended_by c place next next_begun us) w k n) (open_says w k n (begun_of (begun_by c place next next_begun us) w))
            ∙ ap (λ b. is_drawn (ended_by_look place next begun u) w k n || b) (rest.past w k n before)
            ∙ says_past begun stands every u here_u w k n before);
        end = λ w k n over. (
            list_any-append _ (ended_by_look place next begun u) (ended_by c place next next_begun us)
            ∙ or_from (is_drawn (ended_by_look place next begun u) w k n) (is_drawn (ended_by c place next next_begun us) w k n) (says_end begun stands every u here_u w k n over) (rest.end w k n over));
      }
    where
      or-second : (a b : Bool) → b ≡ true → (a || b) ≡ true
      or-second true b h = refl
      or-second false b h = h

      or-first : (a b : Bool) → (a || b) ≡ true → b ≡ false → a ≡ true
      or-first true b h k = refl
      or-first false b h k = absurd (let z : false ≡ true = sym k ∙ h in cc)

-- ---- the bars that go on at the end

module _ (w : Task) (k : BarKind) (n place : ℕ) (before : n < place) where
  -- a bar at another slot says nothing of w
  elsewhere-silent : (s : ℕ) → (s ≡ w.slot → ⊥) → (o : Option OpenBar) → ((bar : OpenBar) → o ≡ Some bar → bar.task.slot ≡ s) → is_drawn (ended_at place o) w k n ≡ false
  elsewhere-silent s apart None at = refl
  elsewhere-silent s apart (Some bar) at =
      let isnt : same_task bar.task w ≡ false = ap (λ b. b && (bar.task.born == w.born)) (ne_eqb bar.task.slot w.slot (λ e. apart (sym (at bar refl) ∙ e))) in
      says-ended w k n place before (Some bar) ∙ ap (λ b. b && (same_kind bar.kind k && nat_le bar.from n)) isnt

  -- nor do those behind its slot
  behind-silent : (bars : List (Option OpenBar)) (from : ℕ) → ((j : ℕ) (bar : OpenBar) → slice_index_or bars j None ≡ Some bar → bar.task.slot ≡ from + j) → w.slot < from → is_drawn (last_marks place bars) w k n ≡ false
  behind-silent [] from at less = refl
  behind-silent (o ∷ os) from at less =
      list_any-append _ (ended_at place o) (last_marks place os)
      ∙ or_from (is_drawn (ended_at place o) w k n) (is_drawn (last_marks place os) w k n)
      (elsewhere-silent from (λ e. omega (arith, e, less)) o (λ bar e. (let h = at zero bar e in omega (arith, h))))
      (behind-silent os (from + 1) (λ j bar e. (let h = at (suc j) bar e in omega (arith, h))) (omega (arith, less)))

  -- the marks of the bars that go on say of w what the bar at its slot says
  pub last-says : (bars : List (Option OpenBar)) (from i : ℕ) → ((j : ℕ) (bar : OpenBar) → slice_index_or bars j None ≡ Some bar → bar.task.slot ≡ from + j) → w.slot ≡ from + i → is_drawn (last_marks place bars) w k n ≡ open_says w k n (slice_index_or bars i None)
  last-says [] from i at here = refl
  last-says (o ∷ os) from zero at here =
      list_any-append _ (ended_at place o) (last_marks place os)
      ∙ ap (λ b. is_drawn (ended_at place o) w k n || b) (behind-silent os (from + 1) (λ j bar e. (let h = at (suc j) bar e in omega (arith, h))) (omega (arith, here)))
      ∙ or-false (is_drawn (ended_at place o) w k n)
      ∙ says-ended w k n place before o
  last-says (o ∷ os) from (suc i) at here =
      list_any-append _ (ended_at place o) (last_marks place os)
      ∙ ap (λ b. b || is_drawn (last_marks place os) w k n) (elsewhere-silent from (λ e. omega (arith, e, here)) o (λ bar e. (let h = at zero bar e in omega (arith, h))))
      ∙ last-says os (from + 1) i (λ j bar e. (let h = at (suc j) bar e in omega (arith, h))) (omega (arith, here))
