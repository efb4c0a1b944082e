-- Looks that are made, and those that are left out: where the bar that goes on is what the table tells, none is needed.
use Rattle.std.proofs.Common.{◌≡◌, ℕ, Bool, true, false, List, [], ◌∷◌, ◌++◌, map, cond, Option, Some, None, is_none, is_some, inl, inr, refl, sym, ap, ◌∙◌, subst, append_assoc, append-nil, ◌<◌, arith}
use Rattle.std.specs.Prelude.{slice_index_or, slice_set}
use Rattle.std.specs.List.{AllByRecursion, list_all}
use Rattle.std.proofs.lemmas.Bool.{cases_Bool}
use Rattle.std.proofs.lemmas.List.{get_or_read}
use Rattle.std.proofs.lemmas.Option.{same_Some}
use Rattle.dine_words.specs.declared.task.Task.{Task}
use Rattle.dine_words.specs.declared.task.State.TheVariants.{Hungry}
use Rattle.dine_words.specs.declared.call.Call.{Call}
use Rattle.dine_table.specs.Table.{Table, same_task, state_of, is_ready}
use Rattle.dine_table.proofs.CallerLemmas.{same_task-refl, same_task-true}
use Rattle.dine_table.specs.Sound.{IsSound}
use Rattle.dine_forks.specs.declared.record.Fork.{Fork}
use Rattle.dine_forks.specs.declared.record.ForkRecord.{ForkRecord}
use Rattle.dine_forks.specs.Book.{ends_of, fork_of, holds, slot_list}
use Rattle.dine_arbiter.specs.Arbitration.{slots_of}
use Rattle.dine_arbiter.specs.Edge.{ForksAgree}
use Rattle.dine_bars.specs.declared.bar.BarKind.{BarKind}
use Rattle.dine_bars.specs.declared.bar.BarKind.TheVariants.{Meal, KeptWaiting, MayBegin}
use Rattle.dine_bars.specs.declared.bar.OpenBar.{OpenBar}
use Rattle.dine_bars.specs.declared.mark.Mark.{Mark}
use Rattle.dine_bars.specs.Bars.{kind_at, same_kind, is_kind}
use Rattle.dine_bars.specs.Begun.{AreKept, AreSeated, IsCalm, kind_of_bar, seated_at}
use Rattle.dine_bars.specs.Marks.{LooksAt, LooksAtEach, begun_of, begun_by, begun_by_look, ended_at, ended_by, ended_by_look, goes_on, next_bar}
use Rattle.dine_arbiter.proofs.CallerLemmas.{ready-holds}
use Rattle.dine_bars.proofs.Beside.{IsBeside, seated-is, seated-slot}
use Rattle.dine_bars.proofs.Calm.{hungry_if}
use Rattle.dine_bars.proofs.Looks.{kind_now, kind_still, looked_all, looked_stands, same_kind-refl, same_kind-true}

-- a bar of u that is what is drawn of u goes on
pub told-goes_on : (u : Task) (o : Option OpenBar) (now : Option BarKind) → ((bar : OpenBar) → o ≡ Some bar → bar.task ≡ u) → kind_of_bar u o ≡ now → goes_on o now ≡ true
told-goes_on u None now own e = subst (λ k. is_none k ≡ true) e refl
told-goes_on u (Some bar) now own e =
    let mine : same_task bar.task u ≡ true = ap (λ x. same_task x u) (own bar refl) ∙ same_task-refl u in
    let is : Some bar.kind ≡ now = rw mine at e in
    subst (λ k. is_kind bar.kind k ≡ true) is (same_kind-refl bar.kind)

-- what is drawn of a hungry task
pub kind_by_ready : (t : Table) (w : Task) → state_of t w ≡ Some Hungry → kind_at t w ≡ Some (cond (is_ready t w) MayBegin KeptWaiting)
kind_by_ready t w h = rw h refl

-- kinds whose test fails are two
unlike_kinds : (a b : BarKind) → same_kind a b ≡ false → a ≡ b → ⊥
unlike_kinds a b unlike same = let clash : false ≡ true = sym unlike ∙ ap (λ k. same_kind k b) same ∙ same_kind-refl b in cc

-- the forks of a slot tell what is drawn of a hungry task that sits there
pub kind_by_slot : (t : Table) (slots : ℕ) → AreSeated t slots → (rs : List ForkRecord) (forks : List Fork) (slot : ℕ) (b : Bool) → map ends_of rs ≡ map slots_of t.conflicts → map fork_of rs ≡ forks → IsSound t → ForksAgree t forks → b ≡ list_all (holds slot) (slot_list slot rs)
    → (w : Task) → w.slot ≡ slot → state_of t w ≡ Some Hungry → kind_at t w ≡ Some (cond b MayBegin KeptWaiting)
kind_by_slot t slots seated rs forks slot b ends are sound agree tells w same hungry =
    kind_by_ready t w hungry
    ∙ ap (λ r. Some (cond r MayBegin KeptWaiting)) (ready-holds t sound w (ap is_some hungry) hungry rs forks ends are agree ∙ ap (λ s. list_all (holds s) (slot_list s rs)) same ∙ sym tells)

-- ---- one look

module _ (c : Call) (place : ℕ) (t : Table) where
  module _ (begun : List (Option OpenBar)) (u : Task) where
    -- a look that finds that the bar goes on leaves the bars as they are
    no_look-begun : goes_on (begun_of begun u) (kind_at t u) ≡ true → begun ≡ begun_by_look c place t begun u
    no_look-begun h = rw h refl

    -- and ends none
    no_look-ended : goes_on (begun_of begun u) (kind_at t u) ≡ true → [] ≡ ended_by_look place t begun u
    no_look-ended h = rw h refl

    -- where the bar goes on, no look comes to the same as one
    pub no_look : (marks : List Mark) → goes_on (begun_of begun u) (kind_at t u) ≡ true → LooksAt c place t u begun begun marks marks
    no_look marks h = record { begun = no_look-begun h; marks = sym (append-nil marks) ∙ ap (λ ms. marks ++ ms) (no_look-ended h) }

    -- a look that finds that it doesn't begins the next bar
    look-begun : goes_on (begun_of begun u) (kind_at t u) ≡ false → slice_set begun u.slot (next_bar c place u (begun_of begun u) (kind_at t u)) ≡ begun_by_look c place t begun u
    look-begun h = rw h refl

    -- and ends the one that there was
    look-ended : goes_on (begun_of begun u) (kind_at t u) ≡ false → ended_at place (begun_of begun u) ≡ ended_by_look place t begun u
    look-ended h = rw h refl

  -- ---- looks at some tasks

  -- looks that all find that the bars go on leave these as they are
  none_looked-begun : (begun : List (Option OpenBar)) (us : List Task) → AllByRecursion (λ u. goes_on (begun_of begun u) (kind_at t u) ≡ true) us → begun_by c place t begun us ≡ begun
  none_looked-begun begun [] h = refl
  none_looked-begun begun (u ∷ us) h = ap (λ b. begun_by c place t b us) (sym (no_look-begun begun u h.0)) ∙ none_looked-begun begun us h.1

  -- and end none
  none_looked-ended : (begun : List (Option OpenBar)) (us : List Task) → AllByRecursion (λ u. goes_on (begun_of begun u) (kind_at t u) ≡ true) us → ended_by c place t begun us ≡ []
  none_looked-ended begun [] h = refl
  none_looked-ended begun (u ∷ us) h =
      ap (λ ms. ms ++ ended_by c place t (begun_by_look c place t begun u) us) (sym (no_look-ended begun u h.0))
      ∙ ap (λ b. ended_by c place t b us) (sym (no_look-begun begun u h.0))
      ∙ none_looked-ended begun us h.1

  -- where all bars go on, no look comes to the same as one at each task
  pub none_looked : (begun : List (Option OpenBar)) (marks : List Mark) (us : List Task) → AllByRecursion (λ u. goes_on (begun_of begun u) (kind_at t u) ≡ true) us → LooksAtEach c place t us begun begun marks marks
  none_looked begun marks us h = record {
    begun = sym (none_looked-begun begun us h);
    marks = sym (append-nil marks) ∙ ap (λ ms. marks ++ ms) (sym (none_looked-ended begun us h));
  }

  -- the bars after looks at some tasks and at one more
  begun_by-append : (begun : List (Option OpenBar)) (us : List Task) (u : Task) → begun_by c place t begun (us ++ u ∷ []) ≡ begun_by_look c place t (begun_by c place t begun us) u
  begun_by-append begun [] u = refl
  begun_by-append begun (v ∷ vs) u = begun_by-append (begun_by_look c place t begun v) vs u

  -- the bars that these end
  ended_by-append : (begun : List (Option OpenBar)) (us : List Task) (u : Task) → ended_by c place t begun (us ++ u ∷ []) ≡ ended_by c place t begun us ++ ended_by_look place t (begun_by c place t begun us) u
  ended_by-append begun [] u = append-nil (ended_by_look place t begun u)
  ended_by-append begun (v ∷ vs) u =
      ap (λ ms. ended_by_look place t begun v ++ ms) (ended_by-append (begun_by_look c place t begun v) vs u)
      ∙ sym (append_assoc (ended_by_look place t begun v) (ended_by c place t (begun_by_look c place t begun v) vs) (ended_by_look place t (begun_by c place t (begun_by_look c place t begun v) vs) u))

  -- looks at some tasks, and then one at one more
  pub and_one_more : (us : List Task) (u : Task) (first begun begun' : List (Option OpenBar)) (before marks marks' : List Mark) → LooksAtEach c place t us first begun before marks → LooksAt c place t u begun begun' marks marks' → LooksAtEach c place t (us ++ u ∷ []) first begun' before marks'
  and_one_more us u first begun begun' before marks marks' some one = record {
    begun = one.begun ∙ ap (λ b. begun_by_look c place t b u) some.begun ∙ sym (begun_by-append first us u);
    marks =
        one.marks ∙ ap (λ ms. ms ++ ended_by_look place t begun u) some.marks
        ∙ append_assoc before (ended_by c place t first us) (ended_by_look place t begun u)
        ∙ ap (λ b. before ++ (ended_by c place t first us ++ ended_by_look place t b u)) some.begun
        ∙ ap (λ ms. before ++ ms) (sym (ended_by-append first us u));
  }

  -- ---- a walk that looks at those alone whose bars are of one kind

  -- the looks so far and those at the rest are all looks at these tasks
  pub record IsLooking (x : Task) (kind : BarKind) (first : List (Option OpenBar)) (before : List Mark) (all rest : List Task) (begun : List (Option OpenBar)) (marks : List Mark) : Type 0 where
    pub beside : AllByRecursion (IsBeside t x) rest
    pub kept : AreKept t place begun
    pub calm : (w : Task) → same_task x w ≡ false → IsCalm t kind begun w
    pub begun_all : begun_by c place t begun rest ≡ begun_by c place t first all
    pub ended_all : marks ++ ended_by c place t begun rest ≡ before ++ ended_by c place t first all

  -- after a look the walk goes on with the rest
  pub looking-on : (x : Task) (kind : BarKind) (first : List (Option OpenBar)) (before : List Mark) (all : List Task) (v : Task) (rest : List Task) (begun begun' : List (Option OpenBar)) (marks marks' : List Mark) → (kind ≡ Meal → ⊥)
      → IsLooking x kind first before all (v ∷ rest) begun marks → LooksAt c place t v begun begun' marks marks' → IsLooking x kind first before all rest begun' marks'
  looking-on x kind first before all v rest begun begun' marks marks' no_meal l look =
      let here : is_some (state_of t v) ≡ true = l.beside.0.0 in
      let slots : ℕ = t.limits.tasks in
      subst (λ b. IsLooking x kind first before all rest b marks') (sym look.begun) (subst (λ m. IsLooking x kind first before all rest (begun_by_look c place t begun v) m) (sym look.marks) record {
        beside = l.beside.1;
        kept = record {
          sound = l.kept.sound;
          seated = l.kept.seated;
          stand = looked_stands c place t t slots l.kept.seated begun l.kept.stand l.kept.all v here;
          all = looked_all c place t t slots l.kept.seated begun l.kept.stand l.kept.all v here;
        };
        calm = λ w other. (elim (cases_Bool (same_task v w)) [
          | inl same ↦
              subst (λ y. IsCalm t kind (begun_by_look c place t begun v) y) (same_task-true v w same) (
              let told = kind_now c place t t slots l.kept.seated begun l.kept.stand l.kept.all v here in
              record { others = λ e. told; hungry = λ e. hungry_if t v kind no_meal (sym told ∙ e) })
          | inr apart ↦
              let still = kind_still c place t t slots l.kept.seated begun l.kept.stand l.kept.all v here w apart in
              record { others = λ e. still ∙ (l.calm w other).others (λ k. e (still ∙ k)); hungry = λ e. (l.calm w other).hungry (sym still ∙ e) }
        ]);
        begun_all = l.begun_all;
        ended_all = append_assoc marks (ended_by_look place t begun v) (ended_by c place t (begun_by_look c place t begun v) rest) ∙ l.ended_all;
      })

  -- a walk that has come to its end has looked at each of these tasks
  pub looking-end : (x : Task) (kind : BarKind) (first : List (Option OpenBar)) (before : List Mark) (all : List Task) (begun : List (Option OpenBar)) (marks : List Mark) → IsLooking x kind first before all [] begun marks → LooksAtEach c place t all first begun before marks
  looking-end x kind first before all begun marks l = record { begun = l.begun_all; marks = sym (append-nil marks) ∙ l.ended_all }

-- ---- a look at the task of a slot, whose bar was read

module _ (c : Call) (place : ℕ) (t : Table) (begun : List (Option OpenBar)) (marks : List Mark) (kept : AreKept t place begun) (slot : ℕ) (low : slot < t.limits.tasks) (kind : BarKind) (calm : IsCalm t kind begun (seated_at t.order slot)) (o : Option OpenBar) (index : o ≡ slice_index_or begun slot o) where
  -- the task that sits there
  abbrev there : Task
  there = seated_at t.order slot

  -- the slot has a place among the bars, and what was read is the bar there
  read_there : slice_index_or begun slot None ≡ o
  read_there = let all = kept.all in sym (get_or_read begun slot o (omega arith) index None)

  -- the task's bar is that of the slot
  bar_there : begun_of begun there ≡ o
  bar_there = ap (λ s. slice_index_or begun s None) (seated-slot t.order slot) ∙ read_there

  -- where there is none, none begins
  pub none_there : o ≡ None → LooksAt c place t there begun begun marks marks
  none_there h =
      let was : begun_of begun there ≡ None = bar_there ∙ h in
      let none : kind_of_bar there (begun_of begun there) ≡ None = ap (kind_of_bar there) was in
      let told : None ≡ kind_at t there = sym none ∙ calm.others (λ e. (let k : None ≡ Some kind = sym none ∙ e in cc)) in
      no_look c place t begun there marks (subst (λ b. goes_on b (kind_at t there) ≡ true) (sym was) (subst (λ k. is_none k ≡ true) told refl))

  module _ (bar : OpenBar) (h : o ≡ Some bar) where
    -- the bar of the slot is its task's
    own_there : there ≡ bar.task
    own_there = let stands = kept.stand slot bar (read_there ∙ h) in ap (seated_at t.order) (sym stands.0) ∙ seated-is t t.limits.tasks kept.seated bar.task stands.1

    -- and of its kind
    kind_there : kind_of_bar there (begun_of begun there) ≡ Some bar.kind
    kind_there =
        let mine : same_task bar.task there ≡ true = ap (same_task bar.task) own_there ∙ same_task-refl bar.task in
        ap (kind_of_bar there) (bar_there ∙ h) ∙ rw mine refl

    -- it goes on exactly where that is what is drawn of the task
    goes_on_there : (k : BarKind) (b : Bool) → kind_at t there ≡ Some k → same_kind k bar.kind ≡ b → goes_on (begun_of begun there) (kind_at t there) ≡ b
    goes_on_there k b drawn same = subst (λ was. goes_on was (kind_at t there) ≡ b) (sym (bar_there ∙ h)) (subst (λ now. is_kind bar.kind now ≡ b) (sym drawn) same)

    -- a bar of another kind goes on
    pub other_there : same_kind bar.kind kind ≡ false → LooksAt c place t there begun begun marks marks
    other_there unlike =
        let drawn : Some bar.kind ≡ kind_at t there = sym kind_there ∙ calm.others (λ e. unlike_kinds bar.kind kind unlike (same_Some bar.kind kind (sym kind_there ∙ e))) in
        no_look c place t begun there marks (goes_on_there bar.kind true (sym drawn) (same_kind-refl bar.kind))

    module _ (like : same_kind bar.kind kind ≡ true) where
      -- the task of a bar of the kind is hungry, and has the slot
      pub hungry_there : (bar.task.slot ≡ slot) × (state_of t bar.task ≡ Some Hungry)
      hungry_there = ((kept.stand slot bar (read_there ∙ h)).0, ap (state_of t) (sym own_there) ∙ calm.hungry (kind_there ∙ ap (λ k. Some k) (same_kind-true bar.kind kind like)))

      module _ (now : BarKind) (told : kind_at t bar.task ≡ Some now) where
        -- what is drawn of it is drawn of whoever sits there
        drawn_there : kind_at t there ≡ Some now
        drawn_there = ap (kind_at t) own_there ∙ told

        -- its bar goes on where it is of the kind still
        pub same_there : same_kind now kind ≡ true → LooksAt c place t there begun begun marks marks
        same_there same = no_look c place t begun there marks (goes_on_there now true drawn_there (subst (λ k. same_kind now k ≡ true) (sym (same_kind-true bar.kind kind like)) same))

        -- and ends where it isn't
        pub changed_there : (begun' : List (Option OpenBar)) (marks' : List Mark) → same_kind now kind ≡ false → begun' ≡ slice_set begun bar.task.slot (next_bar c place bar.task (Some bar) (Some now)) → marks' ≡ marks ++ ended_at place (Some bar) → LooksAt c place t there begun begun' marks marks'
        changed_there begun' marks' other is adds =
            let ends = goes_on_there now false drawn_there (subst (λ k. same_kind now k ≡ false) (sym (same_kind-true bar.kind kind like)) other) in
            record {
              begun =
                  is ∙ ap (λ (u : Task). slice_set begun u.slot (next_bar c place u (Some bar) (Some now))) (sym own_there)
                  ∙ ap (λ b. slice_set begun there.slot (next_bar c place there b (Some now))) (sym (bar_there ∙ h))
                  ∙ ap (λ k. slice_set begun there.slot (next_bar c place there (begun_of begun there) k)) (sym drawn_there)
                  ∙ look-begun c place t begun there ends;
              marks = adds ∙ ap (λ b. marks ++ ended_at place b) (sym (bar_there ∙ h)) ∙ ap (λ ms. marks ++ ms) (look-ended c place t begun there ends);
            }
