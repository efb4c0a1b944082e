-- What is drawn of a history is what its tables tell, at each place.
use Rattle.std.proofs.Common.{◌≡◌, ◌↔◌, ℕ, zero, suc, ◌+◌, ◌<◌, ◌≤◌, Bool, true, false, not, ◌&&◌, ◌||◌, cond, List, [], ◌∷◌, ◌++◌, length, take, Option, Some, None, inl, inr, refl, sym, ap, ◌∙◌, subst, arith, append_assoc, append-nil, length-append}
use Rattle.std.specs.Prelude.{replicate, slice_index_or}
use Rattle.std.specs.List.{count_by}
use Rattle.std.proofs.Math.Bool.{or_assoc}
use Rattle.std.proofs.lemmas.Bool.{cases_eq, cases_lt, or_from}
use Rattle.std.proofs.lemmas.List.{length-replicate, take-append-le, take_all}
use Rattle.std.proofs.lemmas.List.Folds.{list_any-append}
use Rattle.std.proofs.lemmas.List.Sums.{sum_by-append}
use Rattle.dine_words.specs.declared.task.Task.{Task}
use Rattle.dine_words.specs.declared.task.State.{State}
use Rattle.dine_words.specs.declared.task.State.TheVariants.{Thinking, Hungry, Eating}
use Rattle.dine_words.specs.declared.call.Call.{Call}
use Rattle.dine_words.specs.declared.call.Call.TheVariants as call
use Rattle.dine_words.specs.declared.call.Reply.{Reply}
use Rattle.dine_words.specs.declared.call.Reply.TheVariants as reply
use Rattle.dine_words.specs.declared.entry.Entry.{Entry}
use Rattle.dine_words.specs.declared.limits.Limits.{Limits}
use Rattle.dine_table.specs.Table.{Table, opening_table, state_of, is_ready, are_in_conflict}
use Rattle.dine_table.specs.Calls.{reply_of, table_after_call}
use Rattle.dine_table.specs.History.{IsLegal, grants_meal, table_after}
use Rattle.dine_table.specs.Sound.{IsSound}
use Rattle.dine_table.proofs.CallerLemmas.{neighbours_rest, sound_after, sound_after_call, sound_at_opening, table_from-append}
use Rattle.dine_bars.specs.declared.bar.BarKind.{BarKind}
use Rattle.dine_bars.specs.declared.bar.BarKind.TheVariants.{Meal, KeptWaiting, MayBegin}
use Rattle.dine_bars.specs.declared.bar.OpenBar.{OpenBar}
use Rattle.dine_bars.specs.declared.mark.Mark.{Mark}
use Rattle.dine_bars.specs.Bars.{kind_in, kind_at, is_kind, is_drawn, meals_drawn, bars_over}
use Rattle.dine_bars.specs.Begun.{AreTold}
use Rattle.dine_bars.specs.Marks.{Drawing, opening_drawn, begun_of, begun_by, drawn_after, drawn_from, ended_by, last_marks, looked_at_by, mark_of_done, marks_at, marks_from, marks_of, marks_of_call}
use Rattle.dine_bars.proofs.Looks.{AreLooked, AreSeated, AreStanding, kind_of_bar, last-says, open_says, same_kind-refl, same_kind-true, says-now}
use Rattle.dine_bars.proofs.Meals.{begins_granted, by_looks-count, eats_now, last-counts, legal-split, marks_of_call-count, meals-append, meals-balance, one_if}
use Rattle.dine_bars.proofs.Once.{call-over, last-not_over, last-over, looks-not_over, looks-over, one_if-le, open_over, over-append}
use Rattle.dine_bars.proofs.Told.{are_seated, looks_at, told_later, told_next}
use Rattle.dine_bars.proofs.Unchanged.{looked_at_present}

-- ---- what is drawn of a task

-- whose meal is drawn eats
pub drawn_eats : (t : Table) (w : Task) → kind_at t w ≡ Some Meal → state_of t w ≡ Some Eating
drawn_eats t w h = go (state_of t w) refl
  where
    kind_of_hungry : (b : Bool) → Some (cond b MayBegin KeptWaiting) ≡ Some Meal → ⊥
    kind_of_hungry true e = let k : Some MayBegin ≡ Some Meal = e in cc
    kind_of_hungry false e = let k : Some KeptWaiting ≡ Some Meal = e in cc

    go : (o : Option State) → state_of t w ≡ o → state_of t w ≡ Some Eating
    go None e = absurd (let none : None ≡ Some Meal = sym (ap (kind_in (is_ready t w)) e) ∙ h in cc)
    go (Some Thinking) e = absurd (let none : None ≡ Some Meal = sym (ap (kind_in (is_ready t w)) e) ∙ h in cc)
    go (Some Hungry) e = absurd (kind_of_hungry (is_ready t w) (sym (ap (kind_in (is_ready t w)) e) ∙ h))
    go (Some Eating) e = e

-- what is found to be a bar of a kind is one
pub is_kind-true : (k : BarKind) (o : Option BarKind) → is_kind k o ≡ true → o ≡ Some k
is_kind-true k None h = absurd (let z : false ≡ true = h in cc)
is_kind-true k (Some x) h = ap Some (same_kind-true x k h)

-- a bar of a kind is found to be one
pub true-is_kind : (k : BarKind) (o : Option BarKind) → o ≡ Some k → is_kind k o ≡ true
true-is_kind k o h = ap (is_kind k) h ∙ same_kind-refl k

-- what is drawn of a call beside bars is no bar
done-silent : (w : Task) (k : BarKind) (n place : ℕ) (c : Call) → is_drawn (mark_of_done place c) w k n ≡ false
done-silent w k n place call.Join = refl
done-silent w k n place (call.Leave u) = refl
done-silent w k n place (call.Conflict u v) = refl
done-silent w k n place (call.Separate u v) = refl
done-silent w k n place (call.Hungry u) = refl
done-silent w k n place (call.Begin u) = refl
done-silent w k n place (call.Finish u) = refl
done-silent w k n place (call.Withdraw u) = refl

-- the mark of a call draws no bar
call-silent : (w : Task) (k : BarKind) (n place pass : ℕ) (c : Call) (r : Reply) → is_drawn (marks_of_call place pass c r) w k n ≡ false
call-silent w k n place pass c (reply.Joined u) = refl
call-silent w k n place pass c reply.Done = done-silent w k n place c
call-silent w k n place pass c (reply.Refused refusal) = refl

-- ---- along a history

module _ (limits : Limits) where
  -- what is known of the drawing and of the marks after some entries
  record Follows (h : List Entry) (d : Drawing) (ms : List Mark) : Type 0 where
    table : d.table ≡ table_after limits h
    place : d.place ≡ length h
    sound : IsSound d.table
    kept : AreTold d.table d.place d.begun
    told : (w : Task) (k : BarKind) (n : ℕ) → n ≤ length h → (is_drawn ms w k n || open_says w k n (begun_of d.begun w)) ≡ is_kind k (kind_at (table_after limits (take n h)) w)
    end : (w : Task) (k : BarKind) (n : ℕ) → d.place ≤ n → is_drawn ms w k n ≡ false
    once : (w : Task) (n : ℕ) → n ≤ d.place → bars_over ms w n + one_if (open_over w n (begun_of d.begun w)) ≤ 1
    none_behind : (w : Task) (n : ℕ) → d.place ≤ n → bars_over ms w n ≡ 0
    meals : (w : Task) → IsLegal limits h → meals_drawn ms w + one_if (is_kind Meal (kind_at d.table w)) ≡ count_by (grants_meal w) h

  -- ---- one entry more

  module _ (h : List Entry) (d : Drawing) (ms : List Mark) (f : Follows h d ms) (e : Entry) where
    -- the place behind the entry
    abbrev place_now : ℕ
    place_now = d.place + 1

    -- the table there
    abbrev next : Table
    next = table_after_call d.table e.call

    -- whom the entry has looked at
    abbrev us : List Task
    us = looked_at_by d.table e.call

    -- the bars that go on then
    abbrev begun_now : List (Option OpenBar)
    begun_now = begun_by e.call place_now next d.begun us

    -- the bars that end
    abbrev ended : List Mark
    ended = ended_by e.call place_now next d.begun us

    -- the bars are told at that place too
    abbrev later : AreTold d.table place_now d.begun
    later = told_later d.table d.place d.begun f.kept

    -- each task that is present has its slot
    abbrev seated : AreSeated d.table d.table.limits.tasks
    seated = are_seated d.table f.sound later.below

    -- each bar stands at the slot of its task before anyone is looked at
    stand_before : AreStanding d.table place_now d.begun
    stand_before = later.stand

    -- what is known after the looks
    looks : AreLooked e.call place_now d.table next d.table.limits.tasks seated d.begun us
    looks = looks_at d.table f.sound place_now d.begun later e.call

    -- the bars are told by the next table
    kept_now : AreTold next place_now begun_now
    kept_now = told_next d.table f.sound place_now d.begun later e.call

    -- and each is of the kind that is drawn there
    kinds_now : (w : Task) → kind_of_bar w (begun_of begun_now w) ≡ kind_at next w
    kinds_now = kept_now.kinds

    -- the next table is that after one entry more
    table_now : next ≡ table_after limits (h ++ e ∷ [])
    table_now = ap (λ t. table_after_call t e.call) f.table ∙ sym (table_from-append (opening_table limits) h e)

    -- the history is one entry longer
    length_now : length (h ++ e ∷ []) ≡ length h + 1
    length_now = length-append h (e ∷ [])

    -- of bars the entry adds those alone that end
    added : (w : Task) (k : BarKind) (n : ℕ) → is_drawn (marks_at d e) w k n ≡ is_drawn ended w k n
    added w k n =
        list_any-append _ (marks_of_call place_now e.pass e.call (reply_of d.table e.call)) ended
        ∙ ap (λ b. b || is_drawn ended w k n) (call-silent w k n place_now e.pass e.call (reply_of d.table e.call))

    -- what is said is said before, by a bar that ends, or by one that goes on
    split : (w : Task) (k : BarKind) (n : ℕ) → (is_drawn (ms ++ marks_at d e) w k n || open_says w k n (begun_of begun_now w)) ≡ (is_drawn ms w k n || (is_drawn ended w k n || open_says w k n (begun_of begun_now w)))
    split w k n =
        ap (λ b. b || open_says w k n (begun_of begun_now w)) (list_any-append _ ms (marks_at d e) ∙ ap (λ b. is_drawn ms w k n || b) (added w k n))
        ∙ or_assoc (is_drawn ms w k n) (is_drawn ended w k n) (open_says w k n (begun_of begun_now w))

    -- of the places before the same is said as was
    told_before : (w : Task) (k : BarKind) (n : ℕ) → n ≤ length h → (is_drawn (ms ++ marks_at d e) w k n || open_says w k n (begun_of begun_now w)) ≡ is_kind k (kind_at (table_after limits (take n (h ++ e ∷ []))) w)
    told_before w k n within =
        split w k n
        ∙ ap (λ b. is_drawn ms w k n || b) (looks.past w k n (let p = f.place in omega (arith, p)))
        ∙ f.told w k n within
        ∙ ap (λ l. is_kind k (kind_at (table_after limits l) w)) (sym (take-append-le n h (e ∷ []) within))

    -- of the new place is said what the table tells there
    told_here : (w : Task) (k : BarKind) (n : ℕ) → n ≡ length h + 1 → (is_drawn (ms ++ marks_at d e) w k n || open_says w k n (begun_of begun_now w)) ≡ is_kind k (kind_at (table_after limits (take n (h ++ e ∷ []))) w)
    told_here w k n here =
        let p = f.place in
        split w k n
        ∙ ap (λ b. b || (is_drawn ended w k n || open_says w k n (begun_of begun_now w))) (f.end w k n (omega (arith, p, here)))
        ∙ ap (λ b. b || open_says w k n (begun_of begun_now w)) (looks.end w k n (omega (arith, p, here)))
        ∙ says-now w k n (begun_of begun_now w) (λ bar at. (let stands = looks.stand w.slot bar at in omega (arith, stands.2, p, here)))
        ∙ ap (is_kind k) (kinds_now w)
        ∙ ap (λ t. is_kind k (kind_at t w)) table_now
        ∙ ap (λ l. is_kind k (kind_at (table_after limits l) w)) (sym (take_all n (h ++ e ∷ []) (omega (arith, length_now, here))))

    -- the meals that are drawn, with the one that goes on, are those that were granted
    meals_now : (w : Task) → IsLegal limits (h ++ e ∷ []) → meals_drawn (ms ++ marks_at d e) w + one_if (is_kind Meal (kind_at next w)) ≡ count_by (grants_meal w) (h ++ e ∷ [])
    meals_now w legal =
        let parts = legal-split (opening_table limits) h e legal in
        let before = f.meals w parts.0 in
        let own = marks_of_call-count w place_now e.pass e.call (reply_of d.table e.call) in
        let at = meals-append w (marks_of_call place_now e.pass e.call (reply_of d.table e.call)) ended in
        let all = meals-append w ms (marks_at d e) in
        let ends = by_looks-count e.call place_now d.table next d.table.limits.tasks seated d.begun stand_before f.kept.all us (λ u there. looked_at_present d.table f.sound u e.call there) w in
        let ends_now : meals_drawn ended w ≡ one_if (is_kind Meal (kind_at d.table w) && not (is_kind Meal (kind_at next w))) = ends ∙ ap (λ k. one_if (is_kind Meal k && not (eats_now w (begun_of begun_now w)))) (f.kept.kinds w) ∙ ap (λ k. one_if (is_kind Meal (kind_at d.table w) && not (is_kind Meal k))) (kinds_now w) in
        let balance = meals-balance (is_kind Meal (kind_at d.table w)) (is_kind Meal (kind_at next w)) in
        let granted : one_if (not (is_kind Meal (kind_at d.table w)) && is_kind Meal (kind_at next w)) ≡ one_if (grants_meal w e) = ap one_if (begins_granted d.table w f.sound e (parts.1 ∙ ap (λ t. reply_of t e.call) (sym f.table))) in
        let counted : count_by (grants_meal w) (h ++ e ∷ []) ≡ count_by (grants_meal w) h + (0 + one_if (grants_meal w e)) = sum_by-append (λ x. cond (grants_meal w x) 1 0) h (e ∷ []) in
        omega (arith, before, own, at, all, ends_now, balance, granted, counted)

    -- over a place lie the bars that lay there, and those that end
    over_added : (w : Task) (n : ℕ) → bars_over (ms ++ marks_at d e) w n ≡ bars_over ms w n + bars_over ended w n
    over_added w n =
        let own = call-over w n place_now e.pass e.call (reply_of d.table e.call) in
        let at = over-append w n (marks_of_call place_now e.pass e.call (reply_of d.table e.call)) ended in
        let all = over-append w n ms (marks_at d e) in
        omega (arith, own, at, all)

    -- with the one that goes on they are one at most
    once_now : (w : Task) (n : ℕ) → n ≤ place_now → bars_over (ms ++ marks_at d e) w n + one_if (open_over w n (begun_of begun_now w)) ≤ 1
    once_now w n within =
        let all = over_added w n in
        elim (cases_eq n place_now) [
          | inl here ↦
              let before = f.none_behind w n (omega (arith, here)) in
              let ends = looks-not_over e.call place_now d.table next d.table.limits.tasks seated w n (omega (arith, here)) d.begun us in
              let few = one_if-le (open_over w n (begun_of begun_now w)) in
              omega (arith, all, before, ends, few)
          | inr apart ↦
              let earlier : n < place_now = omega (arith, within, apart) in
              let before = f.once w n (omega (arith, earlier)) in
              let looks_say = looks-over e.call place_now d.table next d.table.limits.tasks seated w n earlier d.begun stand_before f.kept.all us (λ u there. looked_at_present d.table f.sound u e.call there) in
              omega (arith, all, before, looks_say)
        ]

    -- none lies over the new place or one behind it
    none_behind_now : (w : Task) (n : ℕ) → place_now ≤ n → bars_over (ms ++ marks_at d e) w n ≡ 0
    none_behind_now w n past =
        let all = over_added w n in
        let before = f.none_behind w n (omega (arith, past)) in
        let ends = looks-not_over e.call place_now d.table next d.table.limits.tasks seated w n past d.begun us in
        omega (arith, all, before, ends)

    -- the drawing of a history and one entry more follows that history
    follows_next : Follows (h ++ e ∷ []) (drawn_after d e) (ms ++ marks_at d e)
    follows_next = record {
      table = table_now;
      place = ap (λ n. n + 1) f.place ∙ sym length_now;
      sound = sound_after_call d.table e.call f.sound;
      kept = kept_now;
      told = λ w k n within. (elim (cases_eq n (length h + 1)) [
        | inl here ↦ told_here w k n here
        | inr apart ↦ told_before w k n (omega (arith, within, length_now, apart))
      ]);
      end = λ w k n past. (
          list_any-append _ ms (marks_at d e)
          ∙ or_from (is_drawn ms w k n) (is_drawn (marks_at d e) w k n) (f.end w k n (omega (arith, past))) (added w k n ∙ looks.end w k n past));
      once = once_now;
      none_behind = none_behind_now;
      meals = meals_now;
    }

  -- ---- all entries

  -- a slot with no bar
  abbrev no_bar : Option OpenBar
  no_bar = None

  -- no slot has one at the opening
  nobody_at : (n s : ℕ) → slice_index_or (replicate n no_bar) s None ≡ None
  nobody_at zero s = refl
  nobody_at (suc n) zero = refl
  nobody_at (suc n) (suc s) = nobody_at n s

  -- the opening drawing follows the history of no entry
  follows_opening : Follows [] (opening_drawn limits) []
  follows_opening = record {
    table = refl;
    place = refl;
    sound = sound_at_opening limits;
    kept = record {
      below = tt;
      stand = λ s bar at. absurd (let k : None ≡ Some bar = sym (nobody_at limits.tasks s) ∙ at in cc);
      all = length-replicate limits.tasks None;
      kinds = λ w. ap (kind_of_bar w) (nobody_at limits.tasks w.slot);
    };
    told = λ w k n within. (let is : n ≡ 0 = omega (arith, within) in subst (λ m. (false || open_says w k m (begun_of (replicate limits.tasks None) w)) ≡ is_kind k (kind_at (table_after limits (take m [])) w)) (sym is) (ap (open_says w k 0) (nobody_at limits.tasks w.slot)));
    end = λ w k n past. refl;
    once = λ w n within. (let few = one_if-le (open_over w n (begun_of (replicate limits.tasks None) w)) in omega (arith, few));
    none_behind = λ w n past. refl;
    meals = λ w legal. refl;
  }

  -- the drawing after some more entries follows the history with these
  follows_from : (h es : List Entry) (d : Drawing) (ms : List Mark) → Follows h d ms → Follows (h ++ es) (drawn_from d es) (ms ++ marks_from d es)
  follows_from h [] d ms f = subst (λ l. Follows l d (ms ++ [])) (sym (append-nil h)) (subst (Follows h d) (sym (append-nil ms)) f)
  follows_from h (e ∷ es) d ms f =
      let rest = follows_from (h ++ e ∷ []) es (drawn_after d e) (ms ++ marks_at d e) (follows_next h d ms f e) in
      subst (λ l. Follows l (drawn_from (drawn_after d e) es) (ms ++ (marks_at d e ++ marks_from (drawn_after d e) es))) (append_assoc h (e ∷ []) es)
      (subst (Follows ((h ++ e ∷ []) ++ es) (drawn_from (drawn_after d e) es)) (append_assoc ms (marks_at d e) (marks_from (drawn_after d e) es)) rest)

  -- what is drawn over a place is what the table tells there
  drawn-is : (history : List Entry) (w : Task) (k : BarKind) (n : ℕ) → n ≤ length history → is_drawn (marks_of limits history) w k n ≡ is_kind k (kind_at (table_after limits (take n history)) w)
  drawn-is history w k n within =
      let end : Drawing = drawn_from (opening_drawn limits) history in
      let f : Follows history end (marks_from (opening_drawn limits) history) = follows_from [] history (opening_drawn limits) [] follows_opening in
      let p = f.place in
      list_any-append _ (marks_from (opening_drawn limits) history) (last_marks (end.place + 1) end.begun)
      ∙ ap (λ b. is_drawn (marks_from (opening_drawn limits) history) w k n || b) (last-says w k n (end.place + 1) (omega (arith, p, within)) end.begun 0 w.slot (λ j bar at. (let stands = f.kept.stand j bar at in omega (arith, stands.0))) (omega arith))
      ∙ f.told w k n within

  -- so a bar of this kind is drawn over a place exactly where the table tells it there
  pub drawn_exactly : (history : List Entry) (w : Task) (k : BarKind) (n : ℕ) → n ≤ length history → (is_drawn (marks_of limits history) w k n ≡ true) ↔ (kind_at (table_after limits (take n history)) w ≡ Some k)
  drawn_exactly history w k n within = (
    λ drawn. is_kind-true k (kind_at (table_after limits (take n history)) w) (sym (drawn-is history w k n within) ∙ drawn),
    λ does. drawn-is history w k n within ∙ true-is_kind k (kind_at (table_after limits (take n history)) w) does,
  )

  -- meals in conflict
  pub meals_apart : (history : List Entry) (u v : Task) (n : ℕ) → n ≤ length history → are_in_conflict (table_after limits (take n history)) u v ≡ true → is_drawn (marks_of limits history) u Meal n ≡ true → is_drawn (marks_of limits history) v Meal n ≡ true → ⊥
  meals_apart history u v n within apart one other =
      let t : Table = table_after limits (take n history) in
      neighbours_rest t (sound_after limits (take n history)) u v apart
      (drawn_eats t u ((drawn_exactly history u Meal n within).0 one))
      (drawn_eats t v ((drawn_exactly history v Meal n within).0 other))

  -- as many meals are drawn as were granted
  pub meals_counted : (history : List Entry) (w : Task) → IsLegal limits history → meals_drawn (marks_of limits history) w ≡ count_by (grants_meal w) history
  meals_counted history w legal =
      let end : Drawing = drawn_from (opening_drawn limits) history in
      let f : Follows history end (marks_from (opening_drawn limits) history) = follows_from [] history (opening_drawn limits) [] follows_opening in
      let goes_on : meals_drawn (last_marks (end.place + 1) end.begun) w ≡ one_if (is_kind Meal (kind_at end.table w)) = last-counts w (end.place + 1) end.begun 0 w.slot (λ j bar at. (let stands = f.kept.stand j bar at in omega (arith, stands.0))) (omega arith) ∙ ap (λ k. one_if (is_kind Meal k)) (f.kept.kinds w) in
      let all = meals-append w (marks_from (opening_drawn limits) history) (last_marks (end.place + 1) end.begun) in
      let counted = f.meals w legal in
      omega (arith, goes_on, all, counted)

  -- no two bars of a task cover one place
  pub covered_once : (history : List Entry) (w : Task) (n : ℕ) → bars_over (marks_of limits history) w n ≤ 1
  covered_once history w n =
      let end : Drawing = drawn_from (opening_drawn limits) history in
      let f : Follows history end (marks_from (opening_drawn limits) history) = follows_from [] history (opening_drawn limits) [] follows_opening in
      let all = over-append w n (marks_from (opening_drawn limits) history) (last_marks (end.place + 1) end.begun) in
      elim (cases_lt n (end.place + 1)) [
        | inl earlier ↦
            let before = f.once w n (omega (arith, earlier)) in
            let last = last-over w n (end.place + 1) earlier end.begun 0 w.slot (λ j bar at. (let stands = f.kept.stand j bar at in omega (arith, stands.0))) (omega arith) in
            omega (arith, all, before, last)
        | inr past ↦
            let before = f.none_behind w n (omega (arith, past)) in
            let last = last-not_over w n (end.place + 1) past end.begun in
            omega (arith, all, before, last)
      ]
