-- Where all is settled, the history is that of a race.
use Rattle.std.proofs.Common.{◌≡◌, ℕ, zero, suc, ◌+◌, ◌<◌, ◌≤◌, ◌==◌, Bool, true, false, cond, List, map, [], ◌∷◌, ◌++◌, length, slice_get, Some, None, refl, sym, ap, ◌∙◌, subst, arith}
use Rattle.std.specs.List.{filter}
use Rattle.std.proofs.lemmas.Bool.Decides.{nat_tests}
use Rattle.std.proofs.lemmas.List.Sums.{sum_by-cons}
use Rattle.dine_words.specs.declared.call.Call.{Call}
use Rattle.dine_words.specs.declared.entry.Entry.{Entry}
use Rattle.dine_journal.specs.declared.hall.Answer.{Answer}
use Rattle.dine_scenario.specs.declared.scenario.Scenario.{Scenario}
use Rattle.dine_scenario.specs.declared.scenario.Worker.{Worker}
use Rattle.dine_lines.specs.Names.{Names}
use Rattle.dine_front.specs.declared.verdict.Verdict.{Verdict}
use Rattle.dine_front.specs.declared.verdict.Verdict.TheVariants.{Missing, Differs, Settled}
use Rattle.dine_front.specs.Passes.{Pass}
use Rattle.dine_front.specs.Mine.{first_if, kept_if, mine, mine_from, receipt_for, receipts_of, sum_of_shares}
use Rattle.dine_front.specs.Verdicts.{AllSettled, IfSettled, IsVerdict, UnlessMissing}
use Rattle.dine_race.specs.Runs.{Made, RunsLines, lines_of_setup, repeated}
use Rattle.dine_race.specs.Runners.{calls_of}
use Rattle.dine_race.specs.Works.{AreDone, IsWorkDone, work_with, works_with}
use Rattle.dine_race.specs.Races.{AreNewFrom, HasRaced, IsRaceOf, entry_of, made_by}
use Rattle.dine_race.proofs.Setups.{some_same}
use Rattle.dine_race.proofs.Sharing.{count, count-mine, count_from, each_among}

-- ---- lists

-- nothing is no value
none_is_not_some : {A : Type 0} (x : A) → None ≡ Some x → ⊥
none_is_not_some x e = cc

-- the empty list has no first
nil_is_not_cons : {A : Type 0} (x : A) (xs : List A) → [] ≡ x ∷ xs → ⊥
nil_is_not_cons x xs e = cc

-- the first of a list, or else a value
head_or : {A : Type 0} → A → List A → A
head_or d [] = d
head_or d (x ∷ xs) = x

-- the list behind its first
tail_of : {A : Type 0} → List A → List A
tail_of [] = []
tail_of (x ∷ xs) = xs

-- a place that is there lies inside
pub inside : {A : Type 0} (xs : List A) (k : ℕ) (x : A) → slice_get xs k ≡ Some x → k < length xs
inside [] k x at = absurd (none_is_not_some x at)
inside (y ∷ xs) zero x at = omega arith
inside (y ∷ xs) (suc k) x at = let rest = inside xs k x at in omega arith

-- numbers that differ are told apart
differs : (m k : ℕ) → (m ≡ k → ⊥) → (m == k) ≡ false
differs m k h = grind (arith, nat_tests)

-- equal numbers are told to be equal
is_same : (m k : ℕ) → m ≡ k → (m == k) ≡ true
is_same m k h = grind (arith, nat_tests)

-- numbers that are told to be equal are
same_from_test : (m k : ℕ) → (m == k) ≡ true → m ≡ k
same_from_test m k h = grind (arith, nat_tests)

-- ---- what a history says of one pass

-- the calls of receipts are those of entries, also with the next entry, if it is this pass's
calls_of-kept : (b : Bool) (place : ℕ) (e : Entry) (receipts : List (Call × Answer)) (es : List Entry) → calls_of receipts ≡ map (λ e. (e.call, e.reply)) es → calls_of (kept_if b (receipt_for place e) receipts) ≡ map (λ e. (e.call, e.reply)) (cond b (e ∷ es) es)
calls_of-kept true place e receipts es same = ap (λ calls. (e.call, e.reply) ∷ calls) same
calls_of-kept false place e receipts es same = same

-- the calls of the receipts that it says
calls_of-mine : (k place : ℕ) (es : List Entry) → calls_of (mine_from k place es) ≡ made_by k es
calls_of-mine k place [] = refl
calls_of-mine k place (e ∷ es) =
    calls_of-kept (e.pass == k) place e (mine_from k (place + 1) es) (filter (λ e. e.pass == k) es) (calls_of-mine k (place + 1) es)

-- what a list of receipts begins with is theirs
module _ (k place : ℕ) (e : Entry) (es : List Entry) (r : Call × Answer) (rs : List (Call × Answer)) (is : mine_from k place (e ∷ es) ≡ r ∷ rs) where
  begins_own : (e.pass == k) ≡ true → (receipt_for place e ≡ r) × (mine_from k (place + 1) es ≡ rs)
  unfolding head_or tail_of
  begins_own own =
      let now : receipt_for place e ∷ mine_from k (place + 1) es ≡ r ∷ rs = subst (λ b. kept_if b (receipt_for place e) (mine_from k (place + 1) es) ≡ r ∷ rs) own is in
      (ap (λ (l : List (Call × Answer)). head_or r l) now, ap (λ (l : List (Call × Answer)). tail_of l) now)

  begins_later : (e.pass == k) ≡ false → mine_from k (place + 1) es ≡ r ∷ rs
  begins_later other = subst (λ b. kept_if b (receipt_for place e) (mine_from k (place + 1) es) ≡ r ∷ rs) other is

-- their places are those of entries
place_from : (k place : ℕ) (es : List Entry) (r : Call × Answer) (rs : List (Call × Answer)) → mine_from k place es ≡ r ∷ rs → place ≤ r.1.place
place_from k place [] r rs is = absurd (nil_is_not_cons r rs is)
place_from k place (e ∷ es) r rs is = by (e.pass == k) refl (λ later. place_from k (place + 1) es r rs later)
  where
    by : (b : Bool) → (e.pass == k) ≡ b → (mine_from k (place + 1) es ≡ r ∷ rs → place + 1 ≤ r.1.place) → place ≤ r.1.place
    by true own rest =
        let at : place ≡ r.1.place = ap (λ (x : Call × Answer). x.1.place) (begins_own k place e es r rs is own).0 in
        omega arith
    by false other rest = let later = rest (begins_later k place e es r rs is other) in omega arith

-- The entries of receipts come first, and the others of the pass after them
abbrev ComeFirst : ℕ → List (Call × Answer) → List (Call × Answer) → List Entry → Type 0
ComeFirst k receipts more es =
    (later : List Entry) × (es ≡ map (entry_of k) (calls_of receipts) ++ later) × (calls_of more ≡ made_by k later)

-- one more comes first
come_first-more : (k place : ℕ) (e : Entry) (es : List Entry) (r : Call × Answer) (receipts more : List (Call × Answer)) → (e.pass == k) ≡ true → receipt_for place e ≡ r → ComeFirst k receipts more es → ComeFirst k (r ∷ receipts) more (e ∷ es)
come_first-more k place e es r receipts more own head rest =
    let pass = same_from_test e.pass k own in
    let entry : e ≡ entry_of k (r.0, r.1.reply) = λ j. record { pass = pass j; call = (head j).0; reply = (head j).1.reply } in
    (rest.0, (λ j. entry j ∷ rest.1 j), rest.2)

-- where the first receipts have the first places, their entries are the first
first_entries : (k place : ℕ) (receipts more : List (Call × Answer)) (es : List Entry) → mine_from k place es ≡ receipts ++ more
    → ((j : ℕ) (r : Call × Answer) → slice_get receipts j ≡ Some r → r.1.place ≡ place + j) → ComeFirst k receipts more es
first_entries k place [] more es is places = (es, refl, ap calls_of (sym is) ∙ calls_of-mine k place es)
first_entries k place (r ∷ receipts) more [] is places = absurd (nil_is_not_cons r (receipts ++ more) is)
first_entries k place (r ∷ receipts) more (e ∷ es) is places =
    by (e.pass == k) refl
    (λ tail. first_entries k (place + 1) receipts more es tail (λ j s at. let found : s.1.place ≡ place + suc j = places (suc j) s at in omega arith))
  where
    by : (b : Bool) → (e.pass == k) ≡ b → (mine_from k (place + 1) es ≡ receipts ++ more → ComeFirst k receipts more es) → ComeFirst k (r ∷ receipts) more (e ∷ es)
    by true own rest =
        let begins = begins_own k place e es r (receipts ++ more) is own in
        come_first-more k place e es r receipts more own begins.0 (rest begins.1)
    by false other rest =
        let later = place_from k (place + 1) es r (receipts ++ more) (begins_later k place e es r (receipts ++ more) is other) in
        let here : r.1.place ≡ place + 0 = places 0 r refl in
        absurd (omega arith)

-- an entry of another pass is not its own
made_by-other : (k : ℕ) (e : Entry) (es : List Entry) → (e.pass == k) ≡ false → made_by k (e ∷ es) ≡ made_by k es
made_by-other k e es other =
    ap (λ b. map (λ (x : Entry). (x.call, x.reply)) (cond b (e ∷ filter (λ (x : Entry). x.pass == k) es) (filter (λ (x : Entry). x.pass == k) es))) other

-- calls of pass 0 are not another's
made_by-others : (m : ℕ) (made : List Made) (later : List Entry) → made_by (suc m) (map (entry_of 0) made ++ later) ≡ made_by (suc m) later
made_by-others m [] later = refl
made_by-others m (x ∷ made) later =
    made_by-other (suc m) (entry_of 0 x) (map (entry_of 0) made ++ later) (differs 0 (suc m) (λ same. absurd (omega arith)))
    ∙ made_by-others m made later

-- ---- passes by their numbers

-- the passes have the numbers from this one on
AreNumbered : ℕ → List Pass → Type 0
AreNumbered k [] = Unit {0}
AreNumbered k (p ∷ passes) = (p.number ≡ k) × AreNumbered (k + 1) passes

-- new passes are numbered
numbered-new : (k : ℕ) (passes : List Pass) → AreNewFrom k passes → AreNumbered k passes
unfolding AreNumbered
numbered-new k [] new = tt
numbered-new k (p ∷ passes) new = (new.0, numbered-new (k + 1) passes new.2)

-- new passes have no receipts
no_receipts : (k : ℕ) (passes : List Pass) (j : ℕ) (p : Pass) → AreNewFrom k passes → slice_get passes j ≡ Some p → p.receipts ≡ []
no_receipts k [] j p new at = absurd (none_is_not_some p at)
no_receipts k (q ∷ passes) zero p new at = ap (λ (x : Pass). x.receipts) (sym (some_same q p at)) ∙ new.1
no_receipts k (q ∷ passes) (suc j) p new at = no_receipts (k + 1) passes j p new.2 at

-- a pass that is handed back keeps its number
numbered-done : (k : ℕ) (names : Names) (passes : List Pass) (workers : List Worker) (handed : List Pass) → length passes ≡ length workers
    → AreDone (works_with names passes workers) handed → AreNumbered k passes → AreNumbered k handed
unfolding AreNumbered
numbered-done k names [] workers [] same done numbered = tt
numbered-done k names [] workers (q ∷ handed) same done numbered = absurd done
numbered-done k names (p ∷ passes) [] handed same done numbered = absurd (omega arith)
numbered-done k names (p ∷ passes) (w ∷ workers) [] same done numbered = absurd done
numbered-done k names (p ∷ passes) (w ∷ workers) (q ∷ handed) same done numbered = (
  (done.0.1).made.number ∙ numbered.0,
  numbered-done (k + 1) names passes workers handed (omega arith) done.1 numbered.1,
)

-- the receipts of a pass are found by its number
receipts_of-numbered : (k : ℕ) (passes : List Pass) (j : ℕ) (p : Pass) → AreNumbered k passes → slice_get passes j ≡ Some p → receipts_of (k + j) passes ≡ Some p.receipts
unfolding AreNumbered
receipts_of-numbered k [] j p numbered at = absurd (none_is_not_some p at)
receipts_of-numbered k (q ∷ passes) zero p numbered at =
    let own : q.number ≡ k + 0 = omega (arith, numbered.0) in
    ap (λ b. first_if b q.receipts (receipts_of (k + 0) passes)) (is_same q.number (k + 0) own)
    ∙ ap (λ (x : Pass). Some x.receipts) (some_same q p at)
receipts_of-numbered k (q ∷ passes) (suc j) p numbered at =
    let other : q.number ≡ k + suc j → ⊥ = λ same. absurd (omega (arith, numbered.0)) in
    let on : k + suc j ≡ (k + 1) + j = omega arith in
    ap (λ b. first_if b q.receipts (receipts_of (k + suc j) passes)) (differs q.number (k + suc j) other)
    ∙ ap (λ (n : ℕ). receipts_of n passes) on ∙ receipts_of-numbered (k + 1) passes j p numbered.1 at

-- as many passes are handed back as there are workers
handed-length : (names : Names) (passes : List Pass) (workers : List Worker) (handed : List Pass) → length passes ≡ length workers
    → AreDone (works_with names passes workers) handed → length handed ≡ length workers
handed-length names [] workers [] same done = same
handed-length names [] workers (q ∷ handed) same done = absurd done
handed-length names (p ∷ passes) [] handed same done = absurd (omega arith)
handed-length names (p ∷ passes) (w ∷ workers) [] same done = absurd done
handed-length names (p ∷ passes) (w ∷ workers) (q ∷ handed) same done =
    let rest = handed-length names passes workers handed (omega arith) done.1 in omega (arith, rest)

-- the sum of the shares is the number of the entries of these passes
shares_counted : (k : ℕ) (passes : List Pass) (history : List Entry)
    → ((j : ℕ) (p : Pass) → slice_get passes j ≡ Some p → mine (k + j) history ≡ p.receipts) → sum_of_shares passes ≡ count_from k (length passes) history
unfolding count_from
shares_counted k [] history own = refl
shares_counted k (p ∷ passes) history own =
    let here : k + 0 ≡ k = omega arith in
    let first : length p.receipts ≡ count k history = ap length (sym (own 0 p refl)) ∙ count-mine (k + 0) 0 history ∙ ap (λ (n : ℕ). count n history) here in
    let rest = shares_counted (k + 1) passes history (λ j q at. let on : (k + 1) + j ≡ k + suc j = omega arith in ap (λ (n : ℕ). mine n history) on ∙ own (suc j) q at) in
    let sum : sum_of_shares (p ∷ passes) ≡ length p.receipts + sum_of_shares passes = sum_by-cons (λ (x : Pass). length x.receipts) p passes in
    omega (arith, first, rest, sum)

-- what the worker at a place was given, and what it handed back
record Worked (names : Names) (passes handed : List Pass) (j : ℕ) (worker : Worker) : Type 0 where
  given : Pass
  back : Pass
  given_at : slice_get passes j ≡ Some given
  back_at : slice_get handed j ≡ Some back
  done : IsWorkDone (work_with names given worker) back

-- the pass that a worker hands back has made a run of its steps
worked : (names : Names) (passes : List Pass) (workers : List Worker) (handed : List Pass) (j : ℕ) (worker : Worker) → length passes ≡ length workers
    → AreDone (works_with names passes workers) handed → slice_get workers j ≡ Some worker → Worked names passes handed j worker
worked names passes [] handed j worker same done at = absurd (none_is_not_some worker at)
worked names [] (w ∷ workers) handed j worker same done at = absurd (omega arith)
worked names (p ∷ passes) (w ∷ workers) [] j worker same done at = absurd done
worked names (p ∷ passes) (w ∷ workers) (q ∷ handed) zero worker same done at = record {
  given = p;
  back = q;
  given_at = refl;
  back_at = refl;
  done = subst (λ x. IsWorkDone (work_with names p x) q) (some_same w worker at) done.0;
}
worked names (p ∷ passes) (w ∷ workers) (q ∷ handed) (suc j) worker same done at =
    let rest = worked names passes workers handed j worker (omega arith) done.1 at in
    record { given = rest.given; back = rest.back; given_at = rest.given_at; back_at = rest.back_at; done = rest.done }

-- ---- races

-- the entries of each pass are its receipts
receipts_settled : (n : ℕ) (handed : List Pass) (history : List Entry) (j : ℕ) (back : Pass) → AllSettled n handed history → AreNumbered 0 handed → j < n → slice_get handed j ≡ Some back → mine j history ≡ back.receipts
receipts_settled n handed history j back settled numbered low at =
    let zero_more : 0 + j ≡ j = omega arith in
    let found : receipts_of j handed ≡ Some back.receipts = ap (λ (k : ℕ). receipts_of k handed) (sym zero_more) ∙ receipts_of-numbered 0 handed j back numbered at in
    some_same _ _ (sym (settled j low) ∙ found)

module _ (scenario : Scenario) (names : Names) (handed : List Pass) (history : List Entry) (raced : HasRaced scenario names handed)
    (settled : AllSettled (length scenario.workers.items) handed history) (shares : length history ≡ sum_of_shares handed) where
  numbered : AreNumbered 0 handed
  unfolding AreNumbered
  numbered =
      let start : AreNumbered 0 (raced.first ∷ raced.others) = (raced.set_up.made.number, numbered-new 1 raced.others raced.others_new) in
      numbered-done 0 names (raced.first ∷ raced.others) scenario.workers.items handed raced.one_each raced.done start

  at_work : (j : ℕ) (worker : Worker) → slice_get scenario.workers.items j ≡ Some worker → Worked names (raced.first ∷ raced.others) handed j worker
  at_work j worker at = worked names (raced.first ∷ raced.others) scenario.workers.items handed j worker raced.one_each raced.done at

  -- each entry is a worker's
  of_workers : (i : ℕ) (e : Entry) → slice_get history i ≡ Some e → e.pass < length scenario.workers.items
  of_workers i e at =
      let all : length handed ≡ length scenario.workers.items = handed-length names (raced.first ∷ raced.others) scenario.workers.items handed raced.one_each raced.done in
      let sum = shares_counted 0 handed history (λ j p found. let low : j < length handed = inside handed j p found in
      let on : 0 + j ≡ j = omega arith in
      ap (λ (n : ℕ). mine n history) on ∙ receipts_settled (length scenario.workers.items) handed history j p settled numbered (omega arith) found) in
      let low = each_among 0 (length handed) history i e (omega (arith, shares, sum)) at in
      omega arith

  -- the entries of a worker's pass are the receipts that it was given, and those of its run
  entries_of : (j : ℕ) (worker : Worker) → slice_get scenario.workers.items j ≡ Some worker → (work : Worked names (raced.first ∷ raced.others) handed j worker) → mine j history ≡ work.given.receipts ++ work.done.1.made.added
  entries_of j worker at work =
      receipts_settled (length scenario.workers.items) handed history j work.back settled numbered (inside scenario.workers.items j worker at) work.back_at
      ∙ work.done.1.made.receipts

  module _ (w : Worker) (at : slice_get scenario.workers.items 0 ≡ Some w) (work : Worked names (raced.first ∷ raced.others) handed 0 w) where
    -- worker 0 goes on with the pass that ran the setup
    come_first : ComeFirst 0 raced.first.receipts work.done.1.made.added history
    come_first =
        let given : work.given ≡ raced.first = sym (some_same _ _ work.given_at) in
        let split : mine 0 history ≡ raced.first.receipts ++ work.done.1.made.added = entries_of 0 w at work ∙ ap (λ (p : Pass). p.receipts ++ work.done.1.made.added) given in
        first_entries 0 0 raced.first.receipts work.done.1.made.added history split (λ j r found. let place : r.1.place ≡ j = raced.comes_first j r found in omega arith)

    -- its other calls are its run
    first_runs : (worker : Worker) → slice_get scenario.workers.items 0 ≡ Some worker → (after : Names) × RunsLines names (repeated worker.repeat worker.steps.items) (made_by 0 come_first.0) after
    first_runs worker found =
        let ran = work.done.1 in
        let same : w ≡ worker = some_same w worker (sym at ∙ found) in
        let calls : ran.calls ≡ made_by 0 come_first.0 = sym ran.made.are ∙ come_first.2 in
        let run : RunsLines names (repeated w.repeat w.steps.items) (made_by 0 come_first.0) work.done.0 = subst (λ l. RunsLines names (repeated w.repeat w.steps.items) l work.done.0) calls ran.run in
        (work.done.0, subst (λ (x : Worker). RunsLines names (repeated x.repeat x.steps.items) (made_by 0 come_first.0) work.done.0) same run)

    -- each other worker's calls are its run
    other_runs : (m : ℕ) (worker : Worker) → slice_get scenario.workers.items (suc m) ≡ Some worker → (after : Names) × RunsLines names (repeated worker.repeat worker.steps.items) (made_by (suc m) come_first.0) after
    other_runs m worker found =
        let other = at_work (suc m) worker found in
        let ran = other.done.1 in
        let none : other.given.receipts ≡ [] = no_receipts 1 raced.others m other.given raced.others_new other.given_at in
        let own : mine (suc m) history ≡ ran.made.added = entries_of (suc m) worker found other ∙ ap (λ (l : List (Call × Answer)). l ++ ran.made.added) none in
        let calls : ran.calls ≡ made_by (suc m) come_first.0 = sym ran.made.are ∙ ap calls_of (sym own) ∙ calls_of-mine (suc m) 0 history ∙ ap (made_by (suc m)) come_first.1 ∙ made_by-others m (calls_of raced.first.receipts) come_first.0 in
        (other.done.0, subst (λ l. RunsLines names (repeated worker.repeat worker.steps.items) l other.done.0) calls ran.run)

    each_runs : (k : ℕ) (worker : Worker) → slice_get scenario.workers.items k ≡ Some worker → (after : Names) × RunsLines names (repeated worker.repeat worker.steps.items) (made_by k come_first.0) after
    each_runs zero worker found = first_runs worker found
    each_runs (suc m) worker found = other_runs m worker found

    race_of : IsRaceOf scenario names history
    race_of =
        let calls : raced.set_up.calls ≡ calls_of raced.first.receipts = sym (ap calls_of raced.set_up.made.receipts ∙ raced.set_up.made.are) in
        record {
          setup = calls_of raced.first.receipts;
          is_set_up = subst (λ l. RunsLines [] (lines_of_setup scenario.setup.items) l names) calls raced.set_up.run;
          later = come_first.0;
          setup_first = come_first.1;
          each_worker_runs = each_runs;
          workers_alone = of_workers;
        }

-- a list that isn't empty has a first
first_of : {A : Type 0} (xs : List A) → 0 < length xs → (x : A) × (slice_get xs 0 ≡ Some x)
first_of [] some = absurd (omega arith)
first_of (x ∷ xs) some = (x, refl)

-- where the verdict is that all is settled, the history is that of a race
pub settles : (scenario : Scenario) (names : Names) (handed : List Pass) (history : List Entry) (n : ℕ) (verdict : Verdict)
    → n ≡ length scenario.workers.items → HasRaced scenario names handed → IsVerdict n handed history verdict
    → UnlessMissing verdict (length history ≡ sum_of_shares handed) → IfSettled verdict (IsRaceOf scenario names history)
settles scenario names handed history n (Missing k) all raced is shares = tt
settles scenario names handed history n (Differs k i) all raced is shares = tt
settles scenario names handed history n Settled all raced is shares =
    let settled : AllSettled (length scenario.workers.items) handed history = subst (λ (m : ℕ). AllSettled m handed history) all is in
    let one = raced.one_each in
    let w = first_of scenario.workers.items (omega arith) in
    race_of scenario names handed history raced settled shares w.0 w.1 (at_work scenario names handed history raced settled shares 0 w.0 w.1)
