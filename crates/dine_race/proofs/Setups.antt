-- The lines of a setup, one after the other, and the passes of a front that was just opened.
use Rattle.std.proofs.Common.{◌≡◌, ℕ, suc, ◌+◌, ◌<◌, List, [], ◌∷◌, ◌++◌, length, take, drop, get_or, slice_get, Option, Some, None, refl, sym, ap, ◌∙◌, subst, arith}
use Rattle.std.proofs.lemmas.List.{take_more}
use Rattle.dine_scenario.specs.declared.scenario.Step.TheVariants as step
use Rattle.dine_scenario.specs.declared.scenario.NamedCall.{NamedCall}
use Rattle.dine_front.specs.Passes.{Pass, AreNew}
use Rattle.dine_race.specs.Runs.{lines_of_setup}
use Rattle.dine_race.specs.Runners.{Runner, HasRun}
use Rattle.dine_scenario.specs.declared.scenario.Scenario.{Scenario}
use Rattle.dine_scenario.specs.declared.scenario.Worker.{Worker}
use Rattle.dine_lines.specs.Names.{Names}
use Rattle.dine_race.specs.Works.{AreDone, works_with}
use Rattle.dine_race.specs.Races.{AreFirst, AreNewFrom, HasRaced}
use Rattle.dine_race.proofs.Running.{has_run_then}

-- ---- lines

-- the lines of two setups, one behind the other
lines_of_setup-append : (xs ys : List NamedCall) → lines_of_setup (xs ++ ys) ≡ lines_of_setup xs ++ lines_of_setup ys
lines_of_setup-append [] ys = refl
lines_of_setup-append (x ∷ xs) ys = ap (λ lines. step.Call x ∷ lines) (lines_of_setup-append xs ys)

-- one more line was run
pub set_up_next : (a b c : Runner) (i : ℕ) (setup : List NamedCall) (line : NamedCall) → i < length setup → line ≡ get_or setup i line
    → HasRun a (lines_of_setup (take i setup)) b → HasRun b (step.Call line ∷ []) c → HasRun a (lines_of_setup (take (i + 1) setup)) c
set_up_next a b c i setup line inside is one other =
    let lines = ap lines_of_setup (take_more setup i line inside) ∙ lines_of_setup-append (take i setup) (get_or setup i line ∷ []) in
    let same : HasRun b (step.Call (get_or setup i line) ∷ []) c = subst (λ l. HasRun b (step.Call l ∷ []) c) is other in
    subst (λ l. HasRun a l c) (sym lines) (has_run_then a (lines_of_setup (take i setup)) b (step.Call (get_or setup i line) ∷ []) c one same)

-- ---- passes

-- the value that is found, or else another
from_some : {A : Type 0} → A → Option A → A
from_some d None = d
from_some d (Some x) = x

-- what is there is one thing
pub some_same : {A : Type 0} (x y : A) → Some x ≡ Some y → x ≡ y
unfolding from_some
some_same x y e = ap (from_some x) e

-- passes each of which is new, with its place as its number, are new from there on
new_from : (k : ℕ) (passes : List Pass) → ((j : ℕ) → j < length passes → slice_get passes j ≡ Some (record { number = k + j; receipts = []; seen = [] })) → AreNewFrom k passes
new_from k [] new = tt
new_from k (p ∷ passes) new =
    let zero_more : k + 0 ≡ k = omega arith in
    let this : p ≡ record { number = k + 0; receipts = []; seen = [] } = some_same _ _ (new 0 (omega arith)) in (
      ap (λ (q : Pass). q.number) this ∙ zero_more,
      ap (λ (q : Pass). q.receipts) this,
      new_from (k + 1) passes (λ j inside.
          let at : k + suc j ≡ (k + 1) + j = omega arith in
          new (suc j) (omega arith) ∙ ap (λ (n : ℕ). Some (record { number = n; receipts = []; seen = [] })) at),
    )

-- the first pass of a front that was just opened, and the others
pub opened : (n : ℕ) (passes : List Pass) (first : Pass) → 0 < n → AreNew n passes → first ≡ get_or passes 0 first
    → (first ≡ record { number = 0; receipts = []; seen = [] }) × AreNewFrom 1 (drop 1 passes) × (suc (length (drop 1 passes)) ≡ n)
opened n [] first some new is = absurd (omega (arith, new.0))
opened n (p ∷ passes) first some new is = (
  is ∙ some_same _ _ (new.1 0 some),
  new_from 1 passes (λ j inside.
      let at : suc j ≡ 1 + j = omega arith in
      let l : suc (length passes) ≡ n = new.0 in
      new.1 (suc j) (omega arith) ∙ ap (λ (m : ℕ). Some (record { number = m; receipts = []; seen = [] })) at),
  new.0,
)

-- the setup is run with the first pass, and then the workers with it and the others
pub has_raced : (scenario : Scenario) (n : ℕ) (passes others inserted handed : List Pass) (given first : Pass) (runner : Runner) (names : Names) (setup : List NamedCall) (workers : List Worker)
    → 0 < n → n ≡ length scenario.workers.items → AreNew n passes → given ≡ get_or passes 0 given → others ≡ drop 1 passes
    → setup ≡ scenario.setup.items → HasRun (record { pass = given; names = [] }) (lines_of_setup setup) runner → AreFirst runner.pass.receipts
    → first ≡ runner.pass → names ≡ runner.names → inserted ≡ first ∷ others
    → workers ≡ scenario.workers.items → AreDone (works_with names inserted workers) handed → HasRaced scenario names handed
has_raced scenario n passes others inserted handed given first runner names setup workers some all new is rest lines run places first_is names_are put those done =
    let start = opened n passes given some new is in
    let ended : runner ≡ record { pass = first; names = names } = sym (λ j. record { pass = first_is j; names = names_are j }) in
    let begun : Runner = record { pass = record { number = 0; receipts = []; seen = [] }; names = [] } in
    let lines_run : HasRun (record { pass = given; names = [] }) (lines_of_setup scenario.setup.items) runner = subst (λ (l : List NamedCall). HasRun (record { pass = given; names = [] }) (lines_of_setup l) runner) lines run in
    let begun_run : HasRun begun (lines_of_setup scenario.setup.items) runner = subst (λ (p : Pass). HasRun (record { pass = p; names = [] }) (lines_of_setup scenario.setup.items) runner) start.0 lines_run in
    let set_up : HasRun begun (lines_of_setup scenario.setup.items) (record { pass = first; names = names }) = subst (λ (r : Runner). HasRun begun (lines_of_setup scenario.setup.items) r) ended begun_run in
    record {
      first = first;
      others = others;
      one_each = ap (λ (l : List Pass). length (first ∷ l)) rest ∙ start.2 ∙ all;
      set_up = set_up;
      comes_first = subst (λ (p : Pass). AreFirst p.receipts) (sym first_is) places;
      others_new = subst (AreNewFrom 1) (sym rest) start.1;
      done = subst (λ (l : List Worker). AreDone (works_with names (first ∷ others) l) handed) those (subst (λ (l : List Pass). AreDone (works_with names l workers) handed) put done);
    }
