use Rattle.std.proofs.Common.{◌++◌, ◌∷◌, [], Vec, Global, ℕ, codes, decimal, ap, sym, ◌∙◌, arith}
use Rattle.dine_race.specs.Report.{meals_line}
use Rattle.dine_race.proofs.Counted.{is_found}
use Rattle.dine_race.proofs.Reported.{one_line_more}
use Rattle.dine_race.proofs.report.push_meals.Goals as goal
use Rattle.dine_race.proofs.report.push_meals.Goals.{in-Some+in_ok-push_meal, in_default}

pub loop-place-preserved : goal.loop-place-preserved
loop-place-preserved c = elim c.match-at.branch [
  | in-Some+in_ok-push_meal w ↦
      let named = w.in-Some.named in
      let count = w.of.ensures ∙ c.in_ok-meals.ensures named.1 in
      let line = w.in_ok-push_meal.ensures.ok ∙ ap (λ n. c.loop-place.out.items ++ (codes "meals " ++ named.0 ++ codes " " ++ decimal n) ++ 10 ∷ []) count in
      one_line_more (meals_line c.args.journal.now.entries) c.args.names.now c.loop-place.place named c.loop-place.out.items c.match-at.out.items c.args.out.now.items (sym w.in-Some.ensures) c.loop-place.invariant (ap (λ (v : Vec ℕ Global). v.items) w.out-is ∙ line)
  | in_default w ↦ absurd (is_found c.args.names.now c.loop-place.place (omega arith) (sym w.in_default.is ∙ c.at.ensures))
]
