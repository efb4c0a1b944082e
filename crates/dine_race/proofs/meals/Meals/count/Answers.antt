use Rattle.std.proofs.Common.{◌+◌, unwrap_or, ap, sym, ◌∙◌, arith, if◌then◌else◌}
use Rattle.std.specs.HashMap.{get}
use Rattle.dine_table.specs.Table.{same_task}
use Rattle.dine_table.specs.History.{grants_meal}
use Rattle.dine_race.specs.declared.meals.Meals.{Meals}
use Rattle.dine_race.proofs.Counted.{is_found, meals_more}
use Rattle.dine_race.proofs.meals.Meals.count.Goals as goal
use Rattle.dine_race.proofs.meals.Meals.count.Goals.{in-Some+in_ok-add, in_default}

pub loop-place-preserved : goal.loop-place-preserved
loop-place-preserved c = λ t. elim c.match-entry.branch [
  | in-Some+in_ok-add w ↦
      ap (λ (m : Meals). unwrap_or (get same_task m.counts t) 0) w.meals-is
      ∙ w.in_ok-add.ensures t
      ∙ ap (λ n. (if grants_meal t w.in-Some.entry then 1 else 0) + n) (c.loop-place.invariant t)
      ∙ sym (meals_more t c.args.journal.now.entries c.loop-place.place w.in-Some.entry (sym w.in-Some.ensures))
  | in_default w ↦ absurd (is_found c.args.journal.now.entries c.loop-place.place (omega arith) (sym w.in_default.is ∙ c.entry.ensures))
]
