use Rattle.std.proofs.Common.{◌≡◌, false, not, inl, inr, refl}
use Rattle.std.proofs.lemmas.Bool.{cases_Bool}
use Rattle.dine_words.specs.declared.task.Task.{Task}
use Rattle.dine_table.specs.Table.{same_task, stands_before}
use Rattle.dine_table.proofs.CallerLemmas.{conflict_differs, conflict_present, same_task-true, stands_before-other_way}
use Rattle.dine_chart.proofs.law.a_conflict_has_one_edge.Goals as goal

-- tasks that differ have two names
not_same : (u v : Task) → (u ≡ v → ⊥) → same_task u v ≡ false
not_same u v differ = elim (cases_Bool (same_task u v)) [ inl e ↦ absurd (differ (same_task-true u v e)) | inr e ↦ e ]

pub returns : goal.returns
returns c t u v sound apart =
    let here = conflict_present t sound u v apart in
    let back : stands_before t.order v u ≡ not (stands_before t.order u v) = stands_before-other_way t.order u v (not_same u v (conflict_differs t sound u v apart)) here.0 here.1 in
    elim (cases_Bool (stands_before t.order u v)) [
      | inl e ↦ inl (rw e refl, rw (back, e) refl)
      | inr e ↦ inr (rw (back, e) refl, rw e refl)
    ]
