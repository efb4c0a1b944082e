use Rattle.dine_serve.proofs.Words.{◌≡◌, true, false, None, inl, inr, subst, sym, ap, ◌∙◌, or_cases, Task, Table, are_in_conflict, same_task, same_task-true, LeadsAt, may_have_ended}
use Rattle.dine_serve.proofs.FirstDue.{is-found, leads-later}
use Rattle.dine_serve.proofs.due.first_due.Goals as goal

pub returns-in-Finish : goal.returns-in-Finish
returns-in-Finish c =
    is-found c.args.arbiter.now.table c.args.waiters.now c.args.call c.requires.retried c.earliest_beside.result c.earliest_beside.ensures.due
    (λ u may. c.earliest_beside.ensures.beside u (subst (λ k. may_have_ended c.args.arbiter.now.table k u ≡ true) c.in-Finish.is may))

pub returns-in-Withdraw : goal.returns-in-Withdraw
returns-in-Withdraw c =
    let t = c.args.arbiter.now.table in
    let v = c.in-Withdraw.task in
    let found = c.earliest_beside-in-Withdraw.result in
    is-found t c.args.waiters.now c.args.call c.requires.retried found c.earliest_beside-in-Withdraw.ensures.due
    (λ u may. elim (or_cases (same_task v u) (are_in_conflict t v u) (subst (λ k. may_have_ended t k u ≡ true) c.in-Withdraw.is may)) [
      | inl same ↦ subst (λ (x : Task). LeadsAt t c.args.waiters.now.rows found x.slot) (same_task-true v u same) (leads-later t c.args.waiters.now.rows _ found v.slot c.earliest_beside-in-Withdraw.ensures.on c.earlier_at-own.ensures.at)
      | inr beside ↦ c.earliest_beside-in-Withdraw.ensures.beside u beside
    ])

pub returns-in-Separate : goal.returns-in-Separate
returns-in-Separate c =
    let t = c.args.arbiter.now.table in
    let v = c.in-Separate.first in
    let w = c.in-Separate.second in
    let found = c.earlier_at.result in
    is-found t c.args.waiters.now c.args.call c.requires.retried found c.earlier_at.ensures.due
    (λ u may. elim (or_cases (same_task v u) (same_task w u) (subst (λ k. may_have_ended t k u ≡ true) c.in-Separate.is may)) [
      | inl same ↦ subst (λ (x : Task). LeadsAt t c.args.waiters.now.rows found x.slot) (same_task-true v u same) (leads-later t c.args.waiters.now.rows _ found v.slot c.earlier_at.ensures.on c.earlier_at-one.ensures.at)
      | inr same ↦ subst (λ (x : Task). LeadsAt t c.args.waiters.now.rows found x.slot) (same_task-true w u same) c.earlier_at.ensures.at
    ])

pub returns-in-Join : goal.returns-in-Join
returns-in-Join c = is-found t c.args.waiters.now c.args.call c.requires.retried None tt (λ u may. absurd (let two : true ≡ false = sym may ∙ none u in cc))
  where
    t : Table
    t = c.args.arbiter.now.table

    none : (u : Task) → may_have_ended t c.args.call u ≡ false
    none u = elim c.in-Join.is [
      | inl join ↦ ap (λ k. may_have_ended t k u) join
      | inr rest ↦ elim rest [
        | inl leave ↦ ap (λ k. may_have_ended t k u) leave.1
        | inr rest ↦ elim rest [
          | inl conflict ↦ ap (λ k. may_have_ended t k u) conflict.2
          | inr rest ↦ elim rest [
            | inl hungry ↦ ap (λ k. may_have_ended t k u) hungry.1
            | inr begin ↦ ap (λ k. may_have_ended t k u) begin.1
          ]
        ]
      ]
    ]
