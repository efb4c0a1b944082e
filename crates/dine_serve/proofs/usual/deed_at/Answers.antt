use Rattle.dine_serve.proofs.Words.{Some, codes, refl, sym, ap, ◌∙◌, lit≤, opening_on_one, one_at-Some, word_at-Some, short-opening, Make, Cancel}
use Rattle.dine_serve.specs.declared.request.Deed.TheVariants.{Await as await}
use Rattle.dine_serve.proofs.UsualForms.{about-is, await-deed, cancel-deed, step-deed}
use Rattle.dine_serve.proofs.usual.deed_at.Goals as goal

-- the step of a meal, or another call about one task
pub returns-in-Some : goal.returns-in-Some
returns-in-Some c =
    about-is (opening_on_one c.in-Some.step) c.in_ok-task.task (Make c.on.result) c.args.text.now c.in-Some.behind.now c.in_ok-task.rest.now (short-opening c.in-Some.step)
    (λ fits. step-deed c.in-Some.step c.in_ok-task.task fits ∙ ap (λ k. Some (Make k)) (sym c.on.ensures))
    (one_at-Some c.args.text.now c.in-Some.behind.now c.in-Some.step c.in-Some.ensures.found) c.in_ok-task.ensures.found c.in_ok-task.ensures.ends

-- a begin that is to wait
pub returns-in-Some-after_word : goal.returns-in-Some-after_word
returns-in-Some-after_word c =
    about-is (codes "await ") c.in_ok-task-2.task (await c.in_ok-task-2.task) c.args.text.now c.in-Some-after_word.behind.now c.in_ok-task-2.rest.now record { one = refl; short = lit≤ tt } (await-deed c.in_ok-task-2.task)
    (word_at-Some (codes "await ") c.args.text.now c.in-Some-after_word.behind.now c.in-Some-after_word.ensures) c.in_ok-task-2.ensures.found c.in_ok-task-2.ensures.ends

-- a begin that is taken back
pub returns : goal.returns
returns c =
    about-is (codes "cancel ") c.in_ok-task-3.task (Cancel c.in_ok-task-3.task) c.args.text.now c.in_ok-behind.behind.now c.in_ok-task-3.rest.now record { one = refl; short = lit≤ tt } (cancel-deed c.in_ok-task-3.task)
    (word_at-Some (codes "cancel ") c.args.text.now c.in_ok-behind.behind.now c.in_ok-behind.ensures) c.in_ok-task-3.ensures.found c.in_ok-task-3.ensures.ends
