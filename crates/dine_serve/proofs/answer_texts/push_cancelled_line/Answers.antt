use Rattle.dine_serve.proofs.Words.{[], ◌∷◌, ◌++◌, codes, sym, ap, ◌∙◌, append_assoc, append-nil, on_ok, task_if}
use Rattle.dine_serve.proofs.Answering.{left_ok}
use Rattle.dine_serve.proofs.answer_texts.push_cancelled_line.Goals as goal

pub returns-clause-ok : goal.returns-clause-ok
returns-clause-ok c =
    let out = c.args.out.now.items in
    let word = codes "? cancelled " in
    let task = task_if c.args.found c.args.task in
    let told = c.in_ok-push_if_found.ensures.ok ∙ ap (λ l. l ++ task) c.in_ok-extend_from_slice.ensures.items in
    on_ok c.extend_from_slice-2.result (λ line. line ∙ ap (λ l. l ++ 10 ∷ []) told ∙ append_assoc (out ++ word) task (10 ∷ []) ∙ append_assoc out word (task ++ 10 ∷ []) ∙ ap (λ l. out ++ l) (sym (append-nil (word ++ task ++ 10 ∷ [])))) (left_ok c.extend_from_slice-2.result _ _ _ c.extend_from_slice-2.ensures.items)
