use Rattle.dine_serve.proofs.Words.{◌≡◌, ◌∙◌, refl, rules, Err, Memory, Read, Write}
use Rattle.dine_serve.proofs.Hearing.{answered-end, answered-opening, answered-so_far, block-in_lines, block-in_part, block-next, end-in_lines, end-in_part, fault-end}
use Rattle.dine_serve.proofs.Answering.{on_ok}
use Rattle.dine_serve.proofs.Served.{in_any_case, of_value, serves-in_part, two_faults}
use Rattle.dine_serve.proofs.serving.answer_all.Goals as goal

pub reads-init : goal.reads-init
reads-init g c = record {
  none_pending = search rules;
  answered = answered-opening _ _ _ _ c.in_ok-buffer.ensures.begun;
  read_unmarked = refl;
  write_unmarked = refl;
}

pub reads-preserved : goal.reads-preserved
reads-preserved g c = record {
  none_pending = c.in_ok-answer_lines.ensures.none_pending;
  answered = block-next _ _ _ _ _ _ _ c.reads.invariant.answered _ _ _ c.in-Ok.ensures.heard _ c.lines.ensures.lines _ _ c.in_ok-answer_lines.ensures.after c.in_ok-answer_lines.ensures.says.written;
  read_unmarked = c.in-Ok.ensures.unmarked ∙ c.reads.invariant.read_unmarked;
  write_unmarked = c.in_ok-answer_lines.ensures.says.writes_only.unmarked ∙ c.reads.invariant.write_unmarked;
}

-- all is answered, and what has begun is a fault
pub returns-then-not-has_come : goal.returns-then-not-has_come
returns-then-not-has_come g c =
    record {
      output = on_ok c.answer_begun.result (answered-end _ _ _ _ _ _ _ c.reads.invariant.answered _ _ _ c.in-Ok.ensures.heard c.if-not-has_come.true _) c.answer_begun.ensures.says.written;
      ended = of_value c.answer_begun.result (fault-end _ _ _ _ _ _ _ c.reads.invariant.answered _ _ _ c.in-Ok.ensures.heard c.if-not-has_come.true _) c.answer_begun.ensures.fault;
      at_each_read = λ failed. absurd (c.answer_begun.ensures.says.writes_only.no_read failed);
      memory = λ failed. end-in_lines _ _ _ _ _ _ _ c.reads.invariant.answered _ _ _ c.in-Ok.ensures.heard c.if-not-has_come.true _ (c.answer_begun.ensures.says.memory failed);
      write = λ failed. end-in_part _ _ _ _ _ _ _ c.reads.invariant.answered _ _ _ c.in-Ok.ensures.heard c.if-not-has_come.true _ (c.answer_begun.ensures.says.write failed);
      marks = record {
        read_mark = λ failed. absurd (c.answer_begun.ensures.says.writes_only.no_read failed);
        write_mark = c.answer_begun.ensures.says.writes_only.mark;
        read_unmarked = in_any_case c.answer_begun.result (c.in-Ok.ensures.unmarked ∙ c.reads.invariant.read_unmarked);
        write_unmarked = on_ok c.answer_begun.result (λ unmarked. unmarked ∙ c.reads.invariant.write_unmarked) c.answer_begun.ensures.says.writes_only.unmarked;
      };
    }

-- memory is wanting, or a write fails
pub returns-in_err-answer_lines : goal.returns-in_err-answer_lines
returns-in_err-answer_lines g c =
    let said = c.answer_lines.ensures.says in
    serves-in_part c.from_residual-in_err-answer_lines.result _ _ _ _ _ _ _ _ _ _ _ c.from_residual-in_err-answer_lines.ensures.0
    (λ failed. let same : c.answer_lines.result ≡ Err Read = search rules in absurd (said.writes_only.no_read same))
    (λ failed. let same : c.answer_lines.result ≡ Err Memory = search rules in block-in_lines _ _ _ _ _ _ _ c.reads.invariant.answered _ _ _ c.in-Ok.ensures.heard _ c.lines.ensures.lines _ (said.memory same))
    (λ failed. let same : c.answer_lines.result ≡ Err Write = search rules in block-in_part _ _ _ _ _ _ _ c.reads.invariant.answered _ _ _ c.in-Ok.ensures.heard _ c.lines.ensures.lines _ (said.write same))
    (λ failed. let same : c.answer_lines.result ≡ Err Write = search rules in said.writes_only.mark same)

-- more reads than are counted
pub returns : goal.returns
returns g c =
    serves-in_part (Err Memory) _ _ _ _ _ _ _ _ _ _ _ refl
    (λ failed. absurd (two_faults failed (λ same. absurd cc)))
    (λ failed. answered-so_far _ _ _ _ _ _ _ c.reads.invariant.answered)
    (λ failed. absurd (two_faults failed (λ same. absurd cc)))
    (λ failed. absurd (two_faults failed (λ same. absurd cc)))
