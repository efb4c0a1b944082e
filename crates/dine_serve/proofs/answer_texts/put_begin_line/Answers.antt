use Rattle.dine_serve.proofs.Words.{List, ℕ, ◌++◌, ◌∙◌, append-nil, append_assoc, ap, arith, codes, decimal, refl, reply_text}
use Rattle.dine_serve.proofs.answer_texts.put_begin_line.Goals as goal

-- the pieces are the line, and each is short
pub returns : goal.returns
returns c =
    let end : List ℕ → List ℕ = λ l. ((l ++ codes " -> ") ++ reply_text c.args.reply) ++ codes "\n" in
    record {
      is =
          c.put_text-4.ensures.text ∙ ap (λ l. l ++ codes "\n") c.put_reply.ensures.is
          ∙ ap (λ l. (l ++ reply_text c.args.reply) ++ codes "\n") c.put_text-3.ensures.text
          ∙ ap end c.put_number-3.ensures.text
          ∙ ap (λ l. end (l ++ decimal c.args.task.born)) c.put_text-2.ensures.text
          ∙ ap (λ l. end ((l ++ codes ".") ++ decimal c.args.task.born)) (c.put_number-2.ensures.text ∙ ap (λ n. c.put_text.new.out.items ++ decimal n) c.from-2.ensures)
          ∙ ap (λ l. end (((l ++ decimal c.args.task.slot) ++ codes ".") ++ decimal c.args.task.born)) c.put_text.ensures.text
          ∙ ap (λ l. end ((((l ++ codes " begin ") ++ decimal c.args.task.slot) ++ codes ".") ++ decimal c.args.task.born)) (c.put_number.ensures.text ∙ ap (λ n. c.args.out.now.items ++ decimal n) c.from.ensures)
          ∙ simp (append_assoc, append-nil) refl;
      len = omega (arith, c.put_number.ensures.len, c.put_text.ensures.len, c.put_number-2.ensures.len, c.put_text-2.ensures.len, c.put_number-3.ensures.len, c.put_text-3.ensures.len, c.put_reply.ensures.len, c.put_text-4.ensures.len);
      capacity = c.put_text-4.ensures.capacity ∙ c.put_reply.ensures.capacity ∙ c.put_text-3.ensures.capacity ∙ c.put_number-3.ensures.capacity ∙ c.put_text-2.ensures.capacity ∙ c.put_number-2.ensures.capacity ∙ c.put_text.ensures.capacity ∙ c.put_number.ensures.capacity;
    }
