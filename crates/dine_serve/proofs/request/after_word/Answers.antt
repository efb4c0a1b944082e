use Rattle.dine_serve.proofs.Words.{Decides-eqb, strip_prefix_is, word_at-test}
use Rattle.dine_serve.proofs.request.after_word.Goals as goal

pub returns : goal.returns
returns c =
    word_at-test c.args.word.now c.args.bytes.now c.strip_prefix.result
    (strip_prefix_is Decides-eqb c.args.bytes.now c.args.word.now c.strip_prefix.result c.strip_prefix.ensures.cases)
