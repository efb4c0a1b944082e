use Rattle.dine_words.specs.CallWords.{word_on_two}
use Rattle.dine_lines.proofs.LineForms.{begins-pair}
use Rattle.dine_lines.proofs.usual.find_pair.Goals as goal

pub returns : goal.returns
returns c =
    begins-pair c.args.names.now (word_on_two c.in_ok-call.call) _ _ c.args.text.now c.in_ok-call.named.now _ _ c.in_ok-call.ensures c.in_ok-first.ensures c.in_ok-second.ensures
