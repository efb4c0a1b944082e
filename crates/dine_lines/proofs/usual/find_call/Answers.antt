use Rattle.dine_words.specs.CallWords.{word_on_one}
use Rattle.dine_lines.proofs.LineForms.{begins-named}
use Rattle.dine_lines.proofs.usual.find_call.Goals as goal

pub returns : goal.returns
returns c =
    begins-named c.args.names.now (word_on_one c.in_ok-call.call) c.in_ok-task.task c.args.text.now _ _ c.in_ok-call.ensures c.in_ok-task.ensures
