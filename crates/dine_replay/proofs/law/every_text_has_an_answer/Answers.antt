use Rattle.dine_replay.proofs.SomeAnswer.{some_answer}
use Rattle.dine_replay.proofs.law.every_text_has_an_answer.Goals as goal

pub returns : goal.returns
returns c = some_answer
