use Rattle.dine_replay.proofs.OneAnswer.{one_answer}
use Rattle.dine_replay.proofs.law.no_text_has_two_answers.Goals as goal

pub returns : goal.returns
returns c = one_answer
