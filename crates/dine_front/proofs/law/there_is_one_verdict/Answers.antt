use Rattle.dine_front.proofs.OneVerdict.{one_verdict}
use Rattle.dine_front.proofs.law.there_is_one_verdict.Goals as goal

-- what a verdict says of the history and the passes decides which it is
pub returns : goal.returns
returns c = one_verdict
