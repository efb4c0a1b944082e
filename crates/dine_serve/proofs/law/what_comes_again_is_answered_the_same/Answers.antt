use Rattle.dine_serve.proofs.Again.{again-known, same-line}
use Rattle.dine_serve.proofs.law.what_comes_again_is_answered_the_same.Goals as goal

pub returns : goal.returns
returns c = record {
  known = again-known;
  line = same-line;
}
