use Rattle.dine_serve.proofs.Words.{[], seen_lines, opening}
use Rattle.dine_serve.proofs.Legal.{legal-lines, served-journal}
use Rattle.dine_serve.proofs.law.what_is_served_is_a_journal.Goals as goal

pub returns : goal.returns
returns c = record {
  text = served-journal;
  legal = λ limits passes input. legal-lines (opening limits passes) (seen_lines [] input);
}
