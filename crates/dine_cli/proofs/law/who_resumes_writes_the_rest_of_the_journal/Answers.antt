use Rattle.dine_cli.proofs.Resuming.{rest-legal, rest-text}
use Rattle.dine_cli.proofs.law.who_resumes_writes_the_rest_of_the_journal.Goals as goal

pub returns : goal.returns
returns c = record {
  text = rest-text;
  legal = rest-legal;
}
