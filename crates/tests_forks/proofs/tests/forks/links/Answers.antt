use Rattle.std.proofs.Common.{sym, ◌∙◌, rules}
use Rattle.tests_forks.proofs.tests.forks.Records.{apart_if_not_found}
use Rattle.tests_forks.proofs.tests.forks.links.Goals as goal

pub link-requires : goal.link-requires
link-requires c = record {
  differ = search rules;
  first = search rules;
  second = search rules;
  apart = apart_if_not_found c.args.link.now.0 c.args.link.now.1 c.args.book.now.records (sym c.find.ensures ∙ c.in-None.is);
}
