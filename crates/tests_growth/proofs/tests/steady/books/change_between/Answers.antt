use Rattle.std.proofs.Common.{sym, ◌∙◌, rules}
use Rattle.dine_forks.proofs.CallerLemmas.{in_use_if_found}
use Rattle.tests_growth.proofs.tests.steady.books.Records.{apart_if_not_found}
use Rattle.tests_growth.proofs.tests.steady.books.change_between.Goals as goal

pub unlink-requires : goal.unlink-requires
unlink-requires c = in_use_if_found c.args.a c.args.b c.in-Some.id _ (sym c.find.ensures ∙ c.in-Some.is)

pub link-requires : goal.link-requires
link-requires c = record {
  differ = search rules;
  first = search rules;
  second = search rules;
  apart = apart_if_not_found c.args.a c.args.b c.args.book.now.records (sym c.find.ensures ∙ c.in-None.is);
}
