use Rattle.dine_forks.proofs.Lemmas.{nat_tests, arith, along_second, few_records_read, id_between-turned, records_read-seen, id_between_seen, seen_all}
use Rattle.dine_forks.proofs.book.ForkBook.find_counted.Goals.{then-degree, else-degree}
use Rattle.dine_forks.proofs.book.ForkBook.find_counted.Goals as goal

pub returns : goal.returns
returns c = elim c.if-degree.branch [
  | then-degree w ↦ grind (arith, nat_tests, id_between-turned, id_between_seen, along_second c.args.a c.args.b c.self.inside.lists.records, records_read-seen c.self.inside.marks.items c.args.a c.args.b c.self.inside.lists.records, few_records_read c.args.a c.args.b (seen_all c.self.inside.marks.items c.self.inside.lists.records))
  | else-degree w ↦ grind (arith, id_between_seen, records_read-seen c.self.inside.marks.items c.args.a c.args.b c.self.inside.lists.records, few_records_read c.args.a c.args.b (seen_all c.self.inside.marks.items c.self.inside.lists.records))
]
