use Rattle.dine_forks.proofs.Lemmas.{◌≡◌, sym, ◌∙◌, count_at, count_in, few-in, count-seen}
use Rattle.dine_forks.proofs.book.ForkBook.count.Goals.{After-are_sound}
use Rattle.dine_forks.proofs.book.ForkBook.count.Goals as goal

-- the count is that of the records
is : (c : After-are_sound) → count_at c.self.inside.counts.items c.args.slot ≡ count_in c.self.inside.lists.records c.args.slot
is c = c.self.invariant.counted c.args.slot (rw (← c.self.view_is) at c.requires)

pub returns-clause-value : goal.returns-clause-value
returns-clause-value c = rw (← c.self.view_is, c.as_slice-counts.ensures.value) (is (goal.at.returns-clause-value c).After-are_sound ∙ sym (count-seen c.self.inside.marks.items c.args.slot c.self.inside.lists.records))

pub returns-clause-few : goal.returns-clause-few
returns-clause-few c = rw (c.as_slice-counts.ensures.value, is (goal.at.returns-clause-few c).After-are_sound) (few-in c.self.inside.lists c.are_sound.ensures c.args.slot).0

pub returns-clause-few_asked : goal.returns-clause-few_asked
returns-clause-few_asked c = rw (c.as_slice-counts.ensures.value, is (goal.at.returns-clause-few_asked c).After-are_sound) (few-in c.self.inside.lists c.are_sound.ensures c.args.slot).1
