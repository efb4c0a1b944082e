use Rattle.dine_forks.proofs.Lemmas.{◌≡◌, ◌++◌, sym, ap, ◌∙◌, length, take, drop, lent}
use Rattle.dine_forks.proofs.book.ForkBook.walk.Given.{Over}
use Rattle.dine_forks.proofs.book.ForkBook.walk.Goals.{After-walk}
use Rattle.dine_forks.proofs.book.ForkBook.walk.Goals as goal

-- the counts come back whole
counts : (g : Over) (c : After-walk g) → take c.self.inside.counts.len (c.walk.new.counts ++ drop (length c.walk.new.counts) c.self.inside.counts.items) ≡ c.walk.new.counts
counts g c = lent c.walk.new.counts c.self.inside.counts.items c.self.inside.counts.len (c.walk.ensures.tied.places ∙ c.walk.ensures.slots ∙ sym c.self.invariant.places ∙ ap length (sym c.as_mut_slice.ensures.value) ∙ c.as_mut_slice.ensures.len)

-- and the marks
marks : (g : Over) (c : After-walk g) → take c.self.inside.marks.len (c.walk.new.marks ++ drop (length c.walk.new.marks) c.self.inside.marks.items) ≡ c.walk.new.marks
marks g c = lent c.walk.new.marks c.self.inside.marks.items c.self.inside.marks.len (c.walk.ensures.tied.marked ∙ c.walk.ensures.slots ∙ sym c.self.invariant.marked ∙ ap length (sym c.as_mut_slice-2.ensures.value) ∙ c.as_mut_slice-2.ensures.len)

pub walk-requires : goal.walk-requires
walk-requires g c =
    rw (c.as_mut_slice.ensures.value, c.as_mut_slice-2.ensures.value) record {
      within = rw (← c.self.view_is) at c.requires.slot;
      known = rw (← c.self.view_is) at c.requires.known;
      met = rw (← c.self.view_is) at c.requires.meets;
      tied = c.self.invariant;
    }

pub invariant_of-self : goal.invariant_of-self
invariant_of-self g c = let at = (goal.at.invariant_of-self g c).After-walk in rw (counts g at, marks g at) c.walk.ensures.tied

pub returns : goal.returns
returns g c =
    let at = (goal.at.returns g c).After-walk in
    rw (marks g at, ← c.self.view_is, ← c.as_mut_slice-2.ensures.value) c.walk.ensures.book
