use Rattle.dine_forks.proofs.Lemmas.{◌∙◌, ◌+◌, eq-eqb, sym, lacks-some, holds_all-seen, ◌*◌}
use Rattle.dine_forks.proofs.book.ForkBook.lacking_word.Goals as goal

pub word-requires : goal.word-requires
word-requires c = rw c.self.invariant.listed (rw (← c.self.view_is) at c.requires)

pub returns : goal.returns
returns c = λ k below is.
    let in_it = sym (c.word.ensures.told k below) ∙ eq-eqb _ 1 is in
    let slot = 64 * c.args.word + k in let lists = c.self.inside.lists in
    rw (← c.self.view_is) (holds_all-seen c.self.inside.marks.items slot lists.records ∙ lacks-some lists c.self.inside.counts.items c.self.inside.marks.items c.self.inside.lacking slot c.are_sound.ensures c.self.invariant in_it)
