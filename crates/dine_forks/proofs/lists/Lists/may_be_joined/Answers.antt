use Rattle.dine_forks.proofs.Lemmas.{◌≡◌, ℕ, false, None, sym, ap, ◌∙◌, arith, ForkBook, id_between, id_between-turned, none-between, has_bit_of}
use Rattle.dine_forks.specs.declared.lists.Lists.TheInside.{Inside}
use Rattle.dine_forks.specs.contracts.lists.Lists.{the_invariant, the_view}
use Rattle.dine_forks.proofs.lists.Lists.may_be_joined.Goals as goal

-- a slot that isn't noted in the signature of another is joined to it by no record
none : (b : Inside) (book : ForkBook) (slot other : ℕ) → the_view b ≡ book → the_invariant b → has_bit_of b.signatures.items slot other ≡ false → id_between slot other book.records ≡ None
none b book slot other view holds not_noted = ap (λ (x : ForkBook). id_between slot other x.records) (sym view) ∙ none-between b.signatures.items slot other (the_view b).records holds.2.each not_noted

pub returns-then-is_noted : goal.returns-then-is_noted
returns-then-is_noted c = λ not_noted.
    let told : has_bit_of c.self.inside.signatures.items c.args.b c.args.a ≡ false = grind arith in
    sym (id_between-turned c.args.a c.args.b c.args.self.now.records) ∙ none c.self.inside c.args.self.now c.args.b c.args.a c.self.view_is c.self.invariant told

pub returns-else-is_noted : goal.returns-else-is_noted
returns-else-is_noted c = λ not_noted.
    let told : has_bit_of c.self.inside.signatures.items c.args.a c.args.b ≡ false = grind arith in
    none c.self.inside c.args.self.now c.args.a c.args.b c.self.view_is c.self.invariant told
