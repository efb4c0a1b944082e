use Rattle.std.proofs.Common.{ap, subst, List}
use mathlib.Core.List.{IsPrefix}
use Rattle.dine_words.specs.declared.entry.Entry.{Entry}
use Rattle.dine_front.proofs.Prefixes.{shorter_begins}
use Rattle.dine_front.proofs.sight.Sight.begins.Goals as goal

-- both begin what the copy has seen once it learned
pub returns : goal.returns
returns g c =
    let mine = c.self.inside.seen.log in
    let theirs = c.other.inside.seen.log in
    let both = c.learn.new.self.log in
    let begins : IsPrefix mine both = subst (λ (l : List Entry). IsPrefix l both) (ap (λ s. s.log) c.again-both.ensures) c.learn.ensures.2 in
    rw (← c.self.view_is, ← c.other.view_is) (shorter_begins mine theirs both begins c.learn.ensures.3 (rw (c.self.view_is, c.other.view_is) c.requires))
