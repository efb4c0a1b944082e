use Rattle.dine_forks.proofs.Lemmas.{count_with, ◌≡◌, get_or-set_other, no_count, ap, not, sym, ◌∙◌, holder, non_holder, count_at, both-are, ends-at, more-at, set-both}
use Rattle.dine_forks.proofs.counts.add.Goals as goal

pub returns-clause-counted : goal.returns-clause-counted
returns-clause-counted c = λ s.
    let r = c.args.coming in let counts = c.args.counts.now in let ends = c.requires.ends in let at = ends-at r _ ends.differ ends.first ends.second in
    let one = c.with.ensures in
    let kept = get_or-set_other counts (holder r) (non_holder r) c.with.result no_count (λ same. at.2 (sym same)) in
    let other : c.with-2.result ≡ count_with (not r.fork.at_first) r.fork (count_at counts (non_holder r)) = (rw (c.holder-holder.ensures, c.non_holder-other.ensures) at c.with-2.ensures) ∙ ap (count_with (not r.fork.at_first) r.fork) kept in
    rw (c.holder-holder.ensures, c.non_holder-other.ensures) (
    set-both counts (holder r) (non_holder r) c.with.result c.with-2.result at.0 at.1 at.2 s
    ∙ both-are counts (holder r) (non_holder r) c.with.result c.with-2.result (count_with r.fork.at_first r.fork) (count_with (not r.fork.at_first) r.fork) (rw c.holder-holder.ensures at one) other s
    ∙ more-at r (count_at counts s) s ends.differ
    )
