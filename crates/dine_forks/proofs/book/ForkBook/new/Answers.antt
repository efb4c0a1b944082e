use Rattle.dine_forks.proofs.Lemmas.{rules, ◌≡◌, arith, common_steps, false, no_count, replicate, tied-empty}
use Rattle.dine_forks.proofs.book.ForkBook.new.Goals as goal

pub invariant_of-result : goal.invariant_of-result
invariant_of-result c =
    let counts : c.in_ok-vec.field-0.items ≡ replicate c.args.slots no_count = first_of (search rules, grind (arith, common_steps)) in
    let marks : c.in_ok-vec-2.field-0.items ≡ replicate c.args.slots false = first_of (search rules, grind (arith, common_steps)) in
    rw (c.in_ok-new-2.ensures, c.in_ok-new.ensures, counts, marks) (tied-empty c.args.slots c.args.room)
