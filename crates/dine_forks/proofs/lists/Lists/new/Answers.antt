use Rattle.dine_forks.proofs.Lemmas.{◌≡◌, [], arith, length-replicate, None, replicate, refl, sym, ◌∙◌, empty_list, RowHasIds, stored-empty, ordered}
use Rattle.dine_forks.proofs.lists.Lists.new.Goals as goal

pub invariant_of-result : goal.invariant_of-result
invariant_of-result c =
    let records = c.in_ok-records.ensures in
    let lists : c.in_ok-by_slot.by_slot.items ≡ replicate c.args.slots empty_list = c.in_ok-by_slot.ensures.items_if_clones_equal (λ y e. e) in
    let signatures : c.in_ok-signatures.signatures.items ≡ replicate c.args.slots 0 = c.in_ok-signatures.ensures.items_if_clones_equal (λ y e. e) in
    let none : RowHasIds None [] empty_list [] = record { first = refl; last = refl; degree = refl; row = tt } in (
      rw (records, lists) (stored-empty c.args.slots c.args.room c.requires.some_slots c.requires.few_slots c.requires.some_room c.requires.little_room),
      rw records (ordered [] empty_list empty_list [] [] none none (λ id. omega arith)),
      rw (lists, signatures) record { long = length-replicate c.args.slots 0 ∙ sym (length-replicate c.args.slots empty_list); each = tt },
    )
