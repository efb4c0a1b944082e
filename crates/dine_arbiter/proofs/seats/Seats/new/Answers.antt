use Rattle.dine_arbiter.proofs.Lemmas.{◌≡◌, None, Option, rules, sym, replicate, false, true, is_hungry, Seat, Thinking, is_free, state_of_seat, get_or-equal, map_replicate}
use Rattle.dine_arbiter.proofs.seats.Seats.new.Goals as goal

pub invariant_of-result : goal.invariant_of-result
invariant_of-result c =
    let places : c.in_ok-vec.field-0.items ≡ replicate c.args.slots None = search rules in
    let states : c.in_ok-vec-2.field-0.items ≡ replicate c.args.slots Thinking = search rules in
    let hungry : c.in_ok-new.field-0 ≡ replicate c.args.slots false = search rules in
    let free : c.in_ok-all.field-0 ≡ replicate c.args.slots true = search rules in
    rw (places, states, hungry, free) record {
      states_told = sym (map_replicate state_of_seat c.args.slots None);
      hungry_told = sym (map_replicate is_hungry c.args.slots Thinking);
      free_told = sym (map_replicate is_free c.args.slots None);
      slots_told = λ slot. rw (get_or-equal {X = Option Seat} c.args.slots slot None) tt;
    }
