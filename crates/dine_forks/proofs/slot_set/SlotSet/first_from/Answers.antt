use Rattle.dine_forks.proofs.Lemmas.{◌*◌, ◌≤◌, ◌^◌, rules, begins, has_bits, found_end, found_here, found_nowhere, found_later, ◌+◌, ◌<◌, length, ap, arith}
use Rattle.dine_forks.proofs.slot_set.SlotSet.first_from.Goals as goal

pub returns-then-from-self : goal.returns-then-from-self
returns-then-from-self c = found_end c.self.inside c.self.view_is c.self.invariant c.args.from c.if-from-self.true

pub index-requires : goal.index-requires
index-requires c =
    let at = has_bits c.self.inside c.self.view_is c.self.invariant c.args.from (begins c.self.inside c.self.view_is c.self.invariant c.args.from c.requires c.if-from-self.false) in
    search rules

pub returns-then-bit-lt64 : goal.returns-then-bit-lt64
returns-then-bit-lt64 c =
    let lt = begins c.self.inside c.self.view_is c.self.invariant c.args.from c.requires c.if-from-self.false in
    found_here c.self.inside c.self.view_is c.self.invariant c.args.from lt c.first_bit-bit.result c.index.result.now c.index.ensures c.first_bit-bit.ensures c.if-bit-lt64.true

pub first_set-next-requires-clause-from : goal.first_set-next-requires-clause-from
first_set-next-requires-clause-from c =
    let at = has_bits c.self.inside c.self.view_is c.self.invariant c.args.from (begins c.self.inside c.self.view_is c.self.invariant c.args.from c.requires c.if-from-self.false) in
    let room = c.self.invariant.room_of_marks in
    let same = ap length c.deref.ensures.value in
    omega arith

pub returns-then-next-len : goal.returns-then-next-len
returns-then-next-len c =
    let lt = begins c.self.inside c.self.view_is c.self.invariant c.args.from c.requires c.if-from-self.false in
    let end : length c.self.inside.words.items ≤ c.first_set-next.result = search rules in
    found_nowhere c.self.inside c.self.view_is c.self.invariant c.args.from lt c.first_bit-bit.result c.index.result.now c.index.ensures c.first_bit-bit.ensures c.if-bit-lt64.false c.deref.result.now c.deref.ensures.value c.first_set-next.result c.first_set-next.ensures end

pub overflow_cast-result-3 : goal.overflow_cast-result-3
overflow_cast-result-3 c =
    let lt = begins c.self.inside c.self.view_is c.self.invariant c.args.from c.requires c.if-from-self.false in
    let inside : c.first_set-next.result < length c.self.inside.words.items = search rules in
    let fits : c.index-2.result.now < 2 ^ 64 = search rules in
    let found = found_later c.self.inside c.self.view_is c.self.invariant c.args.from lt c.first_bit-bit.result c.index.result.now c.index.ensures c.first_bit-bit.ensures c.if-bit-lt64.false c.deref.result.now c.deref.ensures.value c.first_set-next.result c.first_set-next.ensures inside c.index-2.result.now c.index-2.ensures fits c.first_bit-bit-2.result c.first_bit-bit-2.ensures in
    let below : 64 * c.first_set-next.result + c.first_bit-bit-2.result < c.self.inside.slots = found.1 in
    let small : c.self.inside.slots < 2 ^ 32 = search rules in
    omega arith

pub returns : goal.returns
returns c =
    let lt = begins c.self.inside c.self.view_is c.self.invariant c.args.from c.requires c.if-from-self.false in
    let inside : c.first_set-next.result < length c.self.inside.words.items = search rules in
    let fits : c.index-2.result.now < 2 ^ 64 = search rules in
    (found_later c.self.inside c.self.view_is c.self.invariant c.args.from lt c.first_bit-bit.result c.index.result.now c.index.ensures c.first_bit-bit.ensures c.if-bit-lt64.false c.deref.result.now c.deref.ensures.value c.first_set-next.result c.first_set-next.ensures inside c.index-2.result.now c.index-2.ensures fits c.first_bit-bit-2.result c.first_bit-bit-2.ensures).0
