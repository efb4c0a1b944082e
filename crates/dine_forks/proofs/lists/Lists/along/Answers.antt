use Rattle.dine_forks.proofs.Lemmas.{◌≢◌, ◌+◌, ◌<◌, length, sym, ◌∙◌, arith, other_end, slot_list, Visits, at-record, at-visit, rest_of, ends_of_used, IsSearching, few_read, other-is-first, other-is-second, search-ends, search-goes_on, search-start}
use Rattle.dine_forks.proofs.lists.Lists.along.Goals.{After-record-record, After-next_of-next, After-next_of-next-else-slot-record}
use Rattle.dine_forks.proofs.lists.Lists.along.Goals as goal

pub loop-next-init : goal.loop-next-init
loop-next-init c = grind (arith, search-start c.args.slot c.args.other c.args.self.now.records)

pub overflow_add-read : goal.overflow_add-read
overflow_add-read c = grind (arith, few_read c.args.slot c.args.other c.loop-next.read)

pub record-record-requires : goal.record-record-requires
record-record-requires c = let (r, v) = at-record c.args.slot c.in-Some.id c.loop-next.next c.args.self.now.records c.in-Some.is c.loop-next.invariant.walk in v.used

-- the walk is at the record that is read
visits : (c : After-record-record) → Visits c.args.slot c.in-Some.id c.args.self.now.records c.record-record.result
visits c = at-visit c.args.slot c.in-Some.id c.loop-next.next c.args.self.now.records c.record-record.result c.in-Some.is c.loop-next.invariant.walk c.record-record.ensures.found

-- whose ends differ
differ : (c : After-record-record) → c.record-record.result.first ≢ c.record-record.result.second
differ c = (ends_of_used c.args.self.now.slots c.in-Some.id c.args.self.now.records c.record-record.result c.record-record.ensures.sound.ends_are_slots c.record-record.ensures.found).differ

pub returns-then-record-other : goal.returns-then-record-other
returns-then-record-other c =
    let at = (goal.at.returns-then-record-other c).After-record-record in
    let ends = search-ends c.args.slot c.args.other c.loop-next.read c.in-Some.id c.loop-next.next c.args.self.now.records c.record-record.result c.in-Some.is (visits at) c.loop-next.invariant (differ at) (other-is-second c.args.slot c.record-record.result c.if-slot-record.true ∙ c.if-record-other.true) in
    record { found = ends.0; counted = ends.1 }

pub returns-then-record-other-2 : goal.returns-then-record-other-2
returns-then-record-other-2 c =
    let at = (goal.at.returns-then-record-other-2 c).After-record-record in
    let ends = search-ends c.args.slot c.args.other c.loop-next.read c.in-Some.id c.loop-next.next c.args.self.now.records c.record-record.result c.in-Some.is (visits at) c.loop-next.invariant (differ at) (other-is-first c.args.slot c.record-record.result c.if-slot-record.false ∙ c.if-record-other-2.true) in
    record { found = ends.0; counted = ends.1 }

pub next_of-next-requires : goal.next_of-next-requires
next_of-next-requires c = let (r, v) = at-record c.args.slot c.in-Some.id c.loop-next.next c.args.self.now.records c.in-Some.is c.loop-next.invariant.walk in v.listed

pub next_of-next-requires-else-slot-record : goal.next_of-next-requires-else-slot-record
next_of-next-requires-else-slot-record c = let (r, v) = at-record c.args.slot c.in-Some.id c.loop-next.next c.args.self.now.records c.in-Some.is c.loop-next.invariant.walk in v.listed

-- a search that has not found the other slot goes on behind the record, of which the slot is the first end
on_first : (c : After-next_of-next) → IsSearching c.args.slot c.args.other (c.loop-next.read + 1) c.next_of-next.result c.args.self.now.records
    × (length (rest_of c.next_of-next.result (slot_list c.args.slot c.args.self.now.records)) < length (rest_of c.loop-next.next (slot_list c.args.slot c.args.self.now.records)))
on_first c =
    let r = c.record-record.result in let found = c.record-record.ensures.found in let rs = c.args.self.now.records in
    let here = at-visit c.args.slot c.in-Some.id c.loop-next.next rs r c.in-Some.is c.loop-next.invariant.walk found in
    let ends = ends_of_used c.args.self.now.slots c.in-Some.id rs r c.record-record.ensures.sound.ends_are_slots found in
    let apart : other_end c.args.slot r ≢ c.args.other = λ same. c.if-record-other.false (sym (other-is-second c.args.slot r c.if-slot-record.true) ∙ same) in
    search-goes_on c.args.slot c.args.other c.loop-next.read c.in-Some.id c.loop-next.next c.next_of-next.result rs r c.in-Some.is here c.loop-next.invariant ends.differ apart (c.next_of-next.ensures)

pub loop-next-smaller-then-slot-record : goal.loop-next-smaller-then-slot-record
loop-next-smaller-then-slot-record c = (on_first (goal.at.loop-next-smaller-then-slot-record c).After-next_of-next).1

pub loop-next-preserved-then-slot-record : goal.loop-next-preserved-then-slot-record
loop-next-preserved-then-slot-record c = (on_first (goal.at.loop-next-preserved-then-slot-record c).After-next_of-next).0

-- or of which it is the second
on_second : (c : After-next_of-next-else-slot-record) → IsSearching c.args.slot c.args.other (c.loop-next.read + 1) c.next_of-next-else-slot-record.result c.args.self.now.records
    × (length (rest_of c.next_of-next-else-slot-record.result (slot_list c.args.slot c.args.self.now.records)) < length (rest_of c.loop-next.next (slot_list c.args.slot c.args.self.now.records)))
on_second c =
    let r = c.record-record.result in let found = c.record-record.ensures.found in let rs = c.args.self.now.records in
    let here = at-visit c.args.slot c.in-Some.id c.loop-next.next rs r c.in-Some.is c.loop-next.invariant.walk found in
    let ends = ends_of_used c.args.self.now.slots c.in-Some.id rs r c.record-record.ensures.sound.ends_are_slots found in
    let apart : other_end c.args.slot r ≢ c.args.other = λ same. c.if-record-other-2.false (sym (other-is-first c.args.slot r c.if-slot-record.false) ∙ same) in
    search-goes_on c.args.slot c.args.other c.loop-next.read c.in-Some.id c.loop-next.next c.next_of-next-else-slot-record.result rs r c.in-Some.is here c.loop-next.invariant ends.differ apart (c.next_of-next-else-slot-record.ensures)

pub loop-next-smaller : goal.loop-next-smaller
loop-next-smaller c = (on_second (goal.at.loop-next-smaller c).After-next_of-next-else-slot-record).1

pub loop-next-preserved : goal.loop-next-preserved
loop-next-preserved c = (on_second (goal.at.loop-next-preserved c).After-next_of-next-else-slot-record).0
