use Rattle.std.proofs.Common.{length, map, refl, ap, subst, sym, ◌∙◌, arith}
use Rattle.std.specs.List.{AllByRecursion}
use Rattle.dine_table.specs.Table.{neighbours_of}
use Rattle.dine_forks.specs.Book.{slot_list}
use Rattle.dine_forks.proofs.CallerLemmas.{IsWalk, at-record, rest-start, rest_of, walk-start}
use Rattle.dine_arbiter.proofs.CallerLemmas.{read_on, shorter}
use Rattle.dine_bars.specs.Begun.{seated_at}
use Rattle.dine_bars.specs.Marks.{LooksAt}
use Rattle.dine_bars.proofs.Beside.{IsBeside, beside-count, beside_at, neighbours-by_slot, neighbours_beside}
use Rattle.dine_bars.proofs.CalmAfter.{looks_around}
use Rattle.dine_bars.proofs.Looking.{IsLooking, looking-end, looking-on}
use Rattle.dine_bars.proofs.look.look_around.Goals as goal

pub loop-next-init : goal.loop-next-init
loop-next-init c =
    let t = c.args.arbiter.now.table in
    let u = c.args.task in
    let rs = c.book-book.result.now.records in
    let kept = c.requires.calm.kept in
    let start = c.first_of-next.ensures.first in
    let rest = ap (λ o. rest_of o (slot_list u.slot rs)) start ∙ rest-start u.slot rs in
    let near = neighbours-by_slot t kept.seated kept.sound u c.requires.calm.here rs c.book-book.ensures.ends in
    let all = beside-count t kept.seated kept.sound u c.requires.calm.here rs c.book-book.ensures.ends in
    let count = ap length rest in
    record {
      walk = subst (λ o. IsWalk u.slot o rs) (sym start) (walk-start u.slot rs c.len.ensures.sound.each_id_once);
      looking = subst (λ us. IsLooking c.args.call c.args.place t u c.args.kind c.args.begun.now.items c.args.marks.now.items (neighbours_of t u) us c.args.begun.now.items c.args.marks.now.items) (near ∙ ap (map (beside_at t u)) (sym rest)) record {
        beside = neighbours_beside t u t.conflicts kept.sound.ends_present kept.sound.ends_differ;
        kept = kept;
        calm = c.requires.calm.calm;
        begun_all = refl;
        ended_all = refl;
      };
      len = omega arith;
      room = refl;
    }

pub visit-visit-requires : goal.visit-visit-requires
visit-visit-requires c = let (r, v) = at-record c.args.task.slot c.in-Some.id c.loop-next.next c.book-book.result.now.records c.in-Some.is c.loop-next.invariant.walk in v.listed

pub look_at-requires-clause-room : goal.look_at-requires-clause-room
look_at-requires-clause-room c =
    let split = ap length (read_on c.args.task.slot c.in-Some.id c.loop-next.next c.visit-visit.result.next c.book-book.result.now.records c.visit-visit.result.record c.in-Some.is c.loop-next.invariant.walk c.visit-visit.ensures.visited.found c.visit-visit.ensures.next).1 in
    let fits = c.requires.room in
    let so_far = c.loop-next.invariant.len in
    let capacity = c.loop-next.invariant.room in
    omega arith

pub look_at-requires-clause-kept : goal.look_at-requires-clause-kept
look_at-requires-clause-kept c = c.loop-next.invariant.looking.kept

pub look_at-requires-clause-calm : goal.look_at-requires-clause-calm
look_at-requires-clause-calm c =
    let t = c.args.arbiter.now.table in
    let u = c.args.task in
    let looking = c.loop-next.invariant.looking in
    let other = c.visit-visit.ensures.visited.other in
    let split = (read_on u.slot c.in-Some.id c.loop-next.next c.visit-visit.result.next c.book-book.result.now.records c.visit-visit.result.record c.in-Some.is c.loop-next.invariant.walk c.visit-visit.ensures.visited.found c.visit-visit.ensures.next).1 in
    let beside = subst (λ l. AllByRecursion (IsBeside t u) (map (beside_at t u) l)) split looking.beside in
    looking.calm (seated_at t.order c.visit-visit.result.other) (rw other beside.0.1)

pub loop-next-smaller : goal.loop-next-smaller
loop-next-smaller c = shorter _ _ _ (read_on c.args.task.slot c.in-Some.id c.loop-next.next c.visit-visit.result.next c.book-book.result.now.records c.visit-visit.result.record c.in-Some.is c.loop-next.invariant.walk c.visit-visit.ensures.visited.found c.visit-visit.ensures.next).1

pub loop-next-preserved : goal.loop-next-preserved
loop-next-preserved c =
    let t = c.args.arbiter.now.table in
    let u = c.args.task in
    let rs = c.book-book.result.now.records in
    let r = c.visit-visit.result.record in
    let onward = read_on u.slot c.in-Some.id c.loop-next.next c.visit-visit.result.next rs r c.in-Some.is c.loop-next.invariant.walk c.visit-visit.ensures.visited.found c.visit-visit.ensures.next in
    let begun = c.loop-next.begun.items in
    let first = c.args.begun.now.items in
    let before = c.args.marks.now.items in
    let all = neighbours_of t u in
    let rest = map (beside_at t u) (rest_of c.visit-visit.result.next (slot_list u.slot rs)) in
    let looking = subst (λ l. IsLooking c.args.call c.args.place t u c.args.kind first before all (map (beside_at t u) l) begun c.loop-next.marks.items) onward.1 c.loop-next.invariant.looking in
    let looked = subst (λ s. LooksAt c.args.call c.args.place t (seated_at t.order s) begun c.look_at.new.begun.items c.loop-next.marks.items c.look_at.new.marks.items) c.visit-visit.ensures.visited.other c.look_at.ensures.looked in
    let split = ap length onward.1 in
    let so_far = c.loop-next.invariant.len in
    let more = c.look_at.ensures.len in
    record {
      walk = onward.0;
      looking = looking-on c.args.call c.args.place t u c.args.kind first before all (beside_at t u r) rest begun c.look_at.new.begun.items c.loop-next.marks.items c.look_at.new.marks.items c.requires.hunger looking looked;
      len = omega arith;
      room = c.look_at.ensures.room ∙ c.loop-next.invariant.room;
    }

pub look-requires : goal.look-requires
look-requires c =
    let room = c.requires.room in
    let so_far = c.loop-next.invariant.len in
    let capacity = c.loop-next.invariant.room in
    omega arith

pub returns : goal.returns
returns c =
    let t = c.args.arbiter.now.table in
    let u = c.args.task in
    let first = c.args.begun.now.items in
    let before = c.args.marks.now.items in
    let begun = c.loop-next.begun.items in
    let marks = c.loop-next.marks.items in
    let looking = subst (λ o. IsLooking c.args.call c.args.place t u c.args.kind first before (neighbours_of t u) (map (beside_at t u) (rest_of o (slot_list u.slot c.book-book.result.now.records))) begun marks) c.in_default.is c.loop-next.invariant.looking in
    looks_around c.args.call c.args.place t u c.requires.calm.here first begun c.look.new.begun.items before marks c.look.new.marks.items (looking-end c.args.call c.args.place t u c.args.kind first before (neighbours_of t u) begun marks looking) c.look.ensures.looked
