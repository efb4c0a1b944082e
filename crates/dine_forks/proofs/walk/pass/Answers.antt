use Rattle.dine_forks.proofs.Lemmas.{CanCount, ◌∙◌, false, not, sym, count_at, get_or-set_same, length-set, no_count, other_end, recounted, set, is_first, can-count, gains-is, other-in, put-seen-at, put-tied, put-used, seen-sided}
use Rattle.dine_forks.proofs.walk.pass.Goals.{After-are_sound}
use Rattle.dine_forks.proofs.walk.pass.Goals as goal

-- what is told of both counts
told : (c : After-are_sound) → CanCount (is_first c.args.at.now.end) c.args.at.now.slot (other_end c.args.at.now.slot c.args.at.now.visited) c.args.had c.args.counts.now
told c = can-count c.args.at.now c.args.lists.now c.args.counts.now c.args.marks.now c.args.lacking.now c.are_sound.ensures c.requires.can c.args.had (rw c.requires.had (seen-sided c.args.marks.now c.args.at.now.visited))

pub put-requires-clause-used : goal.put-requires-clause-used
put-requires-clause-used c =
    put-used c.args.at.now c.args.lists.now c.args.counts.now c.args.marks.now c.args.lacking.now c.are_sound.ensures c.requires.can c.make_end_ready.new.lists c.make_end_ready.new.marks c.make_end_ready.ensures.same c.are_sound-2.ensures c.after-fork.result

pub put-requires-clause-can : goal.put-requires-clause-can
put-requires-clause-can c = told (goal.at.put-requires-clause-can c).After-are_sound

pub bounds-counts-other : goal.bounds-counts-other
bounds-counts-other c =
    let t = told (goal.at.bounds-counts-other c).After-are_sound in let slot = c.args.at.now.slot in let other = other_end slot c.args.at.now.visited in let counts = c.args.counts.now in
    let long = length-set (set counts slot (recounted (is_first c.args.at.now.end) c.args.had c.after-fork.result (count_at counts slot))) other (recounted (not (is_first c.args.at.now.end)) c.args.had c.after-fork.result (count_at counts other)) ∙ length-set counts slot _ in
    rw (c.other-other.ensures, c.put.ensures.counts, long) t.there.within

pub relieve-requires : goal.relieve-requires
relieve-requires c =
    let listed = sym (length-set c.args.lacking.now c.args.at.now.slot false) ∙ c.requires.can.tied.listed in
    rw (c.other-other.ensures, listed) (other-in c.args.at.now c.args.lists.now c.args.counts.now c.args.marks.now c.args.lacking.now c.are_sound.ensures c.requires.can)

pub returns : goal.returns
returns c =
    let at = c.args.at.now in let counts = c.args.counts.now in let other = other_end at.slot at.visited in let t = told (goal.at.returns c).After-are_sound in
    let one = set counts at.slot (recounted (is_first at.end) c.args.had c.after-fork.result (count_at counts at.slot)) in
    let here = get_or-set_same one other (recounted (not (is_first at.end)) c.args.had c.after-fork.result (count_at counts other)) no_count (rw (length-set counts at.slot _) t.there.within) in
    record {
      tied =
          rw (c.put.ensures.written, c.relieve.ensures, c.other-other.ensures, c.put.ensures.counts, here, c.is_first-first.ensures)
          (put-tied at c.args.lists.now counts c.args.marks.now c.args.lacking.now c.are_sound.ensures c.requires.can c.make_end_ready.new.lists c.make_end_ready.new.marks c.make_end_ready.ensures.same c.are_sound-2.ensures c.after-fork.result
          c.args.had (rw c.requires.had (seen-sided c.args.marks.now at.visited)) _ (gains-is (is_first at.end) c.args.had c.after-fork.result));
      slots = rw c.put.ensures.written c.make_end_ready.ensures.same.slots;
      off = c.make_end_ready.ensures.off;
      book =
          rw (c.put.ensures.written, ← c.after-fork.ensures)
          (put-seen-at at c.args.lists.now counts c.args.marks.now c.args.lacking.now c.are_sound.ensures c.requires.can c.make_end_ready.new.lists c.make_end_ready.new.marks c.make_end_ready.ensures.same c.are_sound-2.ensures c.after-fork.result
          c.make_end_ready.ensures.ready);
    }
