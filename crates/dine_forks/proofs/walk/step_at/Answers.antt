use Rattle.dine_forks.proofs.Lemmas.{◌≡◌, Count, IsTiedBut, List, Some, both-same, can-count, is_first, other_end, subst, dirtied, false, false≢true, is_reached, owns, seen-alike, put-seen-at, put-tied, refl, ap, sym, ◌∙◌, arith, book_with_fork, seen_book, other_end_of_used, holder-within, kept-seen, rests, runs}
use Rattle.dine_forks.proofs.Walks.{found-used}
use Rattle.dine_forks.proofs.walk.step_at.Given.{Over}
use Rattle.dine_forks.proofs.walk.step_at.Goals.{After-is_reached, After-record-visited}
use Rattle.dine_forks.proofs.walk.step_at.Goals as goal

pub record-visited-requires : goal.record-visited-requires
record-visited-requires g c = found-used c.args.at.now.id c.args.lists.now.records c.args.at.now.visited c.requires.can.can.listed.found

-- the record is as it was read before
same : (g : Over) (c : After-record-visited g) → c.record-visited.result ≡ c.args.at.now.visited
same g c = let k : Some c.record-visited.result ≡ Some c.args.at.now.visited = sym c.record-visited.ensures.found ∙ c.requires.can.can.listed.found in cc

pub seen-requires : goal.seen-requires
seen-requires g c =
    let at = c.args.at.now in
    rw c.requires.can.can.tied.marked (holder-within c.args.lists.now.slots at.id c.args.lists.now.records c.record-visited.result c.are_sound.ensures.ends_are_slots c.record-visited.ensures.found)

pub sent-sent-requires-clause-other : goal.sent-sent-requires-clause-other
sent-sent-requires-clause-other g c =
    let at = c.args.at.now in
    let below = other_end_of_used c.args.lists.now.slots at.slot at.id c.args.lists.now.records at.visited c.are_sound.ensures.ends_are_slots c.requires.can.can.listed.found in
    rw c.other.ensures (omega (arith, below, c.requires.known))

pub is_reached-requires : goal.is_reached-requires
is_reached-requires g c = found-used c.args.at.now.id c.args.lists.now.records c.args.at.now.visited c.requires.can.can.listed.found

-- the walk has to do with the record by its fork
told : (g : Over) (c : After-is_reached g) → c.is_reached.result ≡ is_reached c.reach.result c.is_first.result c.args.at.now.visited.fork
told g c = rw c.requires.can.can.listed.found at c.is_reached.ensures

pub returns-then-is_reached : goal.returns-then-is_reached
returns-then-is_reached g c =
    let at = c.args.at.now in let reach = g.R.Rules.reach c.args.rules.now in let forks = g.R.Rules.forks c.args.rules.now in
    let is = runs at.owes reach forks at.slot c.args.marks.now at.visited c.is_first.result (c.is_first.ensures ∙ c.requires.can.can.end) (rw (← c.reach.ensures) (sym (told g (goal.at.returns-then-is_reached g c).After-is_reached) ∙ c.if-is_reached.true)) in
    record {
      tied = c.send.ensures.tied;
      slots = c.send.ensures.slots;
      off = c.send.ensures.off;
      book = c.send.ensures.book ∙ ap (λ f. book_with_fork at.id f (seen_book c.args.marks.now c.args.lists.now)) (c.sent-sent.ensures ∙ rw (c.is_first.ensures, c.other.ensures, c.met-fork.ensures, c.seen.ensures, same g (goal.at.returns-then-is_reached g c).After-record-visited) refl ∙ sym is.0);
      told = sym is.1;
      next = c.onward-onward.ensures;
    }

pub soil-requires : goal.soil-requires
soil-requires g c = found-used c.args.at.now.id c.args.lists.now.records c.args.at.now.visited c.requires.can.can.listed.found

-- a fork that gets dirty stays where it is
pub returns-then-at : goal.returns-then-at
returns-then-at g c =
    let at = c.args.at.now in let reach = g.R.Rules.reach c.args.rules.now in let forks = g.R.Rules.forks c.args.rules.now in
    let here = (goal.at.returns-then-at g c).After-is_reached in let same = seen-alike c.args.lists.now c.args.marks.now in let sound = c.are_sound.ensures in let can = c.requires.can.can in
    let dirty = rw can.listed.found at c.soil.ensures in
    let is = owns at.owes reach forks at.slot c.args.marks.now at.visited c.is_first.result (c.is_first.ensures ∙ can.end) (rw (← c.reach.ensures) (sym (told g here) ∙ c.if-is_reached.false)) c.if-at.true in
    record {
      tied =
          rw dirty
          (subst (λ (cs : List Count). IsTiedBut at.slot (book_with_fork at.id (dirtied at.visited.fork) c.args.lists.now) cs c.args.marks.now c.args.lacking.now)
          (both-same (is_first at.end) at.slot (other_end at.slot at.visited) at.visited.fork c.args.counts.now (can-count at c.args.lists.now c.args.counts.now c.args.marks.now c.args.lacking.now sound can at.visited.fork record { at = refl; token = refl }))
          (put-tied at c.args.lists.now c.args.counts.now c.args.marks.now c.args.lacking.now sound can c.args.lists.now c.args.marks.now same sound (dirtied at.visited.fork)
          at.visited.fork record { at = refl; token = refl } false (λ lacked has. sym has ∙ lacked)));
      slots = rw dirty refl;
      off = λ is. is;
      book =
          rw dirty
          (put-seen-at at c.args.lists.now c.args.counts.now c.args.marks.now c.args.lacking.now sound can c.args.lists.now c.args.marks.now same sound (dirtied at.visited.fork) (λ clean. absurd (false≢true (sym clean))))
          ∙ ap (λ f. book_with_fork at.id f (seen_book c.args.marks.now c.args.lists.now)) (sym is.0);
      told = sym is.1;
      next = c.onward-onward.ensures;
    }

pub returns-else-at : goal.returns-else-at
returns-else-at g c =
    let at = c.args.at.now in let reach = g.R.Rules.reach c.args.rules.now in let forks = g.R.Rules.forks c.args.rules.now in
    let is = rests at.owes reach forks at.slot c.args.marks.now at.visited c.is_first.result (c.is_first.ensures ∙ c.requires.can.can.end) (rw (← c.reach.ensures) (sym (told g (goal.at.returns-else-at g c).After-is_reached) ∙ c.if-is_reached.false)) c.if-at.false in
    record {
      tied = c.requires.can.can.tied;
      slots = refl;
      off = λ is. is;
      book = rw is.0 (kept-seen c.args.marks.now c.args.lists.now at.id at.visited c.are_sound.ensures.each_id_once c.requires.can.can.listed.found);
      told = sym is.1;
      next = c.onward-onward.ensures;
    }
