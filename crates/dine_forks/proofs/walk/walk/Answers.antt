use Rattle.dine_forks.proofs.Lemmas.{◌+◌, one_if, HasEndedMark, rules, ◌<◌, ended-met, ended-tied, ended-walked, owed_at, owed_fork, idle, times_walked, walked-seen, walked-start, ForkRecord, List, false, and_parts, list_all, is_met_at, ◌∷◌, ◌≡◌, length, refl, sym, ap, ◌∙◌, arith, sum_by, length-set, sum_by-cons, is_end, reached, slot_list, seen_book, seen_record, first-seen, is_in_use-seen, listed-seen, once-seen, seen_all, seen-same, settled, taken-out, all-goes_on, found-seen, seen-on, walk-idle, IsChanging, Visits, at-record, at-visit, changing-goes_on, changing-start, goes-on_some, length-goes_on, some-goes_on, some-start, rest_of, rest-start, sum-goes_on}
use Rattle.dine_forks.proofs.walk.walk.Given.{Over}
use Rattle.dine_forks.proofs.walk.walk.Goals.{After-record-visited, After-step-hit}
use Rattle.dine_forks.proofs.walk.walk.Goals as goal

pub to_do-requires-clause-count : goal.to_do-requires-clause-count
to_do-requires-clause-count g c = c.requires.tied.counted c.args.slot c.requires.within

pub to_do-left-requires-clause-count : goal.to_do-left-requires-clause-count
to_do-left-requires-clause-count g c = c.requires.tied.counted c.args.slot c.requires.within

pub loop-next-init : goal.loop-next-init
loop-next-init g c =
    let reach = g.R.Rules.reach c.args.rules.now in let forks = g.R.Rules.forks c.args.rules.now in
    let slot = c.args.slot in let lists = c.args.lists.now in let marks = c.end_mark-owes.new.marks in let seen = seen_all marks lists.records in
    let owes = c.end_mark-owes.result in let below : slot < length c.args.marks.now = rw c.requires.tied.marked c.requires.within in
    let ended : HasEndedMark reach slot c.args.marks.now marks owes = rw (← c.reach-reach.ensures) c.end_mark-owes.ensures in
    let left : sum_by (times_walked owes reach slot) (slot_list slot lists.records) ≡ c.to_do-left.result = rw (← c.reach-reach.ensures) (sym c.to_do-left.ensures) in
    let first = c.first_of-next.ensures.first ∙ sym (first-seen marks slot lists.records) in
    let sound = c.first_of-next.ensures.sound in
    let rest : rest_of c.first_of-next.result (slot_list slot seen) ≡ slot_list slot seen = ap (λ o. rest_of o (slot_list slot seen)) first ∙ rest-start slot seen in
    record {
      changing = changing-start slot (owed_fork owes reach forks slot) (owed_at owes reach forks slot) c.first_of-next.result (seen_book marks lists) (once-seen marks lists.records sound.each_id_once) first refl;
      tied = taken-out lists c.args.counts.now marks c.args.lacking.now slot c.requires.within (ended-tied reach slot lists c.args.marks.now marks owes ended below c.are_sound.ensures c.args.counts.now c.args.lacking.now c.requires.tied);
      own = λ is. c.end_mark-owes.ensures.off (search rules);
      left = ap (sum_by (times_walked owes reach slot)) rest ∙ walked-start owes reach slot c.to_do-left.result marks lists left;
      some = some-start reach slot lists.records c.to_do.result c.to_do-left.result owes (rw (← c.reach-reach.ensures) c.to_do.ensures) left c.if-to_do-eq0.false c.first_of-next.result;
      met = ap (list_all (is_met_at reach (g.R.Rules.meets c.args.rules.now) slot)) rest ∙ ended-met reach slot lists c.args.marks.now marks owes ended below c.are_sound.ensures (g.R.Rules.meets c.args.rules.now) c.requires.met;
    }

pub record-visited-requires : goal.record-visited-requires
record-visited-requires g c =
    let rs = c.loop-next.lists.records in let marks = c.loop-next.marks in
    let (r, v) = at-record c.args.slot c.in-Some.id c.loop-next.next (seen_all marks rs) c.in-Some.is c.loop-next.invariant.changing.walk in
    sym (is_in_use-seen marks c.in-Some.id rs) ∙ v.used

-- the walk visits the record that was read
visits : (g : Over) (c : After-record-visited g) → Visits c.args.slot c.in-Some.id (seen_all c.loop-next.marks c.loop-next.lists.records) (seen_record c.loop-next.marks c.record-visited.result)
visits g c =
    let rs = c.loop-next.lists.records in let marks = c.loop-next.marks in let r = c.record-visited.result in
    at-visit c.args.slot c.in-Some.id c.loop-next.next (seen_all marks rs) (seen_record marks r) c.in-Some.is c.loop-next.invariant.changing.walk (found-seen marks c.in-Some.id rs r c.record-visited.ensures.found)

pub step-hit-requires-clause-can : goal.step-hit-requires-clause-can
step-hit-requires-clause-can g c =
    let reach = g.R.Rules.reach c.args.rules.now in
    let rs = c.loop-next.lists.records in let marks = c.loop-next.marks in let slot = c.args.slot in
    let r = c.record-visited.result in let v = visits g (goal.at.step-hit-requires-clause-can g c).After-record-visited in
    let list = slot_list slot (seen_all marks rs) in
    let rest = ap (λ o. rest_of o list) c.in-Some.is ∙ v.rest in
    record {
      can = record {
        end = c.end_of-end.ensures;
        listed = record { listed = sym (listed-seen marks slot c.in-Some.id rs) ∙ v.listed; found = c.record-visited.ensures.found; ends = sym (seen-same (is_end slot) marks r refl) ∙ v.ends };
        tied = c.loop-next.invariant.tied;
        own = c.loop-next.invariant.own;
      };
      met = (and_parts _ _ (sym (ap (list_all (is_met_at reach (g.R.Rules.meets c.args.rules.now) slot)) rest) ∙ c.loop-next.invariant.met)).0;
    }

pub step-hit-requires-clause-known : goal.step-hit-requires-clause-known
step-hit-requires-clause-known g c = rw c.loop-next.invariant.changing.slots c.requires.known

-- a step goes on behind that record
goes : (g : Over) (c : After-step-hit g) → let slot = c.args.slot in let reach = g.R.Rules.reach c.args.rules.now in let forks = g.R.Rules.forks c.args.rules.now in let next = reached c.step-hit.new.lists c.step-hit.result.0 in
    IsChanging slot (owed_fork c.end_mark-owes.result reach forks slot) (owed_at c.end_mark-owes.result reach forks slot) next (seen_book c.step-hit.new.marks c.step-hit.new.lists) (seen_book c.end_mark-owes.new.marks c.args.lists.now)
    × (rest_of c.loop-next.next (slot_list slot (seen_all c.loop-next.marks c.loop-next.lists.records)) ≡ seen_record c.loop-next.marks c.record-visited.result ∷ rest_of next (slot_list slot (seen_all c.step-hit.new.marks c.step-hit.new.lists.records)))
goes g c =
    let reach = g.R.Rules.reach c.args.rules.now in let forks = g.R.Rules.forks c.args.rules.now in let slot = c.args.slot in
    seen-on slot (owed_fork c.end_mark-owes.result reach forks slot) (owed_at c.end_mark-owes.result reach forks slot) c.in-Some.id c.loop-next.next _ c.loop-next.marks c.step-hit.new.marks c.loop-next.lists _ _ c.record-visited.result _ c.loop-next.invariant.changing c.in-Some.is c.record-visited.ensures.found c.step-hit.ensures.book refl c.step-hit.ensures.next

-- and with the record it has so many to do with
left : (g : Over) (c : After-step-hit g) → let slot = c.args.slot in let reach = g.R.Rules.reach c.args.rules.now in
    sum_by (times_walked c.end_mark-owes.result reach slot) (rest_of (reached c.step-hit.new.lists c.step-hit.result.0) (slot_list slot (seen_all c.step-hit.new.marks c.step-hit.new.lists.records))) + one_if c.step-hit.result.1 ≡ c.loop-next.left
left g c =
    let slot = c.args.slot in let reach = g.R.Rules.reach c.args.rules.now in let r = c.record-visited.result in
    let sum = ap (sum_by (times_walked c.end_mark-owes.result reach slot)) (goes g c).1 ∙ sum_by-cons (times_walked c.end_mark-owes.result reach slot) (seen_record c.loop-next.marks r) (rest_of (reached c.step-hit.new.lists c.step-hit.result.0) (slot_list slot (seen_all c.step-hit.new.marks c.step-hit.new.lists.records))) in
    omega (arith, sum, c.loop-next.invariant.left, c.step-hit.ensures.told, walked-seen c.end_mark-owes.result reach slot c.loop-next.marks r)

pub goes_on-next-requires-clause-some : goal.goes_on-next-requires-clause-some
goes_on-next-requires-clause-some g c = rw c.in-Some.is at c.loop-next.invariant.some

pub goes_on-next-requires-clause-more : goal.goes_on-next-requires-clause-more
goes_on-next-requires-clause-more g c =
    let all = left g (goal.at.goes_on-next-requires-clause-more g c).After-step-hit in
    λ some. goes-on_some (times_walked c.end_mark-owes.result (g.R.Rules.reach c.args.rules.now) c.args.slot) _ _ _ (slot_list c.args.slot (seen_all c.step-hit.new.marks c.step-hit.new.lists.records)) refl (omega (arith, all, some))

pub loop-next-smaller : goal.loop-next-smaller
loop-next-smaller g c =
    let shorter = ap length (goes g (goal.at.loop-next-smaller g c).After-step-hit).1 in
    let most = length-goes_on c.goes_on-next.new.left (reached c.step-hit.new.lists c.step-hit.result.0) (slot_list c.args.slot (seen_all c.step-hit.new.marks c.step-hit.new.lists.records)) in
    rw c.goes_on-next.ensures.next (omega arith)

pub loop-next-preserved : goal.loop-next-preserved
loop-next-preserved g c =
    let slot = c.args.slot in let reach = g.R.Rules.reach c.args.rules.now in let forks = g.R.Rules.forks c.args.rules.now in
    let meets = g.R.Rules.meets c.args.rules.now in
    let at = goal.at.loop-next-preserved g c in
    let on = goes g at.After-step-hit in let all = left g at.After-step-hit in
    let next = reached c.step-hit.new.lists c.step-hit.result.0 in let count = c.goes_on-next.new.left in
    let after = slot_list slot (seen_all c.step-hit.new.marks c.step-hit.new.lists.records) in
    let is : sum_by (times_walked c.end_mark-owes.result reach slot) (rest_of next after) ≡ count = omega (arith, all, c.goes_on-next.ensures.left) in
    rw c.goes_on-next.ensures.next record {
      changing = changing-goes_on slot (times_walked c.end_mark-owes.result reach slot) (owed_fork c.end_mark-owes.result reach forks slot) (owed_at c.end_mark-owes.result reach forks slot) count next _ _ (idle c.end_mark-owes.result reach forks slot) is on.0;
      tied = c.step-hit.ensures.tied;
      own = λ is. c.step-hit.ensures.off (c.loop-next.invariant.own is);
      left = sum-goes_on (times_walked c.end_mark-owes.result reach slot) (times_walked c.end_mark-owes.result reach slot) count next after (λ r e. e) is ∙ is;
      some = some-goes_on count next;
      met = all-goes_on (is_met_at reach meets slot) count next after (and_parts _ _ (sym (ap (list_all (is_met_at reach meets slot)) on.1) ∙ c.loop-next.invariant.met)).1;
    }

pub settle-requires-clause-slot : goal.settle-requires-clause-slot
settle-requires-clause-slot g c = rw (c.loop-next.invariant.tied.places, c.loop-next.invariant.changing.slots) c.requires.within

pub settle-requires-clause-place : goal.settle-requires-clause-place
settle-requires-clause-place g c = rw (sym (length-set c.loop-next.lacking c.args.slot false) ∙ c.loop-next.invariant.tied.listed, c.loop-next.invariant.changing.slots) c.requires.within

pub returns : goal.returns
returns g c =
    let reach = g.R.Rules.reach c.args.rules.now in let forks = g.R.Rules.forks c.args.rules.now in
    let slot = c.args.slot in let lists = c.args.lists.now in let marks = c.end_mark-owes.new.marks in let owes = c.end_mark-owes.result in
    let below : slot < length c.args.marks.now = rw c.requires.tied.marked c.requires.within in
    let ended : HasEndedMark reach slot c.args.marks.now marks owes = rw (← c.reach-reach.ensures) c.end_mark-owes.ensures in
    let ch = rw c.in_default.is at c.loop-next.invariant.changing in
    record {
      tied = rw c.settle.ensures (settled c.loop-next.lists c.loop-next.counts c.loop-next.marks c.loop-next.lacking slot c.reach-reach.result c.loop-next.invariant.tied);
      slots = ch.slots;
      book = (λ i. record { slots = ch.slots i; room = ch.room i; records = (ch.records ∙ ended-walked reach slot lists c.args.marks.now marks owes ended below c.are_sound.ensures forks) i });
    }

pub returns-then-to_do-eq0 : goal.returns-then-to_do-eq0
returns-then-to_do-eq0 g c =
    let reach = g.R.Rules.reach c.args.rules.now in let slot = c.args.slot in
    let seen = seen_book c.args.marks.now c.args.lists.now in
    let left : sum_by (times_walked false reach slot) (slot_list slot c.args.lists.now.records) ≡ 0 = rw (← c.reach-reach.ensures) (sym c.to_do.ensures ∙ c.if-to_do-eq0.true) in
    record {
      tied = c.requires.tied;
      slots = refl;
      book = ap (λ (rs : List ForkRecord). record seen { records = rs }) (sym (walk-idle reach (g.R.Rules.forks c.args.rules.now) slot seen.records (walked-start false reach slot 0 c.args.marks.now c.args.lists.now left)));
    }
