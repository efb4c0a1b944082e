use Rattle.std.proofs.Common.{◌≡◌, ◌≤◌, ◌+◌, ◌++◌, length, arith, sym, ◌∙◌}
use Rattle.dine_bars.specs.Marks.{last_marks, marks_of}
use Rattle.dine_bars.proofs.Entries.{entry_there, if-ok, way-end, way-next, way-opening}
use Rattle.dine_bars.proofs.drawing.take_in_all.Goals as goal
use Rattle.dine_bars.proofs.drawing.take_in_all.Goals.{in-Some+in_ok-take_in, in_default}

pub loop-place-init : goal.loop-place-init
loop-place-init c =
    let j = c.args.journal.now in
    way-opening j.limits j.entries c.args.drawing.now c.args.marks.now.items c.requires.opened c.requires.none

pub loop-place-preserved : goal.loop-place-preserved
loop-place-preserved c =
    let j = c.args.journal.now in
    elim c.match-entry.branch [
      | in-Some+in_ok-take_in w ↦
          rw (w.drawing-is, w.marks-is) (way-next j.limits j.entries c.loop-place.place c.loop-place.drawing c.loop-place.marks.items c.loop-place.invariant w.in-Some.entry (sym c.entry.ensures ∙ w.in-Some.is) w.take_in.new.self w.take_in.new.marks.items w.in_ok-take_in.ensures.drawn w.in_ok-take_in.ensures.marks)
      | in_default w ↦ absurd (entry_there j.entries c.loop-place.place (omega (arith, c.loop-place-test.true, c.len-place-end.ensures.len)) (sym c.entry.ensures ∙ w.in_default.is))
    ]

pub returns : goal.returns
returns c =
    let j = c.args.journal.now in
    let d = c.loop-place.drawing in
    let past : length j.entries ≤ c.loop-place.place = omega (arith, c.loop-place-test.false, c.len-place-end.ensures.len) in
    let all = c.end.new.marks.items in
    if-ok c.end.result (all ≡ c.loop-place.marks.items ++ last_marks (d.place + 1) d.begun) (all ≡ marks_of j.limits j.entries)
    (way-end j.limits j.entries c.loop-place.place d c.loop-place.marks.items c.loop-place.invariant past all) c.end.ensures.ok
