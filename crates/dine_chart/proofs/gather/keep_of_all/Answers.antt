use Rattle.std.proofs.Common.{◌≡◌, ◌≤◌, ◌+◌, ◌++◌, [], List, length, arith, ap, sym, refl, ◌∙◌}
use Rattle.std.specs.List.{filter}
use Rattle.std.proofs.lemmas.List.Elements.{filter-append}
use Rattle.dine_bars.specs.declared.mark.Mark.{Mark}
use Rattle.dine_bars.specs.Marks.{marks_at, last_marks}
use Rattle.dine_bars.proofs.CallerLemmas.{entry_there, way-end, way-next, way-opening}
use Rattle.dine_chart.specs.Gather.{marks_in, touches}
use Rattle.dine_chart.proofs.Outcomes.{on_ok}
use Rattle.dine_chart.proofs.gather.keep_of_all.Goals as goal
use Rattle.dine_chart.proofs.gather.keep_of_all.Goals.{in-Some+in_ok-keep_of_entry, in_default}

pub loop-place-init : goal.loop-place-init
loop-place-init c =
    let j = c.args.journal.now in
    let none : List Mark = [] in
    record {
      added = none;
      way = way-opening j.limits j.entries c.args.drawing.now none c.requires.opened refl;
      kept = c.requires.none_kept;
      empty = c.requires.none_ended;
    }

pub loop-place-preserved : goal.loop-place-preserved
loop-place-preserved c =
    let j = c.args.journal.now in
    let i = c.loop-place.invariant in
    elim c.match-entry.branch [
      | in-Some+in_ok-keep_of_entry w ↦
          let adds = marks_at c.loop-place.drawing w.in-Some.entry in
          let said = w.in_ok-keep_of_entry.ensures in
          rw (w.drawing-is, w.kept-is, w.ended-is) record {
            added = i.added ++ adds;
            way = way-next j.limits j.entries c.loop-place.place c.loop-place.drawing i.added i.way w.in-Some.entry (sym c.entry.ensures ∙ w.in-Some.is) w.keep_of_entry.new.drawing (i.added ++ adds) said.drawn refl;
            kept = said.kept ∙ ap (λ k. k ++ filter (touches c.args.window) adds) i.kept ∙ sym (filter-append (touches c.args.window) i.added adds);
            empty = said.empty;
          }
      | in_default w ↦ absurd (entry_there j.entries c.loop-place.place (omega (arith, c.loop-place-test.true, c.len-place-end.ensures.len)) (sym c.entry.ensures ∙ w.in_default.is))
    ]

pub returns : goal.returns
returns c =
    let j = c.args.journal.now in
    let i = c.loop-place.invariant in
    let d = c.loop-place.drawing in
    let past : length j.entries ≤ c.loop-place.place = omega (arith, c.loop-place-test.false, c.len-place-end.ensures.len) in
    let last = last_marks (d.place + 1) d.begun in
    let all = way-end j.limits j.entries c.loop-place.place d i.added i.way past (i.added ++ last) refl in
    let ended : c.deref.result.now ≡ last = c.deref.ensures.value ∙ c.in_ok-end.ensures.ok ∙ ap (λ l. l ++ last) i.empty in
    on_ok (c.keep_drawn.new.kept.items ≡ c.loop-place.kept.items ++ filter (touches c.args.window) c.deref.result.now) (c.keep_drawn.new.kept.items ≡ marks_in c.args.window j) c.keep_drawn.result
    (λ same.
    same ∙ ap (λ k. k ++ filter (touches c.args.window) c.deref.result.now) i.kept
    ∙ ap (λ m. filter (touches c.args.window) i.added ++ filter (touches c.args.window) m) ended
    ∙ sym (filter-append (touches c.args.window) i.added last)
    ∙ ap (filter (touches c.args.window)) all)
    c.keep_drawn.ensures
