-- The trace so far is the beginning of the trace.
use Rattle.std.proofs.Common.{◌≡◌, ℕ, ◌+◌, List, [], ◌∷◌, ◌++◌, sym, ap, ◌∙◌, append_assoc, append-nil}
use Rattle.std.specs.List.{filter, flat_map}
use Rattle.std.proofs.lemmas.List.Elements.{filter-append}
use Rattle.std.proofs.lemmas.Grind.{flat_map-append}
use Rattle.dine_words.specs.declared.entry.Entry.{Entry}
use Rattle.dine_journal.specs.Kept.{Journal}
use Rattle.dine_bars.specs.declared.bar.Window.{Window}
use Rattle.dine_bars.specs.declared.mark.Mark.{Mark}
use Rattle.dine_bars.specs.Marks.{Drawing, drawn_after, drawn_from, last_marks, marks_at, marks_from, marks_of, opening_drawn}
use Rattle.dine_lines.specs.declared.label.Label.{Label}
use Rattle.dine_chart.specs.Trace.{events_text, is_traced, mark_events, trace_end, trace_opening, trace_text}

-- a drawing and its marks, with the entries that are left, come to the same as those of all entries
pub record IsDrawnTo (journal : Journal) (d : Drawing) (marks : List Mark) (es : List Entry) : Type 0 where
  pub drawn : drawn_from d es ≡ drawn_from (opening_drawn journal.limits) journal.entries
  pub added : marks ++ marks_from d es ≡ marks_from (opening_drawn journal.limits) journal.entries

-- before the first entry
pub drawn-opening : (journal : Journal) (d : Drawing) → d ≡ opening_drawn journal.limits → IsDrawnTo journal d [] journal.entries
drawn-opening journal d is = record {
  drawn = ap (λ x. drawn_from x journal.entries) is;
  added = ap (λ x. marks_from x journal.entries) is;
}

module _ (journal : Journal) (d : Drawing) (marks : List Mark) (es : List Entry) (p : IsDrawnTo journal d marks es) where
  -- one entry on
  pub drawn-next : (e : Entry) (others : List Entry) (next : Drawing) → es ≡ e ∷ others → next ≡ drawn_after d e → IsDrawnTo journal next (marks ++ marks_at d e) others
  drawn-next e others next first is = record {
    drawn = ap (λ x. drawn_from x others) is ∙ sym (ap (drawn_from d) first) ∙ p.drawn;
    added =
        ap (λ x. (marks ++ marks_at d e) ++ marks_from x others) is
        ∙ append_assoc marks (marks_at d e) (marks_from (drawn_after d e) others)
        ∙ sym (ap (λ l. marks ++ marks_from d l) first)
        ∙ p.added;
  }

  -- the bars that go on in the end
  abbrev pub last : List Mark
  last = let end = drawn_from (opening_drawn journal.limits) journal.entries in last_marks (end.place + 1) end.begun

  -- all marks are those so far, and those that are to come
  pub marks-left : marks_of journal.limits journal.entries ≡ marks ++ (marks_from d es ++ last)
  marks-left = ap (λ m. m ++ last) (sym p.added) ∙ append_assoc marks (marks_from d es) last

  -- after the last entry
  pub drawn-end : es ≡ [] → marks_of journal.limits journal.entries ≡ marks ++ last_marks (d.place + 1) d.begun
  drawn-end none =
      let end : d ≡ drawn_from (opening_drawn journal.limits) journal.entries = sym (ap (drawn_from d) none) ∙ p.drawn in
      let all : marks ≡ marks_from (opening_drawn journal.limits) journal.entries = sym (append-nil marks) ∙ sym (ap (λ l. marks ++ marks_from d l) none) ∙ p.added in
      sym (ap (λ m. m ++ last) all) ∙ sym (ap (λ (x : Drawing). marks ++ last_marks (x.place + 1) x.begun) end)

-- ---- texts

-- the trace of the marks so far, without its end
abbrev pub so_far : List Label → Window → List Mark → List ℕ
so_far labels w marks = trace_opening ++ events_text labels w marks

-- the events of two runs of marks stand one behind the other
pub events-append : (labels : List Label) (w : Window) (xs ys : List Mark) → events_text labels w (xs ++ ys) ≡ events_text labels w xs ++ events_text labels w ys
events-append labels w xs ys =
    ap (flat_map (mark_events labels w)) (filter-append (is_traced w) xs ys)
    ∙ flat_map-append (mark_events labels w) (filter (is_traced w) xs) (filter (is_traced w) ys)

-- more marks are more events
pub so_far-more : (labels : List Label) (w : Window) (xs ys : List Mark) → so_far labels w (xs ++ ys) ≡ so_far labels w xs ++ events_text labels w ys
so_far-more labels w xs ys =
    ap (λ e. trace_opening ++ e) (events-append labels w xs ys)
    ∙ sym (append_assoc trace_opening (events_text labels w xs) (events_text labels w ys))

-- the trace goes on after the marks so far
pub goes-on : (labels : List Label) (w : Window) (journal : Journal) (xs ys : List Mark) → marks_of journal.limits journal.entries ≡ xs ++ ys → trace_text labels w journal ≡ so_far labels w xs ++ (events_text labels w ys ++ trace_end)
unfolding trace_text
goes-on labels w journal xs ys e =
    ap (λ m. trace_opening ++ events_text labels w m ++ trace_end) e
    ∙ ap (λ t. t ++ trace_end) (so_far-more labels w xs ys)
    ∙ append_assoc (so_far labels w xs) (events_text labels w ys) trace_end
