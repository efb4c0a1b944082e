-- What of a history is drawn in a window.
use Rattle.std.specs.Prelude.{◌≡◌, ℕ, nat_lt, Bool, true, ◌&&◌, List, length, Option, Some, None}
use Rattle.std.specs.List.{filter}
use Rattle.dine_journal.specs.Kept.{Journal}
use Rattle.dine_bars.specs.declared.bar.Window.{Window}
use Rattle.dine_bars.specs.declared.lane.Lane.{Lane}
use Rattle.dine_bars.specs.declared.mark.Mark.{Mark}
use Rattle.dine_bars.specs.declared.mark.Mark.TheVariants as mark
use Rattle.dine_bars.specs.Bars.{is_within}
use Rattle.dine_bars.specs.Lanes.{lanes_of}
use Rattle.dine_bars.specs.Marks.{marks_of}
use Rattle.dine_lines.specs.declared.label.Label.{Label}
use Rattle.dine_chart.specs.declared.picture.Picture.{Picture}

-- something of the mark is drawn in the window: a place of a bar, and else the place of the call. Who joined or left
-- before it is kept too, for the lanes are made of these
abbrev pub touches : Window → Mark → Bool
touches w (mark.Bar bar) = nat_lt bar.from w.to && nat_lt w.from bar.to
touches w (mark.Joined m) = nat_lt m.place w.to
touches w (mark.Left m) = nat_lt m.place w.to
touches w (mark.Declared m) = is_within w.from w.to m.place
touches w (mark.Separated m) = is_within w.from w.to m.place
touches w (mark.Refused m) = is_within w.from w.to m.place

-- the marks of a journal of which something is drawn
abbrev pub marks_in : Window → Journal → List Mark
marks_in w journal = filter (touches w) (marks_of journal.limits journal.entries)

-- a task that leaves there, or nowhere, is present at some place of the window
abbrev pub stays_into : Window → Option ℕ → Bool
stays_into w None = true
stays_into w (Some left) = nat_lt w.from left

-- the lanes of the marks that are seen in the window
abbrev pub lanes_in : Window → List Mark → List Lane
lanes_in w marks = filter (λ lane. stays_into w lane.left) (lanes_of marks)

-- the picture is that of the window of the journal, with these labels
pub record IsPictureOf (journal : Journal) (w : Window) (given : List Label) (p : Picture) : Type 0 where
  pub entries : p.entries ≡ length journal.entries
  pub window : p.window ≡ w
  pub labels : p.labels.items ≡ given
  pub marks : p.marks.items ≡ marks_in w journal
  pub lanes : p.lanes.items ≡ lanes_in w (marks_in w journal)
