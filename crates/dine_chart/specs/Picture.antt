-- Where in a picture a task and a place are found, and how a task is called there.
use Rattle.std.specs.Prelude.{ℕ, ◌<◌, ◌≤◌, ◌+◌, ◌-◌, ◌*◌, ◌/◌, min, max, if◌then◌else◌, List, [], ◌∷◌, length, Option, Some, None}
use Rattle.dine_words.specs.declared.task.Task.{Task}
use Rattle.dine_table.specs.Table.{same_task}
use Rattle.dine_words.specs.Texts.{task_text}
use Rattle.dine_bars.specs.declared.bar.Window.{Window}
use Rattle.dine_bars.specs.declared.lane.Lane.{Lane}
use Rattle.dine_lines.specs.declared.label.Label.{Label}
use Rattle.dine_chart.specs.declared.escape.Setting.{Setting}
use Rattle.dine_chart.specs.declared.picture.Picture.{Picture}
use Rattle.dine_chart.specs.declared.picture.TheConstants.{LEFT, BREADTH, FEW_PLACES, TOP, LANE}
use Rattle.dine_chart.specs.Escapes.{text_in}

-- the most lanes that a picture has
abbrev pub most_lanes : ℕ
most_lanes = 128

-- the most places that a picture has
abbrev pub most_places : ℕ
most_places = 1000

-- it has no more lanes than a picture may have
abbrev pub HasFewLanes : Picture → Type 0
HasFewLanes p = length p.lanes.items ≤ most_lanes

-- the number of a lane, from the top, that a picture may have
abbrev pub IsLaneRow : ℕ → Type 0
IsLaneRow row = row < most_lanes

-- how many places are drawn
abbrev pub places_of : Window → ℕ
places_of w = w.to - w.from

-- what of a window a journal of so many entries has: it has one place more than entries
abbrev pub window_in : Window → ℕ → Window
window_in w entries = record { from = w.from; to = min w.to (entries + 1) }

-- how wide a place is at least: the more there are, the narrower
abbrev pub step_of : Window → ℕ
step_of w = BREADTH / max (places_of w) FEW_PLACES

-- where a place stands, from the left: one before the window at its beginning, and one behind it at its end
abbrev pub x_of : Window → ℕ → ℕ
x_of w place = LEFT + BREADTH * min (place - w.from) (places_of w) / max (places_of w) FEW_PLACES

-- where a lane begins, from the top
abbrev pub y_of : ℕ → ℕ
y_of row = TOP + LANE * row

-- the number of a task's lane, where the first of the lanes has this number
abbrev pub row_from : ℕ → List Lane → Task → Option ℕ
row_from n [] t = None
row_from n (l ∷ ls) t = if same_task l.task t then Some n else row_from (n + 1) ls t

-- the number of a task's lane, from the top
abbrev pub row_of : Picture → Task → Option ℕ
row_of p t = row_from 0 p.lanes.items t

-- what is drawn in the lane of this number, if there is one
abbrev pub if_lane : (ℕ → List ℕ) → Option ℕ → List ℕ
if_lane drawn None = []
if_lane drawn (Some row) = drawn row

-- the first of the texts that are given for a task
abbrev pub given_in : List Label → Task → Option (List ℕ)
given_in [] t = None
given_in (l ∷ ls) t = if same_task l.task t then Some l.text.items else given_in ls t

-- the text that is given for a task
abbrev pub given_to : Picture → Task → Option (List ℕ)
given_to p t = given_in p.labels.items t

-- a task's name: the given text, written so that it stays in what it stands in, or else the task's own
abbrev pub name_in : Setting → Option (List ℕ) → Task → List ℕ
name_in setting None t = task_text t
name_in setting (Some text) t = text_in setting text

-- the number of the lane of a task that may be none
abbrev pub row_of_any : Picture → Option Task → Option ℕ
row_of_any p None = None
row_of_any p (Some t) = row_of p t
