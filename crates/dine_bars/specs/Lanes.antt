-- Lanes: what the marks of a history tell of each task that joined.
use Rattle.std.specs.Prelude.{ℕ, ◌+◌, ◌-◌, ◌^◌, min, if◌then◌else◌, List, [], ◌∷◌, ◌++◌, Some, None, is_some}
use Rattle.dine_table.specs.Table.{same_task}
use Rattle.dine_bars.specs.declared.bar.BarKind.{BarKind}
use Rattle.dine_bars.specs.declared.bar.BarKind.TheVariants.{Meal, KeptWaiting, MayBegin}
use Rattle.dine_bars.specs.declared.lane.Lane.{Lane}
use Rattle.dine_bars.specs.declared.mark.Mark.{Mark}
use Rattle.dine_bars.specs.declared.mark.Mark.TheVariants as mark
use Rattle.dine_bars.specs.declared.mark.TaskMark.{TaskMark}

-- the lane of a task that joined just now
abbrev pub opening_lane : TaskMark → Lane
opening_lane at = record { task = at.task; joined = at.place; left = None; meals = 0; kept_waiting = 0 }

-- the sum, as far as it fits 64 bits
abbrev pub added_up : ℕ → ℕ → ℕ
added_up a b = min (a + b) (2 ^ 64 - 1)

-- the lane with one more bar of its task, of this kind and over so many places
abbrev pub lane_with_bar : Lane → BarKind → ℕ → Lane
lane_with_bar lane Meal places = record lane { meals = added_up lane.meals 1 }
lane_with_bar lane KeptWaiting places = record lane { kept_waiting = added_up lane.kept_waiting places }
lane_with_bar lane MayBegin places = lane

-- the lane with the next mark: a bar counts, and a leave ends it, where it is of its task
abbrev pub lane_with : Lane → Mark → Lane
lane_with lane (mark.Bar bar) =
    if same_task bar.task lane.task then lane_with_bar lane bar.kind (bar.to - bar.from) else lane
lane_with lane (mark.Left at) = if same_task at.task lane.task then record lane { left = Some at.place } else lane
lane_with lane (mark.Joined at) = lane
lane_with lane (mark.Declared at) = lane
lane_with lane (mark.Separated at) = lane
lane_with lane (mark.Refused call) = lane

-- the lane with the marks up to its end
abbrev pub lane_from : Lane → List Mark → Lane
lane_from lane [] = lane
lane_from lane (m ∷ ms) = let next = lane_with lane m in if is_some next.left then next else lane_from next ms

-- the lane that begins at the mark, if one does, with the marks after it
abbrev pub lanes_begun : Mark → List Mark → List Lane
lanes_begun (mark.Joined at) ms = lane_from (opening_lane at) ms ∷ []
lanes_begun (mark.Bar bar) ms = []
lanes_begun (mark.Left at) ms = []
lanes_begun (mark.Declared at) ms = []
lanes_begun (mark.Separated at) ms = []
lanes_begun (mark.Refused call) ms = []

-- a lane for each task that joined, in this order
abbrev pub lanes_of : List Mark → List Lane
lanes_of [] = []
lanes_of (m ∷ ms) = lanes_begun m ms ++ lanes_of ms
