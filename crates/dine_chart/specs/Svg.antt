-- The text of an SVG: a head, a heading, the numbers of the places, the lanes, the marks in layers, and a legend.
use Rattle.std.specs.Prelude.{ℕ, zero, suc, ◌==◌, ◌+◌, ◌-◌, ◌*◌, ◌%◌, nat_le, Bool, true, false, if◌then◌else◌, List, [], ◌++◌, length, count_by, codes, decimal, unwrap_or}
use Rattle.std.specs.List.{flat_map}
use Rattle.dine_words.specs.declared.task.Task.{Task}
use Rattle.dine_bars.specs.declared.bar.Bar.{Bar}
use Rattle.dine_bars.specs.declared.bar.BarKind.{BarKind}
use Rattle.dine_bars.specs.declared.bar.BarKind.TheVariants.{Meal, KeptWaiting, MayBegin}
use Rattle.dine_bars.specs.declared.bar.Window.{Window}
use Rattle.dine_bars.specs.declared.lane.Lane.{Lane}
use Rattle.dine_bars.specs.declared.mark.Mark.{Mark}
use Rattle.dine_bars.specs.declared.mark.Mark.TheVariants as mark
use Rattle.dine_chart.specs.declared.picture.Picture.{Picture}
use Rattle.dine_chart.specs.declared.picture.TheConstants.{TOP, LANE}
use Rattle.dine_chart.specs.declared.svg.layers.Layer.{Layer}
use Rattle.dine_chart.specs.declared.svg.layers.Layer.TheVariants.{Conflicts, Bars, Signs, Turns}
use Rattle.dine_chart.specs.Elements.{arrow_text, bar_text, conflict_text, joining_text, leaving_text, markup_name, refused_text}
use Rattle.dine_chart.specs.Picture.{if_lane, places_of, row_of, step_of, x_of, y_of}
use Rattle.dine_chart.specs.Pieces.{counted, point_text}

-- ---- the head

-- how high a picture of so many lanes is
abbrev pub height_of : ℕ → ℕ
height_of lanes = TOP + LANE * lanes + 64

-- the beginning, up to the height
unfoldable pub opening_text : List ℕ
opening_text = codes "<svg xmlns=\"http://www.w3.org/2000/svg\" font-family=\"DejaVu Sans, Verdana, sans-serif\" font-size=\"11\" width=\"1280\" height=\""

-- how each class of elements looks, and the signs at the ends of lines. The colours are those of Okabe and Ito
unfoldable pub looks_text : List ℕ
looks_text = codes "\">\n<style>.g{fill:#fff}.h{font-size:15px;font-weight:bold;fill:#000}.o{fill:#555}.k{fill:#666;font-size:10px;text-anchor:middle}.i{stroke:#e6e6e6}.z0{fill:none}.z1{fill:#f5f5f5}.a{font-weight:bold;text-anchor:end;fill:#000}.b{stroke:#56b4e9;stroke-width:2}.e{fill:#0072b2}.w{fill:url(#w);stroke:#e69f00}.r{fill:#d9f2e9;stroke:#009e73}.t{fill:none;stroke:#333;marker-end:url(#t)}.c{stroke:#999;stroke-dasharray:2 2;marker-start:url(#d);marker-end:url(#d)}.s{stroke:#cc79a7;stroke-width:2;stroke-dasharray:1 3;marker-start:url(#d);marker-end:url(#d)}.j{stroke:#000;stroke-width:2}.l{stroke:#000;stroke-width:2;fill:none}.n{fill:#d55e00}</style>\n<defs><pattern id=\"w\" width=\"6\" height=\"6\" patternUnits=\"userSpaceOnUse\" patternTransform=\"rotate(45)\"><rect width=\"6\" height=\"6\" fill=\"#fff6e0\"/><rect width=\"2\" height=\"6\" fill=\"#e69f00\"/></pattern><marker id=\"t\" viewBox=\"0 0 6 6\" refX=\"5\" refY=\"3\" markerWidth=\"6\" markerHeight=\"6\" orient=\"auto\"><path d=\"M0 0L6 3L0 6z\" fill=\"#333\"/></marker><marker id=\"d\" markerUnits=\"userSpaceOnUse\" viewBox=\"0 0 4 4\" refX=\"2\" refY=\"2\" markerWidth=\"4\" markerHeight=\"4\"><circle cx=\"2\" cy=\"2\" r=\"2\" fill=\"#888\"/></marker></defs>\n<rect class=\"g\" width=\"1280\" height=\""

-- the head of a picture of this height: it stands on a light ground of its own, so that a dark page's readers see it too
unfoldable pub head_text : ℕ → List ℕ
head_text height =
    opening_text ++ (decimal height ++ codes "\" viewBox=\"0 0 1280 " ++ decimal height) ++ looks_text
    ++ (decimal height ++ codes "\"/>\n")

-- ---- the heading

-- the bar is a meal
abbrev pub is_meal : BarKind → Bool
is_meal Meal = true
is_meal KeptWaiting = false
is_meal MayBegin = false

-- the mark is a meal
abbrev pub is_meal_mark : Mark → Bool
is_meal_mark (mark.Bar bar) = is_meal bar.kind
is_meal_mark (mark.Joined m) = false
is_meal_mark (mark.Left m) = false
is_meal_mark (mark.Declared m) = false
is_meal_mark (mark.Separated m) = false
is_meal_mark (mark.Refused m) = false

-- how many calls, tasks and meals there are
unfoldable pub counts_text : Picture → List ℕ
counts_text p =
    counted p.entries (codes " call") ++ (codes ", " ++ counted (length p.lanes.items) (codes " task"))
    ++ (codes ", " ++ counted (count_by is_meal_mark p.marks.items) (codes " meal"))

-- which lines of the journal are drawn
unfoldable pub lines_drawn : Window → List ℕ
lines_drawn w = (codes "lines " ++ decimal w.from) ++ (codes " to " ++ decimal (w.to - 1))

-- what the first line of the heading begins with
unfoldable pub heading_opening : List ℕ
heading_opening = codes "<text class=\"h\" x=\"14\" y=\"24\">"

-- between the two lines of the heading
unfoldable pub heading_middle : List ℕ
heading_middle = codes "</text>\n<text class=\"o\" x=\"14\" y=\"42\">"

-- what the second line of the heading ends with
unfoldable pub heading_end : List ℕ
heading_end = codes " of a legal journal: no two tasks in conflict eat at once</text>\n"

-- the heading
unfoldable pub heading_text : Picture → List ℕ
heading_text p = heading_opening ++ counts_text p ++ (heading_middle ++ lines_drawn p.window) ++ heading_end

-- ---- the numbers of the places

-- every so many places have their number above them, so that there is room for it
abbrev pub stride_of : ℕ → ℕ
stride_of step =
    if nat_le 40 step then 1
    else if nat_le 20 step then 2
    else if nat_le 9 step then 5
    else if nat_le 5 step then 10
    else if nat_le 3 step then 20
    else if nat_le 2 step then 25
    else 50

-- where the lanes end, from the top
abbrev pub bottom_of : Picture → ℕ
bottom_of p = TOP + LANE * length p.lanes.items

-- a line down from a place
unfoldable pub rule_text : Picture → ℕ → List ℕ
rule_text p place =
    point_text (codes "<path class=\"i\" d=\"M") (x_of p.window place) 60 ++ (codes "V" ++ decimal (bottom_of p))

-- how the number of a place begins
unfoldable pub place_opening : List ℕ
place_opening = codes "\"/><text class=\"k\" y=\"56\" x=\""

-- the number of a place
unfoldable pub place_text : Picture → ℕ → List ℕ
place_text p place =
    place_opening ++ decimal (x_of p.window place) ++ (codes "\">" ++ decimal place) ++ codes "</text>\n"

-- a place that has its number
unfoldable pub tick_text : Picture → ℕ → List ℕ
tick_text p place = rule_text p place ++ place_text p place

-- a place, if it is the turn of its number
abbrev pub tick_if : Bool → Picture → ℕ → List ℕ
tick_if true p place = tick_text p place
tick_if false p place = []

-- the first places of the window, this many, of which every so many have their number
abbrev pub ticks_to : ℕ → Picture → ℕ → List ℕ
ticks_to stride p zero = []
ticks_to stride p (suc n) = ticks_to stride p n ++ tick_if ((p.window.from + n) % stride == 0) p (p.window.from + n)

-- the numbers of the places
unfoldable pub ticks_text : Picture → List ℕ
ticks_text p = ticks_to (stride_of (step_of p.window)) p (places_of p.window)

-- ---- lanes

-- what the ground of a lane ends with
unfoldable pub ground_end : List ℕ
ground_end = codes "\" width=\"1280\" height=\"34\"/>"

-- where a lane's line ends and its name begins
unfoldable pub naming_opening : List ℕ
naming_opening = codes "\"/><text class=\"a\" x=\"118\" y=\""

-- where a lane's name ends and its totals begin
unfoldable pub totals_opening : List ℕ
totals_opening = codes "</text><text class=\"o\" x=\""

-- the ground of a lane: every other one is shaded
unfoldable pub ground_text : ℕ → List ℕ
ground_text row =
    (codes "<rect class=\"z" ++ decimal (row % 2)) ++ (codes "\" y=\"" ++ decimal (y_of row)) ++ ground_end

-- a level line
unfoldable pub level_text : ℕ → ℕ → ℕ → List ℕ
level_text from y to = point_text (codes "<path class=\"b\" d=\"M") from y ++ (codes "H" ++ decimal to)

-- where a task's line ends: where it leaves, or where the places end
abbrev pub end_of : Window → Lane → ℕ
end_of w lane = unwrap_or lane.left w.to

-- the line of a task, from its joining on
abbrev pub life_text : Picture → ℕ → Lane → List ℕ
life_text p row lane = level_text (x_of p.window lane.joined) (y_of row + 17) (x_of p.window (end_of p.window lane))

-- the name of a task, to the left of its lane
unfoldable pub naming_text : Picture → ℕ → Task → List ℕ
naming_text p row t = naming_opening ++ decimal (y_of row + 21) ++ codes "\">" ++ markup_name p t

-- at how many places the task was kept waiting
unfoldable pub waits_text : ℕ → List ℕ
waits_text places = (codes ", waits " ++ decimal places) ++ codes "</text>\n"

-- where the totals stand
unfoldable pub totals_at : ℕ → ℕ → List ℕ
totals_at x y = totals_opening ++ decimal x ++ (codes "\" y=\"" ++ decimal y)

-- what its bars come to, to the right of its lane
unfoldable pub totals_text : Picture → ℕ → Lane → List ℕ
totals_text p row lane =
    totals_at (x_of p.window p.window.to + 14) (y_of row + 21) ++ (codes "\">" ++ counted lane.meals (codes " meal"))
    ++ waits_text lane.kept_waiting

-- a lane of this number
unfoldable pub lane_in : Picture → ℕ → Lane → List ℕ
lane_in p row lane = ground_text row ++ life_text p row lane ++ naming_text p row lane.task ++ totals_text p row lane

-- a lane, if it has a number
abbrev pub lane_text : Picture → Lane → List ℕ
lane_text p lane = if_lane (λ row. lane_in p row lane) (row_of p lane.task)

-- the lanes, one after the other
abbrev pub lanes_text : Picture → List Lane → List ℕ
lanes_text p lanes = flat_map (lane_text p) lanes

-- ---- layers

-- the conflict that a mark draws
abbrev pub conflict_of : Picture → Mark → List ℕ
conflict_of p (mark.Declared m) = conflict_text p (codes "<path class=\"c\" d=\"M") (codes "conflict of ") m
conflict_of p (mark.Separated m) = conflict_text p (codes "<path class=\"s\" d=\"M") (codes "no conflict of ") m
conflict_of p (mark.Bar bar) = []
conflict_of p (mark.Joined m) = []
conflict_of p (mark.Left m) = []
conflict_of p (mark.Refused m) = []

-- what is drawn for a bar, and nothing for another mark
abbrev pub for_bar : (Bar → List ℕ) → Mark → List ℕ
for_bar drawn (mark.Bar bar) = drawn bar
for_bar drawn (mark.Joined m) = []
for_bar drawn (mark.Left m) = []
for_bar drawn (mark.Declared m) = []
for_bar drawn (mark.Separated m) = []
for_bar drawn (mark.Refused m) = []

-- the sign that a mark draws. Who joined or left before the window has none there
abbrev pub sign_of : Picture → Mark → List ℕ
sign_of p (mark.Bar bar) = []
sign_of p (mark.Joined m) = if nat_le p.window.from m.place then joining_text p m else []
sign_of p (mark.Left m) = if nat_le p.window.from m.place then leaving_text p m else []
sign_of p (mark.Declared m) = []
sign_of p (mark.Separated m) = []
sign_of p (mark.Refused m) = refused_text p m

-- what a mark draws in a layer
abbrev pub drawn_in : Picture → Layer → Mark → List ℕ
drawn_in p Conflicts m = conflict_of p m
drawn_in p Bars m = for_bar (bar_text p) m
drawn_in p Signs m = sign_of p m
drawn_in p Turns m = for_bar (arrow_text p) m

-- a layer: what is drawn in it for each of the marks, one after the other
abbrev pub layer_text : Picture → Layer → List Mark → List ℕ
layer_text p layer marks = flat_map (drawn_in p layer) marks

-- the layers, from the lowest to the highest
unfoldable pub layers_text : Picture → List ℕ
layers_text p =
    let marks = p.marks.items in
    layer_text p Conflicts marks ++ layer_text p Bars marks ++ layer_text p Signs marks ++ layer_text p Turns marks

-- ---- the legend

-- what each look stands for
unfoldable pub legend_signs : List ℕ
legend_signs = codes ")\"><path class=\"b\" d=\"M130 0h24\"/><text class=\"o\" x=\"160\" y=\"4\">thinks</text><rect class=\"r\" x=\"222\" y=\"-6\" width=\"24\" height=\"12\"/><text class=\"o\" x=\"252\" y=\"4\">hungry, may begin</text><rect class=\"w\" x=\"376\" y=\"-6\" width=\"24\" height=\"12\"/><text class=\"o\" x=\"406\" y=\"4\">hungry, kept waiting</text><rect class=\"e\" x=\"544\" y=\"-12\" width=\"24\" height=\"24\" rx=\"3\"/><text class=\"o\" x=\"574\" y=\"4\">eats</text><path class=\"t\" d=\"M626 -8C626 2 652 -4 652 8\"/><text class=\"o\" x=\"662\" y=\"4\">whose call gave it the turn</text><path class=\"n\" d=\"M846 -3l-4 6h8z\"/><text class=\"o\" x=\"858\" y=\"4\">refused</text><path class=\"c\" d=\"M916 -10V10\"/><text class=\"o\" x=\"926\" y=\"4\">conflict</text><path class=\"s\" d=\"M988 -10V10\"/><text class=\"o\" x=\"998\" y=\"4\">separated</text><path class=\"j\" d=\"M1068 -8v16\"/><text class=\"o\" x=\"1076\" y=\"4\">joins</text><path class=\"l\" d=\"M1116 -4l8 8m0-8l-8 8\"/><text class=\"o\" x=\"1132\" y=\"4\">leaves</text><text class=\"o\" x=\"130\" y=\"26\">from left to right: the lines of the journal, a step for each call; a journal has no clock</text></g>\n</svg>\n"

-- the legend, below the lanes
unfoldable pub legend_text : Picture → List ℕ
legend_text p = (codes "<g transform=\"translate(0 " ++ decimal (bottom_of p + 26)) ++ legend_signs

-- ---- the whole

-- what stands around the lanes
unfoldable pub front_text : Picture → List ℕ
front_text p = head_text (height_of (length p.lanes.items)) ++ heading_text p ++ ticks_text p

-- the picture
unfoldable pub svg_text : Picture → List ℕ
svg_text p = front_text p ++ lanes_text p p.lanes.items ++ layers_text p ++ legend_text p
