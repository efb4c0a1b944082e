-- The elements of an SVG: what stands in it for each mark.
use Rattle.std.specs.Prelude.{ℕ, ◌+◌, ◌-◌, ◌/◌, nat_lt, if◌then◌else◌, List, [], ◌++◌, codes, decimal, Option, Some, None}
use Rattle.dine_words.specs.declared.call.Reply.TheVariants.{Refused as refused}
use Rattle.dine_words.specs.declared.entry.Entry.{Entry}
use Rattle.dine_words.specs.declared.task.Task.{Task}
use Rattle.dine_words.specs.Texts.{entry_text}
use Rattle.dine_bars.specs.declared.bar.Bar.{Bar}
use Rattle.dine_bars.specs.declared.bar.BarKind.{BarKind}
use Rattle.dine_bars.specs.declared.bar.BarKind.TheVariants.{Meal, KeptWaiting, MayBegin}
use Rattle.dine_bars.specs.declared.bar.Turn.{Turn}
use Rattle.dine_bars.specs.declared.mark.ConflictMark.{ConflictMark}
use Rattle.dine_bars.specs.declared.mark.RefusedCall.{RefusedCall}
use Rattle.dine_bars.specs.declared.mark.TaskMark.{TaskMark}
use Rattle.dine_bars.specs.Marks.{named_first}
use Rattle.dine_chart.specs.declared.picture.Picture.{Picture}
use Rattle.dine_chart.specs.declared.escape.Setting.TheVariants.{Markup}
use Rattle.dine_chart.specs.Picture.{given_to, if_lane, name_in, row_of, row_of_any, x_of, y_of}
use Rattle.dine_chart.specs.Pieces.{point_text}

-- a task's name in markup
unfoldable pub markup_name : Picture → Task → List ℕ
markup_name p t = name_in Markup (given_to p t) t

-- the end of a title and of the box that has it
unfoldable pub box_end : List ℕ
box_end = codes "</title></rect>\n"

-- the end of a title and of the path that has it
unfoldable pub path_end : List ℕ
path_end = codes "</title></path>\n"

-- ---- bars

-- how a bar's box begins: its look, its height, and where it stands
abbrev pub box_opening : BarKind → List ℕ
box_opening Meal = codes "<rect class=\"e\" height=\"24\" rx=\"3\" x=\""
box_opening KeptWaiting = codes "<rect class=\"w\" height=\"12\" x=\""
box_opening MayBegin = codes "<rect class=\"r\" height=\"12\" x=\""

-- how far below the beginning of its lane a bar stands
abbrev pub inset_of : BarKind → ℕ
inset_of Meal = 5
inset_of KeptWaiting = 11
inset_of MayBegin = 11

-- what the task does
abbrev pub doing_text : BarKind → List ℕ
doing_text Meal = codes " eats"
doing_text KeptWaiting = codes " is kept waiting"
doing_text MayBegin = codes " may begin"

-- a box of a kind, up to its title
unfoldable pub box_text : BarKind → ℕ → ℕ → ℕ → List ℕ
box_text kind x y width =
    (box_opening kind ++ decimal x) ++ (codes "\" y=\"" ++ decimal y) ++ (codes "\" width=\"" ++ decimal width)
    ++ codes "\"><title>"

-- what a box shows, from where to where, and its end
unfoldable pub shown_text : List ℕ → ℕ → ℕ → List ℕ
shown_text said from to =
    said ++ (codes ", lines " ++ decimal from) ++ (codes " to " ++ decimal to) ++ box_end

-- the box of a bar in the lane of this number, up to its title
unfoldable pub bar_box : Picture → ℕ → Bar → List ℕ
bar_box p row bar =
    let x = x_of p.window bar.from in box_text bar.kind x (y_of row + inset_of bar.kind) (x_of p.window bar.to - x)

-- a bar in the lane of this number
unfoldable pub bar_in : Picture → ℕ → Bar → List ℕ
bar_in p row bar = bar_box p row bar ++ markup_name p bar.task ++ shown_text (doing_text bar.kind) bar.from bar.to

-- a bar, if its task has a lane
abbrev pub bar_text : Picture → Bar → List ℕ
bar_text p bar = if_lane (λ row. bar_in p row bar) (row_of p bar.task)

-- ---- turns

-- the curve from a point to another: half the way down or up, and then half the way on
unfoldable pub curve_text : ℕ → ℕ → ℕ → ℕ → List ℕ
curve_text x1 y1 x2 y2 =
    let y = (y1 + y2) / 2 in
    point_text (codes "<path class=\"t\" d=\"M") x1 y1 ++ point_text (codes "C") x1 y ++ point_text (codes " ") x2 y
    ++ point_text (codes " ") x2 y2

-- where the curve leaves the box of the giver's lane: at its lower side where the taker's lane is below
abbrev pub leaving_of : ℕ → ℕ → ℕ
leaving_of giver taker = y_of giver + (if nat_lt giver taker then 29 else 5)

-- where the curve comes to the box of the taker's lane
abbrev pub coming_of : ℕ → ℕ → ℕ
coming_of giver taker = y_of taker + (if nat_lt giver taker then 5 else 29)

-- the curve of a turn that a meal took, between the lanes of these numbers
unfoldable pub turn_curve : Picture → ℕ → ℕ → Turn → Bar → List ℕ
turn_curve p giver taker turn meal =
    curve_text (x_of p.window turn.place) (leaving_of giver taker) (x_of p.window meal.from) (coming_of giver taker)

-- a task, and what it did at a line, behind a text
unfoldable pub doing_at : Picture → List ℕ → Task → List ℕ → ℕ → List ℕ
doing_at p opening t did place = opening ++ markup_name p t ++ (did ++ decimal place)

-- the title's first half: who gave the turn, and when
unfoldable pub giving_text : Picture → Turn → List ℕ
giving_text p turn = doing_at p (codes "\"><title>") turn.giver (codes " gave the turn at line ") turn.place

-- its other half: who took the turn, and when
unfoldable pub taking_text : Picture → Bar → List ℕ
taking_text p meal = doing_at p (codes ", ") meal.task (codes " took it at line ") meal.from ++ path_end

-- the arrow of a turn that a meal took, between the lanes of these numbers
unfoldable pub turn_in : Picture → ℕ → ℕ → Turn → Bar → List ℕ
turn_in p giver taker turn meal = turn_curve p giver taker turn meal ++ giving_text p turn ++ taking_text p meal

-- the arrow, where both have a lane
abbrev pub turn_at : Picture → Option ℕ → Option ℕ → Turn → Bar → List ℕ
turn_at p None taker turn meal = []
turn_at p (Some giver) None turn meal = []
turn_at p (Some giver) (Some taker) turn meal = turn_in p giver taker turn meal

-- the arrow, if a turn was given
abbrev pub arrow_of : Picture → Option Turn → Bar → List ℕ
arrow_of p None meal = []
arrow_of p (Some turn) meal = turn_at p (row_of p turn.giver) (row_of p meal.task) turn meal

-- the arrow of a bar: meals take turns
abbrev pub arrow_by : Picture → BarKind → Bar → List ℕ
arrow_by p Meal meal = arrow_of p meal.turn meal
arrow_by p KeptWaiting bar = []
arrow_by p MayBegin bar = []

-- the arrow of a bar, if its kind has one
abbrev pub arrow_text : Picture → Bar → List ℕ
arrow_text p bar = arrow_by p bar.kind bar

-- ---- joins, leaves and refused calls

-- a sign at a point, up to its title
unfoldable pub sign_text : List ℕ → ℕ → ℕ → List ℕ → List ℕ
sign_text opening x y shape = point_text opening x y ++ shape ++ codes "\"><title>"

-- what happens at a line, and the end of the sign
unfoldable pub line_text : List ℕ → ℕ → List ℕ
line_text said place = said ++ (codes ", line " ++ decimal place) ++ path_end

-- the sign of a task that joins, in the lane of this number
unfoldable pub joining_in : Picture → ℕ → TaskMark → List ℕ
joining_in p row m =
    sign_text (codes "<path class=\"j\" d=\"M") (x_of p.window m.place) (y_of row + 9) (codes "v16")
    ++ markup_name p m.task ++ line_text (codes " joins") m.place

-- the sign of a task that joins, if the task has a lane
abbrev pub joining_text : Picture → TaskMark → List ℕ
joining_text p m = if_lane (λ row. joining_in p row m) (row_of p m.task)

-- the sign of a task that leaves, in the lane of this number
unfoldable pub leaving_in : Picture → ℕ → TaskMark → List ℕ
leaving_in p row m =
    sign_text (codes "<path class=\"l\" d=\"M") (x_of p.window m.place - 4) (y_of row + 13) (codes "l8 8m0-8l-8 8")
    ++ markup_name p m.task ++ line_text (codes " leaves") m.place

-- the sign of a task that leaves, if the task has a lane
abbrev pub leaving_text : Picture → TaskMark → List ℕ
leaving_text p m = if_lane (λ row. leaving_in p row m) (row_of p m.task)

-- where the sign of a refused call stands: at the lower side of the lane of its task, or above all lanes
abbrev pub refused_y : Option ℕ → ℕ
refused_y None = 60
refused_y (Some row) = y_of row + 28

-- the entry of a refused call
abbrev pub refused_entry : RefusedCall → Entry
refused_entry m = record { pass = m.pass; call = m.call; reply = refused m.refusal }

-- the sign of a refused call, in the lane of this number if there is one: its title is the line of the journal
unfoldable pub refused_in : Picture → Option ℕ → RefusedCall → List ℕ
refused_in p row m =
    sign_text (codes "<path class=\"n\" d=\"M") (x_of p.window m.place) (refused_y row) (codes "l-4 6h8z")
    ++ entry_text (refused_entry m) ++ line_text [] m.place

-- the sign of a refused call, in the lane of the task that it names first
abbrev pub refused_text : Picture → RefusedCall → List ℕ
refused_text p m = refused_in p (row_of_any p (named_first m.call)) m

-- ---- conflicts

-- a line between two lanes, of a look
unfoldable pub between_text : List ℕ → ℕ → ℕ → ℕ → List ℕ
between_text opening x y1 y2 = point_text opening x y1 ++ (codes "V" ++ decimal y2) ++ codes "\"><title>"

-- what becomes of whose conflict
unfoldable pub ends_text : Picture → List ℕ → ConflictMark → List ℕ
ends_text p word m = word ++ markup_name p m.first ++ codes " and " ++ markup_name p m.second

-- a conflict between the lanes of these numbers, that is declared or taken away
unfoldable pub conflict_in : Picture → List ℕ → List ℕ → ℕ → ℕ → ConflictMark → List ℕ
conflict_in p opening word first second m =
    between_text opening (x_of p.window m.place) (y_of first + 17) (y_of second + 17) ++ ends_text p word m
    ++ line_text [] m.place

-- a conflict, where both have a lane
abbrev pub conflict_at : Picture → List ℕ → List ℕ → Option ℕ → Option ℕ → ConflictMark → List ℕ
conflict_at p opening word None second m = []
conflict_at p opening word (Some first) None m = []
conflict_at p opening word (Some first) (Some second) m = conflict_in p opening word first second m

-- a conflict between the lanes of its two tasks
abbrev pub conflict_text : Picture → List ℕ → List ℕ → ConflictMark → List ℕ
conflict_text p opening word m = conflict_at p opening word (row_of p m.first) (row_of p m.second) m
