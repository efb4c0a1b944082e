-- All that is drawn of a history: the marks that each entry adds, and the bars that go on.
use Rattle.std.specs.Prelude.{◌≡◌, ℕ, ◌+◌, Bool, if◌then◌else◌, List, [], ◌∷◌, ◌++◌, replicate, slice_index_or, slice_set, Option, Some, None, is_none, unwrap_or}
use Rattle.dine_words.specs.declared.task.Task.{Task}
use Rattle.dine_words.specs.declared.call.Call.{Call}
use Rattle.dine_words.specs.declared.call.Call.TheVariants as call
use Rattle.dine_words.specs.declared.call.Reply.{Reply}
use Rattle.dine_words.specs.declared.call.Reply.TheVariants as reply
use Rattle.dine_words.specs.declared.entry.Entry.{Entry}
use Rattle.dine_words.specs.declared.limits.Limits.{Limits}
use Rattle.dine_table.specs.Table.{Table, opening_table, same_task, neighbours_if_present}
use Rattle.dine_table.specs.Calls.{refusal_of, reply_of, table_after_call}
use Rattle.dine_bars.specs.declared.bar.BarKind.{BarKind}
use Rattle.dine_bars.specs.declared.bar.BarKind.TheVariants.{Meal, KeptWaiting, MayBegin}
use Rattle.dine_bars.specs.declared.bar.Bar.{Bar}
use Rattle.dine_bars.specs.declared.bar.OpenBar.{OpenBar}
use Rattle.dine_bars.specs.declared.bar.Turn.{Turn}
use Rattle.dine_bars.specs.declared.mark.Mark.{Mark}
use Rattle.dine_bars.specs.declared.mark.Mark.TheVariants as mark
use Rattle.dine_bars.specs.Bars.{kind_at, is_kind}

-- what a drawing is seen as: the table, the bar that the task of each slot has now, and how many entries were taken in
pub record Drawing : Type 0 where
  pub table : Table
  pub begun : List (Option OpenBar)
  pub place : ℕ

-- the drawing of no entry
abbrev pub opening_drawn : Limits → Drawing
opening_drawn limits = record { table = opening_table limits; begun = replicate limits.tasks None; place = 0 }

-- ---- turns

-- whose finish, withdrawal or separation the call is, as the task sees it
abbrev pub giver_of : Call → Task → Option Task
giver_of (call.Finish x) u = Some x
giver_of (call.Withdraw x) u = Some x
giver_of (call.Separate x y) u = Some (if same_task y u then x else y)
giver_of call.Join u = None
giver_of (call.Leave x) u = None
giver_of (call.Conflict x y) u = None
giver_of (call.Hungry x) u = None
giver_of (call.Begin x) u = None

-- the turn that a task gives at a place
abbrev pub given_at : ℕ → Option Task → Option Turn
given_at place None = None
given_at place (Some x) = Some record { giver = x; place = place }

-- which call ended the wait of u, whose bar of one kind ends where one of another begins
abbrev pub turn_of : Call → ℕ → Task → BarKind → Option Turn → BarKind → Option Turn
turn_of c place u KeptWaiting old MayBegin = given_at place (giver_of c u)
turn_of c place u MayBegin old Meal = old
turn_of c place u KeptWaiting old KeptWaiting = None
turn_of c place u KeptWaiting old Meal = None
turn_of c place u MayBegin old KeptWaiting = None
turn_of c place u MayBegin old MayBegin = None
turn_of c place u Meal old next = None

-- the same where u may have had no bar
abbrev pub turn_after : Call → ℕ → Task → Option OpenBar → BarKind → Option Turn
turn_after c place u None next = None
turn_after c place u (Some bar) next = turn_of c place u bar.kind bar.turn next

-- ---- one look at a task

-- the bar, which ends before a place
abbrev pub bar_until : ℕ → OpenBar → Bar
bar_until to bar = record { task = bar.task; kind = bar.kind; from = bar.from; to = to; turn = bar.turn }

-- the bar is of the kind that is drawn now, or there is none and none is drawn
abbrev pub goes_on : Option OpenBar → Option BarKind → Bool
goes_on None now = is_none now
goes_on (Some bar) now = is_kind bar.kind now

-- the bar that u has from the place on
abbrev pub next_bar : Call → ℕ → Task → Option OpenBar → Option BarKind → Option OpenBar
next_bar c place u before None = None
next_bar c place u before (Some k) =
    Some record { task = u; kind = k; from = place; turn = turn_after c place u before k }

-- the mark of a bar that ends at the place
abbrev pub ended_at : ℕ → Option OpenBar → List Mark
ended_at place None = []
ended_at place (Some bar) = mark.Bar (bar_until place bar) ∷ []

-- the bar at the slot of a task
abbrev pub begun_of : List (Option OpenBar) → Task → Option OpenBar
begun_of begun u = slice_index_or begun u.slot None

-- the bars once u was looked at: its bar is another where it does something else. t is the table after the call
abbrev pub begun_by_look : Call → ℕ → Table → List (Option OpenBar) → Task → List (Option OpenBar)
begun_by_look c place t begun u =
    if goes_on (begun_of begun u) (kind_at t u) then begun
    else slice_set begun u.slot (next_bar c place u (begun_of begun u) (kind_at t u))

-- the bar that ends then
abbrev pub ended_by_look : ℕ → Table → List (Option OpenBar) → Task → List Mark
ended_by_look place t begun u =
    if goes_on (begun_of begun u) (kind_at t u) then [] else ended_at place (begun_of begun u)

-- the bars once each of the tasks was looked at
abbrev pub begun_by : Call → ℕ → Table → List (Option OpenBar) → List Task → List (Option OpenBar)
begun_by c place t begun [] = begun
begun_by c place t begun (u ∷ us) = begun_by c place t (begun_by_look c place t begun u) us

-- the bars that end then
abbrev pub ended_by : Call → ℕ → Table → List (Option OpenBar) → List Task → List Mark
ended_by c place t begun [] = []
ended_by c place t begun (u ∷ us) =
    ended_by_look place t begun u ++ ended_by c place t (begun_by_look c place t begun u) us

-- a look at u after the call: `bars` go on before it and `bars'` after it, and it adds to the marks the bar that it ends
pub record LooksAt (c : Call) (place : ℕ) (t : Table) (u : Task) (bars bars' : List (Option OpenBar)) (ms ms' : List Mark) : Type 0 where
  pub begun : bars' ≡ begun_by_look c place t bars u
  pub marks : ms' ≡ ms ++ ended_by_look place t bars u

-- a look at each of the tasks, one after the other
pub record LooksAtEach (c : Call) (place : ℕ) (t : Table) (us : List Task) (bars bars' : List (Option OpenBar)) (ms ms' : List Mark) : Type 0 where
  pub begun : bars' ≡ begun_by c place t bars us
  pub marks : ms' ≡ ms ++ ended_by c place t bars us

-- ---- one entry

-- the task that a call names first
abbrev pub named_first : Call → Option Task
named_first call.Join = None
named_first (call.Leave u) = Some u
named_first (call.Conflict u v) = Some u
named_first (call.Separate u v) = Some u
named_first (call.Hungry u) = Some u
named_first (call.Begin u) = Some u
named_first (call.Finish u) = Some u
named_first (call.Withdraw u) = Some u

-- the neighbours of a task that is present, and the task
abbrev pub beside : Table → Task → List Task
beside t u = unwrap_or (neighbours_if_present t u) [] ++ u ∷ []

-- the tasks that may do something else after an accepted call. t is the table before it
abbrev pub looked_at : Table → Call → List Task
looked_at t call.Join = []
looked_at t (call.Leave u) = []
looked_at t (call.Conflict u v) = u ∷ v ∷ []
looked_at t (call.Separate u v) = u ∷ v ∷ []
looked_at t (call.Hungry u) = beside t u
looked_at t (call.Begin u) = beside t u
looked_at t (call.Finish u) = beside t u
looked_at t (call.Withdraw u) = beside t u

-- the same of any call: a refused one changes nothing
abbrev pub looked_at_by : Table → Call → List Task
looked_at_by t c = if is_none (refusal_of t c) then looked_at t c else []

-- what is drawn of an accepted call beside bars
abbrev pub mark_of_done : ℕ → Call → List Mark
mark_of_done place (call.Leave u) = mark.Left record { task = u; place = place } ∷ []
mark_of_done place (call.Conflict u v) = mark.Declared record { first = u; second = v; place = place } ∷ []
mark_of_done place (call.Separate u v) = mark.Separated record { first = u; second = v; place = place } ∷ []
mark_of_done place call.Join = []
mark_of_done place (call.Hungry u) = []
mark_of_done place (call.Begin u) = []
mark_of_done place (call.Finish u) = []
mark_of_done place (call.Withdraw u) = []

-- what is drawn of a call by its reply, beside bars
abbrev pub marks_of_call : ℕ → ℕ → Call → Reply → List Mark
marks_of_call place pass c (reply.Joined u) = mark.Joined record { task = u; place = place } ∷ []
marks_of_call place pass c reply.Done = mark_of_done place c
marks_of_call place pass c (reply.Refused refusal) =
    mark.Refused record { place = place; pass = pass; call = c; refusal = refusal } ∷ []

-- the drawing after one more entry
abbrev pub drawn_after : Drawing → Entry → Drawing
drawn_after d e =
    let next = table_after_call d.table e.call in
    record {
      table = next;
      begun = begun_by e.call (d.place + 1) next d.begun (looked_at_by d.table e.call);
      place = d.place + 1;
    }

-- the marks that the entry adds
abbrev pub marks_at : Drawing → Entry → List Mark
marks_at d e =
    marks_of_call (d.place + 1) e.pass e.call (reply_of d.table e.call)
    ++ ended_by e.call (d.place + 1) (table_after_call d.table e.call) d.begun (looked_at_by d.table e.call)

-- ---- a history

-- the drawing after these entries
abbrev pub drawn_from : Drawing → List Entry → Drawing
drawn_from d [] = d
drawn_from d (e ∷ es) = drawn_from (drawn_after d e) es

-- the marks that they add
abbrev pub marks_from : Drawing → List Entry → List Mark
marks_from d [] = []
marks_from d (e ∷ es) = marks_at d e ++ marks_from (drawn_after d e) es

-- the bars that go on, each ending before the place
abbrev pub last_marks : ℕ → List (Option OpenBar) → List Mark
last_marks to [] = []
last_marks to (bar ∷ bars) = ended_at to bar ++ last_marks to bars

-- all marks of a history. A bar that goes on ends one place behind the last
abbrev pub marks_of : Limits → List Entry → List Mark
marks_of limits history =
    let end = drawn_from (opening_drawn limits) history in
    marks_from (opening_drawn limits) history ++ last_marks (end.place + 1) end.begun
