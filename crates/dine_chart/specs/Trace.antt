-- The text of a history in Chrome's trace format: JSON, an event for each mark. A task is a thread of one process, and a
-- place is a microsecond.
use Rattle.std.specs.Prelude.{ℕ, ◌+◌, ◌-◌, ◌^◌, min, nat_lt, Bool, ◌&&◌, if◌then◌else◌, List, [], ◌++◌, codes, Option, Some, None}
use Rattle.std.specs.List.{filter, flat_map}
use Rattle.dine_words.specs.declared.call.Refusal.{Refusal}
use Rattle.dine_words.specs.declared.call.Refusal.TheVariants.{Full, Unknown, Same, Already, Apart, BothEating, NoRoom, WrongState, NotYet}
use Rattle.dine_words.specs.declared.task.Task.{Task}
use Rattle.dine_words.specs.Texts.{entry_text}
use Rattle.dine_journal.specs.Kept.{Journal}
use Rattle.dine_bars.specs.declared.bar.Bar.{Bar}
use Rattle.dine_bars.specs.declared.bar.BarKind.{BarKind}
use Rattle.dine_bars.specs.declared.bar.BarKind.TheVariants.{Meal, KeptWaiting, MayBegin}
use Rattle.dine_bars.specs.declared.bar.Turn.{Turn}
use Rattle.dine_bars.specs.declared.bar.Window.{Window}
use Rattle.dine_bars.specs.declared.mark.ConflictMark.{ConflictMark}
use Rattle.dine_bars.specs.declared.mark.Mark.{Mark}
use Rattle.dine_bars.specs.declared.mark.Mark.TheVariants as mark
use Rattle.dine_bars.specs.declared.mark.RefusedCall.{RefusedCall}
use Rattle.dine_bars.specs.declared.mark.TaskMark.{TaskMark}
use Rattle.dine_bars.specs.Bars.{is_within}
use Rattle.dine_bars.specs.Marks.{marks_of, named_first}
use Rattle.dine_lines.specs.declared.label.Label.{Label}
use Rattle.dine_chart.specs.Elements.{refused_entry}
use Rattle.dine_chart.specs.declared.escape.Setting.TheVariants.{Json}
use Rattle.dine_chart.specs.Picture.{given_in, name_in}
use Rattle.dine_chart.specs.Pieces.{numbered}

-- ---- lanes: threads

-- the number of a task's thread: each task has its own
abbrev pub thread_of : Task → ℕ
thread_of t = min (t.born + 2) (2 ^ 64 - 1)

-- a call that names no task is in thread 1
abbrev pub thread_of_any : Option Task → ℕ
thread_of_any None = 1
thread_of_any (Some t) = thread_of t

-- so is one that was refused since a task that it names isn't present
abbrev pub thread_of_refused : Refusal → Option Task → ℕ
thread_of_refused Unknown t = 1
thread_of_refused Full t = thread_of_any t
thread_of_refused Same t = thread_of_any t
thread_of_refused Already t = thread_of_any t
thread_of_refused Apart t = thread_of_any t
thread_of_refused BothEating t = thread_of_any t
thread_of_refused NoRoom t = thread_of_any t
thread_of_refused (WrongState found) t = thread_of_any t
thread_of_refused NotYet t = thread_of_any t

-- an event in a thread at a place, up to its time
unfoldable pub event_text : List ℕ → ℕ → ℕ → List ℕ
event_text opening thread place = numbered opening thread ++ numbered (codes ",\"ts\":") place

-- ---- bars, and the turns that they took

-- what the task does, and the end of the event
abbrev pub doing_end : BarKind → List ℕ
doing_end Meal = codes ",\"name\":\"eats\"}"
doing_end KeptWaiting = codes ",\"name\":\"kept waiting\"}"
doing_end MayBegin = codes ",\"name\":\"may begin\"}"

-- a bar: from where on, and over how many places
unfoldable pub bar_event : Bar → List ℕ
bar_event bar =
    event_text (codes ",\n{\"ph\":\"X\",\"pid\":1,\"tid\":") (thread_of bar.task) bar.from
    ++ numbered (codes ",\"dur\":") (bar.to - bar.from) ++ doing_end bar.kind

-- what the two ends of an arrow have in common: the number of the arrow
unfoldable pub flow_end : ℕ → List ℕ
flow_end number = numbered (codes ",\"cat\":\"turn\",\"id\":") number ++ codes ",\"name\":\"turn\"}"

-- where the arrow of a turn begins: in the last place of what the giver did
unfoldable pub giving_event : Turn → Bar → List ℕ
giving_event turn meal =
    event_text (codes ",\n{\"ph\":\"s\",\"pid\":1,\"tid\":") (thread_of turn.giver) (turn.place - 1)
    ++ flow_end meal.from

-- where it ends: in the first place of the meal. Its number is that place, for no two meals begin at one
unfoldable pub taking_event : Bar → List ℕ
taking_event meal =
    event_text (codes ",\n{\"ph\":\"f\",\"bp\":\"e\",\"pid\":1,\"tid\":") (thread_of meal.task) meal.from
    ++ flow_end meal.from

-- the arrow of a bar, if it is a meal that took a turn
abbrev pub turn_events : BarKind → Option Turn → Bar → List ℕ
turn_events Meal (Some turn) bar = giving_event turn bar ++ taking_event bar
turn_events Meal None bar = []
turn_events KeptWaiting turn bar = []
turn_events MayBegin turn bar = []

-- a bar, and its arrow
abbrev pub bar_events : Bar → List ℕ
bar_events bar = bar_event bar ++ turn_events bar.kind bar.turn bar

-- ---- what happens at a place

-- the name of a task's thread
unfoldable pub naming_event : List Label → Task → List ℕ
naming_event labels t =
    numbered (codes ",\n{\"ph\":\"M\",\"name\":\"thread_name\",\"pid\":1,\"tid\":") (thread_of t)
    ++ codes ",\"args\":{\"name\":\"" ++ name_in Json (given_in labels t) t ++ codes "\"}}"

-- what stands before the text of something that happens at a place
unfoldable pub instant_opening : ℕ → ℕ → List ℕ
instant_opening thread place =
    event_text (codes ",\n{\"ph\":\"i\",\"s\":\"t\",\"pid\":1,\"tid\":") thread place ++ codes ",\"name\":\""

-- a task joins or leaves
unfoldable pub task_event : List ℕ → TaskMark → List ℕ
task_event word m = instant_opening (thread_of m.task) m.place ++ word ++ codes "\"}"

-- a text, and the name of a task behind it
unfoldable pub with_name : List Label → List ℕ → Task → List ℕ
with_name labels text t = text ++ name_in Json (given_in labels t) t

-- a conflict that is declared or taken away
unfoldable pub conflict_event : List Label → List ℕ → ConflictMark → List ℕ
conflict_event labels word m =
    instant_opening (thread_of m.first) m.place
    ++ with_name labels word m.first ++ with_name labels (codes " ") m.second ++ codes "\"}"

-- a refused call: the line of the journal
unfoldable pub refused_event : RefusedCall → List ℕ
refused_event m =
    instant_opening (thread_of_refused m.refusal (named_first m.call)) m.place
    ++ entry_text (refused_entry m) ++ codes "\"}"

-- a task joins: its thread gets its name, and in a window that has the place this is seen
abbrev pub joined_events : List Label → Window → TaskMark → List ℕ
joined_events labels w m =
    naming_event labels m.task ++ (if is_within w.from w.to m.place then task_event (codes "joins") m else [])

-- ---- marks

-- the events of a mark
abbrev pub mark_events : List Label → Window → Mark → List ℕ
mark_events labels w (mark.Bar bar) = bar_events bar
mark_events labels w (mark.Joined m) = joined_events labels w m
mark_events labels w (mark.Left m) = task_event (codes "leaves") m
mark_events labels w (mark.Declared m) = conflict_event labels (codes "conflict ") m
mark_events labels w (mark.Separated m) = conflict_event labels (codes "separate ") m
mark_events labels w (mark.Refused m) = refused_event m

-- the mark has events in the window: a place of a bar, and else the place of the call. Who joined before it is named too
abbrev pub is_traced : Window → Mark → Bool
is_traced w (mark.Bar bar) = nat_lt bar.from w.to && nat_lt w.from bar.to
is_traced w (mark.Joined m) = nat_lt m.place w.to
is_traced w (mark.Left m) = is_within w.from w.to m.place
is_traced w (mark.Declared m) = is_within w.from w.to m.place
is_traced w (mark.Separated m) = is_within w.from w.to m.place
is_traced w (mark.Refused m) = is_within w.from w.to m.place

-- the events of those of the marks that have some in the window, one after the other
abbrev pub events_text : List Label → Window → List Mark → List ℕ
events_text labels w marks = flat_map (mark_events labels w) (filter (is_traced w) marks)

-- ---- the whole

-- the beginning, the name of the process, and that of thread 1
unfoldable pub trace_opening : List ℕ
trace_opening = codes "{\"displayTimeUnit\":\"ns\",\"traceEvents\":[\n{\"ph\":\"M\",\"name\":\"process_name\",\"pid\":1,\"args\":{\"name\":\"hygienic\"}},\n{\"ph\":\"M\",\"name\":\"thread_name\",\"pid\":1,\"tid\":1,\"args\":{\"name\":\"other calls\"}}"

-- the end
unfoldable pub trace_end : List ℕ
trace_end = codes "\n]}\n"

-- the trace of the places of a journal that a window has
unfoldable pub trace_text : List Label → Window → Journal → List ℕ
trace_text labels w journal =
    trace_opening ++ events_text labels w (marks_of journal.limits journal.entries) ++ trace_end
