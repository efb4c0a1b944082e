-- What the replies of a history tell of its tasks, without the table: who is present, in which state, and the board that
-- they leave, with one place for each slot.
use Rattle.std.specs.Prelude.{◌≡◌, Bool, false, ◌&&◌, ◌++◌, ◌==◌, if◌then◌else◌, List, [], ◌∷◌, replicate, slice_get, slice_set, Option, Some, None, is_none, option_and_then, option_map}
use Rattle.std.specs.List.{AllByRecursion}
use Rattle.dine_words.specs.declared.task.Task.{Task}
use Rattle.dine_words.specs.declared.task.State.{State}
use Rattle.dine_words.specs.declared.task.State.TheVariants.{Thinking}
use Rattle.dine_words.specs.declared.call.Call.{Call}
use Rattle.dine_words.specs.declared.call.Reply.{Reply}
use Rattle.dine_words.specs.declared.call.Reply.TheVariants.{Joined, Done, Refused}
use Rattle.dine_words.specs.declared.entry.Entry.{Entry}
use Rattle.dine_words.specs.declared.limits.Limits.{Limits}
use Rattle.dine_words.specs.Waits.{is_done}
use Rattle.dine_table.specs.Table.{same_task}
use Rattle.dine_table.specs.Transitions.{transition_of, is_asked_of}
use Rattle.dine_journal.specs.declared.board.Change.{Change}
use Rattle.dine_journal.specs.declared.board.Place.{Place}

-- ---- who is present

-- the call asks that u leave
abbrev pub is_leave_of : Task → Call → Bool
is_leave_of u c = is_asked_of u (λ asked. is_none asked.after) (transition_of c)

-- u left: the call was accepted
abbrev pub leaves : Task → Entry → Bool
leaves u e = is_leave_of u e.call && is_done e.reply

-- u joined, and did not leave since
pub record HasStayed (u : Task) (history : List Entry) : Type 0 where
  pub before : List Entry
  pub joining : Entry
  pub after : List Entry
  pub splits : history ≡ before ++ joining ∷ after
  pub joined : joining.reply ≡ Joined u
  pub stayed : AllByRecursion (λ e. leaves u e ≡ false) after

-- ---- in which state

-- the state in which a call leaves its task, where it was accepted: None for a call that gives no task a state
abbrev pub left_by_call : Call → Option (Task × State)
left_by_call c = option_and_then (λ asked. option_map (λ s. (asked.task, s)) asked.after) (transition_of c)

-- the state in which an entry leaves its task: None where the call was refused, too
abbrev pub left_by : Entry → Option (Task × State)
left_by e = if is_done e.reply then left_by_call e.call else None

-- the state in which u is left, and the old one where another task is left or none
abbrev pub left_or : Task → State → Option (Task × State) → State
left_or u old None = old
left_or u old (Some left) = if same_task left.0 u then left.1 else old

-- the state in which the last entry left u that left it in one, and the old one where none did
abbrev pub last_left_from : Task → State → List Entry → State
last_left_from u old [] = old
last_left_from u old (e ∷ es) = last_left_from u (left_or u old (left_by e)) es

-- what the last accepted Hungry, Begin, Finish or Withdraw of u left: thinking where there is none
abbrev pub last_left : Task → List Entry → State
last_left u history = last_left_from u Thinking history

-- ---- what an entry tells

-- the task has this state from then on, and is gone where it is None
abbrev pub has_from_now : Task → Option State → Option Change
has_from_now u state = Some (record { task = u; state = state })

-- what a call tells that was answered Done
abbrev pub told_by_done : Call → Option Change
told_by_done c = option_and_then (λ asked. has_from_now asked.task asked.after) (transition_of c)

-- what a call tells with its reply. A refusal tells of no task
abbrev pub told_by_reply : Call → Reply → Option Change
told_by_reply c (Joined u) = has_from_now u (Some Thinking)
told_by_reply c Done = told_by_done c
told_by_reply c (Refused refusal) = None

-- what an entry tells: of which task, and its state from then on. None where it tells of no task
abbrev pub told_by : Entry → Option Change
told_by e = told_by_reply e.call e.reply

-- ---- the board

-- the places, with what is told of a task put at the place of its slot
abbrev pub put_told : List Place → Option Change → List Place
put_told places None = places
put_told places (Some told) = slice_set places told.task.slot (record { born = told.task.born; state = told.state })

-- the places once these entries were put at them
abbrev pub board_from : List Place → List Entry → List Place
board_from places [] = places
board_from places (e ∷ es) = board_from (put_told places (told_by e)) es

-- a place at which nobody sat
abbrev pub empty_place : Place
empty_place = record { born = 0; state = None }

-- the board of a table with nobody present
abbrev pub opening_board : Limits → List Place
opening_board limits = replicate limits.tasks empty_place

-- the board that a history leaves
abbrev pub board_after : Limits → List Entry → List Place
board_after limits history = board_from (opening_board limits) history

-- the state at a place, if it is u that sits there
abbrev pub shown_in : Option Place → Task → Option State
shown_in None u = None
shown_in (Some place) u = if place.born == u.born then place.state else None

-- the state of u that the board shows
abbrev pub shown_at : List Place → Task → Option State
shown_at places u = shown_in (slice_get places u.slot) u
