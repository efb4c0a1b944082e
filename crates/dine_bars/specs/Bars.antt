-- What a task does in a table, and which places bars cover. Place n of a history is the table after n of its entries.
use Rattle.std.specs.Prelude.{ℕ, nat_le, nat_lt, Bool, true, false, ◌&&◌, if◌then◌else◌, List, Option, Some, None}
use Rattle.std.specs.List.{count_by, list_any}
use Rattle.dine_words.specs.declared.task.Task.{Task}
use Rattle.dine_words.specs.declared.task.State.{State}
use Rattle.dine_words.specs.declared.task.State.TheVariants.{Thinking, Hungry, Eating}
use Rattle.dine_table.specs.Table.{Table, same_task, state_of, is_ready}
use Rattle.dine_bars.specs.declared.bar.BarKind.{BarKind}
use Rattle.dine_bars.specs.declared.bar.BarKind.TheVariants.{Meal, KeptWaiting, MayBegin}
use Rattle.dine_bars.specs.declared.bar.Bar.{Bar}
use Rattle.dine_bars.specs.declared.mark.Mark.{Mark}
use Rattle.dine_bars.specs.declared.mark.Mark.TheVariants as mark

-- ---- what a task does

-- what is drawn of a task in a state: a hungry one may begin where it is ready. Nothing is drawn where it thinks or is
-- absent
abbrev pub kind_in : Bool → Option State → Option BarKind
kind_in ready None = None
kind_in ready (Some Thinking) = None
kind_in ready (Some Hungry) = Some (if ready then MayBegin else KeptWaiting)
kind_in ready (Some Eating) = Some Meal

-- what is drawn of u in the table
abbrev pub kind_at : Table → Task → Option BarKind
kind_at t u = kind_in (is_ready t u) (state_of t u)

-- both are one kind
abbrev pub same_kind : BarKind → BarKind → Bool
same_kind Meal Meal = true
same_kind KeptWaiting KeptWaiting = true
same_kind MayBegin MayBegin = true
same_kind _ _ = false

-- a kind is drawn, and it is k
abbrev pub is_kind : BarKind → Option BarKind → Bool
is_kind k None = false
is_kind k (Some drawn) = same_kind drawn k

-- ---- what bars cover

-- the place is the first or a later one, and before the other
abbrev pub is_within : ℕ → ℕ → ℕ → Bool
is_within from to n = nat_le from n && nat_lt n to

-- there is a bar, and it covers the place
abbrev pub covered_by : Option Bar → ℕ → Bool
covered_by None n = false
covered_by (Some bar) n = is_within bar.from bar.to n

-- the bar says that u does this at the place
abbrev pub bar_says : Task → BarKind → ℕ → Bar → Bool
bar_says u k n bar = same_task bar.task u && (same_kind bar.kind k && is_within bar.from bar.to n)

-- the mark is a bar that says so
abbrev pub mark_says : Task → BarKind → ℕ → Mark → Bool
mark_says u k n (mark.Bar bar) = bar_says u k n bar
mark_says u k n (mark.Joined at) = false
mark_says u k n (mark.Left at) = false
mark_says u k n (mark.Declared at) = false
mark_says u k n (mark.Separated at) = false
mark_says u k n (mark.Refused call) = false

-- a bar of u of this kind is drawn over the place
abbrev pub is_drawn : List Mark → Task → BarKind → ℕ → Bool
is_drawn marks u k n = list_any (mark_says u k n) marks

-- the mark is a bar of u that covers the place, whatever it says
abbrev pub is_over : Task → ℕ → Mark → Bool
is_over u n (mark.Bar bar) = same_task bar.task u && is_within bar.from bar.to n
is_over u n (mark.Joined at) = false
is_over u n (mark.Left at) = false
is_over u n (mark.Declared at) = false
is_over u n (mark.Separated at) = false
is_over u n (mark.Refused call) = false

-- how many bars of u cover the place
abbrev pub bars_over : List Mark → Task → ℕ → ℕ
bars_over marks u n = count_by (is_over u n) marks

-- the mark is a bar of a meal of u
abbrev pub is_meal_of : Task → Mark → Bool
is_meal_of u (mark.Bar bar) = same_task bar.task u && same_kind bar.kind Meal
is_meal_of u (mark.Joined at) = false
is_meal_of u (mark.Left at) = false
is_meal_of u (mark.Declared at) = false
is_meal_of u (mark.Separated at) = false
is_meal_of u (mark.Refused call) = false

-- how many meals of u are drawn
abbrev pub meals_drawn : List Mark → Task → ℕ
meals_drawn marks u = count_by (is_meal_of u) marks
