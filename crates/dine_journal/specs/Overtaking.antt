-- The entries at which somebody is overtaken.
use Rattle.std.specs.Prelude.{Bool, false, ◌&&◌, ◌||◌, List, [], ◌∷◌}
use Rattle.dine_words.specs.declared.task.Task.{Task}
use Rattle.dine_words.specs.declared.task.State.TheVariants.{Hungry}
use Rattle.dine_words.specs.declared.call.Call.{Call}
use Rattle.dine_words.specs.declared.call.Call.TheVariants as call
use Rattle.dine_words.specs.declared.call.Reply.{Reply}
use Rattle.dine_words.specs.declared.entry.Entry.{Entry}
use Rattle.dine_table.specs.Table.{Table, is_in, are_in_conflict}
use Rattle.dine_table.specs.Calls.{table_after_call}
use Rattle.dine_table.specs.History.{grants_meal}
use Rattle.dine_words.specs.Waits.{is_done}
use Rattle.dine_arbiter.specs.Hunger.{has_hungry_neighbour}

-- v overtakes u at the entry: it begins a meal while u is hungry and in conflict with it. t is the table after the entry
abbrev pub overtakes_at : Task → Task → Table → Entry → Bool
overtakes_at u v t e = grants_meal v e && (is_in Hungry t.order u && are_in_conflict t u v)

-- a begin is granted that leaves a neighbour hungry
abbrev pub begins_beside_hungry : Table → Call → Reply → Bool
begins_beside_hungry t (call.Begin v) reply = is_done reply && has_hungry_neighbour t v
begins_beside_hungry t call.Join reply = false
begins_beside_hungry t (call.Leave v) reply = false
begins_beside_hungry t (call.Conflict v w) reply = false
begins_beside_hungry t (call.Separate v w) reply = false
begins_beside_hungry t (call.Hungry v) reply = false
begins_beside_hungry t (call.Finish v) reply = false
begins_beside_hungry t (call.Withdraw v) reply = false

-- somebody is overtaken at the entry: a meal is begun beside a hungry neighbour. t is the table after the entry
abbrev pub overtakes_somebody : Table → Entry → Bool
overtakes_somebody t e = begins_beside_hungry t e.call e.reply

-- from the table t on, the test holds of some entry and the table after it
abbrev pub some_entry : (Table → Entry → Bool) → Table → List Entry → Bool
some_entry test t [] = false
some_entry test t (e ∷ es) = let next = table_after_call t e.call in test next e || some_entry test next es
