-- Histories: the table that calls leave, which histories are legal, and who overtakes whom.
use Rattle.std.specs.Prelude.{◌≡◌, ℕ, ◌+◌, max, Bool, false, ◌&&◌, if◌then◌else◌, List, [], ◌∷◌, Option, Some, None}
use Rattle.dine_words.specs.declared.task.Task.{Task}
use Rattle.dine_words.specs.declared.task.State.TheVariants.{Hungry, Eating}
use Rattle.dine_words.specs.declared.call.Call.{Call}
use Rattle.dine_words.specs.declared.entry.Entry.{Entry}
use Rattle.dine_words.specs.declared.limits.Limits.{Limits}
use Rattle.dine_words.specs.Waits.{is_done}
use Rattle.dine_table.specs.Table.{Table, opening_table, same_state, same_task, is_found, are_in_conflict}
use Rattle.dine_table.specs.Calls.{reply_of, table_after_call}
use Rattle.dine_table.specs.Transitions.{transition_of, is_asked_of}

-- the table that the calls of the entries leave, from the table t
abbrev pub table_from : Table → List Entry → Table
table_from t [] = t
table_from t (e ∷ es) = table_from (table_after_call t e.call) es

-- from the table t on, each reply is the table's
abbrev pub IsLegalFrom : Table → List Entry → Type 0
IsLegalFrom t [] = Unit {0}
IsLegalFrom t (e ∷ es) = (e.reply ≡ reply_of t e.call) × IsLegalFrom (table_after_call t e.call) es

-- the table that a history leaves
abbrev pub table_after : Limits → List Entry → Table
table_after limits history = table_from (opening_table limits) history

-- the history is legal: each reply is the table's, from nobody present on
abbrev pub IsLegal : Limits → List Entry → Type 0
IsLegal limits history = IsLegalFrom (opening_table limits) history

-- ---- who overtakes whom

-- the call asks that u be hungry
abbrev pub is_hungry_of : Task → Call → Bool
is_hungry_of u c = is_asked_of u (λ asked. is_found Hungry asked.after) (transition_of c)

-- the call asks that u eat
abbrev pub is_begin_of : Task → Call → Bool
is_begin_of u c = is_asked_of u (λ asked. is_found Eating asked.after) (transition_of c)

-- the call asks that u be hungry no longer: that it eat, or that it withdraw
abbrev pub is_end_of_hunger_of : Task → Call → Bool
is_end_of_hunger_of u c = is_asked_of u (λ asked. same_state Hungry asked.before) (transition_of c)

-- the call was accepted: u is hungry
abbrev pub starts_hunger : Task → Entry → Bool
starts_hunger u e = is_hungry_of u e.call && is_done e.reply

-- the call was accepted: u eats
abbrev pub grants_meal : Task → Entry → Bool
grants_meal u e = is_begin_of u e.call && is_done e.reply

-- it is the task u that is there
abbrev pub is_task : Task → Option Task → Bool
is_task u None = false
is_task u (Some v) = same_task u v

-- the call was accepted: u is hungry no longer
abbrev pub ends_hunger : Task → Entry → Bool
ends_hunger u e = is_end_of_hunger_of u e.call && is_done e.reply

-- how often v begins to eat before u's hunger ends, while they are in conflict. t is the table before the entries
abbrev pub meals_ahead : Table → Task → Task → List Entry → ℕ
meals_ahead t u v [] = 0
meals_ahead t u v (e ∷ es) =
    if ends_hunger u e then 0
    else (if grants_meal v e && are_in_conflict t u v then 1 else 0) + meals_ahead (table_after_call t e.call) u v es

-- the most of these over all hungers of u
abbrev pub overtaken_from : Table → Task → Task → List Entry → ℕ
overtaken_from t u v [] = 0
overtaken_from t u v (e ∷ es) =
    let next = table_after_call t e.call in
    if starts_hunger u e then max (meals_ahead next u v es) (overtaken_from next u v es) else overtaken_from next u v es

-- the most meals that v began in one hunger of u while they were in conflict
abbrev pub overtaken : Limits → List Entry → Task → Task → ℕ
overtaken limits history u v = overtaken_from (opening_table limits) u v history
