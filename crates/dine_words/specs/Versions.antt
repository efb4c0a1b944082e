-- The versions of a journal's text: how the header begins, which limits it can have, and which calls the entries can have.
use Rattle.std.specs.Prelude.{ℕ, ◌≤◌, Bool, false, true, List, codes}
use Rattle.dine_words.specs.declared.call.Call.{Call}
use Rattle.dine_words.specs.declared.call.Call.TheVariants as call
use Rattle.dine_words.specs.declared.call_word.CallOnOne.{CallOnOne}
use Rattle.dine_words.specs.declared.call_word.CallOnOne.TheVariants as one
use Rattle.dine_words.specs.declared.limits.Limits.{Limits}
use Rattle.dine_words.specs.declared.version.JournalVersion.{JournalVersion}
use Rattle.dine_words.specs.declared.version.JournalVersion.TheVariants as version
use Rattle.dine_words.specs.Ranges.{most_tasks, most_conflicts, most_tasks_of_version_1, most_conflicts_of_version_1}

-- the version in which journals are written
abbrev pub written_version : JournalVersion
written_version = version.Two

-- how a header of this version begins
abbrev pub opening_of : JournalVersion → List ℕ
opening_of version.One = codes "dine 1 "
opening_of version.Two = codes "dine 2 "

-- the most tasks that a header of this version can allow
abbrev pub most_tasks_of : JournalVersion → ℕ
most_tasks_of version.One = most_tasks_of_version_1
most_tasks_of version.Two = most_tasks

-- the most conflicts that a header of this version can allow
abbrev pub most_conflicts_of : JournalVersion → ℕ
most_conflicts_of version.One = most_conflicts_of_version_1
most_conflicts_of version.Two = most_conflicts

-- a header of this version can have these limits
abbrev pub AllowsLimits : JournalVersion → Limits → Type 0
AllowsLimits v limits = (limits.tasks ≤ most_tasks_of v) × (limits.conflicts ≤ most_conflicts_of v)

-- hunger can be given up in this version
abbrev pub has_withdraw : JournalVersion → Bool
has_withdraw version.One = false
has_withdraw version.Two = true

-- an entry of this version can have this call about one task
abbrev pub has_call_on_one : JournalVersion → CallOnOne → Bool
has_call_on_one v one.Leave = true
has_call_on_one v one.Hungry = true
has_call_on_one v one.Begin = true
has_call_on_one v one.Finish = true
has_call_on_one v one.Withdraw = has_withdraw v

-- an entry of this version can have this call
abbrev pub has_call : JournalVersion → Call → Bool
has_call v call.Join = true
has_call v (call.Leave u) = has_call_on_one v one.Leave
has_call v (call.Conflict t u) = true
has_call v (call.Separate t u) = true
has_call v (call.Hungry u) = has_call_on_one v one.Hungry
has_call v (call.Begin u) = has_call_on_one v one.Begin
has_call v (call.Finish u) = has_call_on_one v one.Finish
has_call v (call.Withdraw u) = has_call_on_one v one.Withdraw
