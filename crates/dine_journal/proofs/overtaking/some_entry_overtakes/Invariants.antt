use Rattle.std.proofs.Common.{◌≡◌, ◌≤◌, drop}
use Rattle.dine_table.specs.Sound.{IsSound}
use Rattle.dine_journal.specs.Overtaking.{overtakes_at, some_entry}
use Rattle.dine_journal.proofs.overtaking.some_entry_overtakes.Given as goal

-- no entry so far shows it, so what the rest shows is what all show; the arbiter stands where these entries leave it
abbrev pub invariant-loop-place : goal.invariant-loop-place
invariant-loop-place l =
    record {
      sound : IsSound l.arbiter.table;
      clock : l.arbiter.table.clock ≤ l.place;
      whole : some_entry (overtakes_at l.task l.other) l.arbiter.table (drop l.place l.history) ≡ some_entry (overtakes_at l.task l.other) l.initial.arbiter.table l.history;
    }
