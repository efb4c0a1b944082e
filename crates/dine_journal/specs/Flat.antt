-- How entries and receipts lie in memory: the numbers of both tasks side by side, and the kinds of the call and of the
-- reply.
use Rattle.std.specs.Prelude.{◌≡◌, ℕ, List, false, is_some, map}
use Rattle.dine_words.specs.declared.task.Task.{Task}
use Rattle.dine_words.specs.declared.task.State.TheVariants.{Thinking, Hungry, Eating}
use Rattle.dine_words.specs.declared.call.Call.{Call}
use Rattle.dine_words.specs.declared.call.Call.TheVariants as call
use Rattle.dine_words.specs.declared.call.Refusal.TheVariants.{Full, Unknown, Same, Already, Apart, BothEating, NoRoom, WrongState, NotYet}
use Rattle.dine_words.specs.declared.call.Reply.{Reply}
use Rattle.dine_words.specs.declared.call.Reply.TheVariants.{Joined, Done, Refused}
use Rattle.dine_words.specs.declared.entry.Entry.{Entry}
use Rattle.dine_journal.specs.declared.hall.Answer.{Answer}
use Rattle.dine_journal.specs.declared.flat.CallKind.{CallKind}
use Rattle.dine_journal.specs.declared.flat.CallKind.TheVariants as kind
use Rattle.dine_journal.specs.declared.flat.ReplyKind.{ReplyKind}
use Rattle.dine_journal.specs.declared.flat.ReplyKind.TheVariants as told
use Rattle.dine_journal.specs.declared.flat.FlatEntry.{FlatEntry}
use Rattle.dine_journal.specs.declared.flat.FlatReceipt.{FlatReceipt}
use Rattle.dine_journal.specs.declared.flat.FlatReceipt.TheVariants.{Short, Long}
use Rattle.dine_journal.specs.declared.flat.Aside.{Aside}

-- the call of a kind, on these tasks
abbrev pub call_of : CallKind → Task → Task → Call
call_of kind.Join u v = call.Join
call_of kind.Leave u v = call.Leave u
call_of kind.Conflict u v = call.Conflict u v
call_of kind.Separate u v = call.Separate u v
call_of kind.Hungry u v = call.Hungry u
call_of kind.Begin u v = call.Begin u
call_of kind.Finish u v = call.Finish u
call_of kind.Withdraw u v = call.Withdraw u

-- the reply of a kind, which names this task if it names one
abbrev pub reply_with : ReplyKind → Task → Reply
reply_with told.Joined u = Joined u
reply_with told.Done u = Done
reply_with told.Full u = Refused Full
reply_with told.Unknown u = Refused Unknown
reply_with told.Same u = Refused Same
reply_with told.Already u = Refused Already
reply_with told.Apart u = Refused Apart
reply_with told.BothEating u = Refused BothEating
reply_with told.NoRoom u = Refused NoRoom
reply_with told.Thinks u = Refused (WrongState Thinking)
reply_with told.Hungers u = Refused (WrongState Hungry)
reply_with told.Eats u = Refused (WrongState Eating)
reply_with told.NotYet u = Refused NotYet

-- the first task that lies there: the one that the call names first, or that its join is told
abbrev pub first_of : FlatEntry → Task
first_of flat = record { slot = flat.first_slot; born = flat.first_born }

-- the second task that lies there. It means nothing where the call names one task or none
abbrev pub second_of : FlatEntry → Task
second_of flat = record { slot = flat.second_slot; born = flat.second_born }

-- the entry that lies there. The reply names the first task, since only a join is told a name, and it names no task itself
abbrev pub entry_of : FlatEntry → Entry
entry_of flat =
    record {
      pass = flat.pass;
      call = call_of flat.call (first_of flat) (second_of flat);
      reply = reply_with flat.reply (first_of flat);
    }

-- the entries that lie there
abbrev pub entries_of : List FlatEntry → List Entry
entries_of flats = map entry_of flats

-- the entry that a receipt is for. A short one has no second task, and leaves out which pass it is of
abbrev pub lying_in : FlatReceipt → FlatEntry
lying_in (Short call reply slot born place) =
    record {
      first_born = born;
      second_born = 0;
      first_slot = slot;
      second_slot = 0;
      pass = 0;
      call = call;
      reply = reply;
    }
lying_in (Long entry place) = entry.value

-- where that entry stands
abbrev pub place_of : FlatReceipt → ℕ
place_of (Short call reply slot born place) = place
place_of (Long entry place) = place

-- the receipt that lies there: that of an entry at a place
abbrev pub receipt_of : FlatReceipt → Call × Answer
receipt_of flat =
    ((entry_of (lying_in flat)).call, record { place = place_of flat; reply = (entry_of (lying_in flat)).reply })

-- the receipts that lie there
abbrev pub receipts_of_flat : List FlatReceipt → List (Call × Answer)
receipts_of_flat flats = map receipt_of flats

-- ---- which entries can lie so

-- the reply names no task
abbrev pub NamesNobody : Reply → Type 0
NamesNobody (Joined u) = ⊥
NamesNobody Done = Unit {0}
NamesNobody (Refused refusal) = Unit {0}

-- only a join is told a name
abbrev pub JoinsAlone : Call → Reply → Type 0
JoinsAlone call.Join reply = Unit {0}
JoinsAlone (call.Leave u) reply = NamesNobody reply
JoinsAlone (call.Conflict u v) reply = NamesNobody reply
JoinsAlone (call.Separate u v) reply = NamesNobody reply
JoinsAlone (call.Hungry u) reply = NamesNobody reply
JoinsAlone (call.Begin u) reply = NamesNobody reply
JoinsAlone (call.Finish u) reply = NamesNobody reply
JoinsAlone (call.Withdraw u) reply = NamesNobody reply

-- the reply names this task, if it names one
abbrev pub NamesTask : Reply → Task → Type 0
NamesTask (Joined v) u = v ≡ u
NamesTask Done u = Unit {0}
NamesTask (Refused refusal) u = Unit {0}

-- ---- which receipts are short

-- the call names one task at most
abbrev pub NamesAtMostOne : Call → Type 0
NamesAtMostOne call.Join = Unit {0}
NamesAtMostOne (call.Leave u) = Unit {0}
NamesAtMostOne (call.Conflict u v) = ⊥
NamesAtMostOne (call.Separate u v) = ⊥
NamesAtMostOne (call.Hungry u) = Unit {0}
NamesAtMostOne (call.Begin u) = Unit {0}
NamesAtMostOne (call.Finish u) = Unit {0}
NamesAtMostOne (call.Withdraw u) = Unit {0}

-- there is room aside for an entry, or the call needs none
abbrev pub HasRoomAside : Call → Aside → Type 0
HasRoomAside c aside = is_some aside.entry ≡ false → NamesAtMostOne c

-- the entry of a long receipt is of this pass. A short one leaves that out, as each pass keeps its own receipts
abbrev pub IsOfPass : FlatReceipt → ℕ → Type 0
IsOfPass (Short call reply slot born place) pass = Unit {0}
IsOfPass (Long entry place) pass = entry.value.pass ≡ pass
