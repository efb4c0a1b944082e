-- Which entries lie flat, and the entries that lie there.
use Rattle.std.proofs.Common.{◌≡◌, List, [], ◌∷◌, ◌++◌, Option, Some, None, ap, sym, ◌∙◌, subst}
use Rattle.std.proofs.lemmas.List.{map-append}
use Rattle.dine_words.specs.declared.call.Call.{Call}
use Rattle.dine_words.specs.declared.call.Call.TheVariants as call
use Rattle.dine_words.specs.declared.call.Refusal.{Refusal}
use Rattle.dine_words.specs.declared.call.Reply.{Reply}
use Rattle.dine_words.specs.declared.call.Reply.TheVariants.{Done}
use Rattle.dine_words.specs.declared.entry.Entry.{Entry}
use Rattle.dine_table.specs.Table.{Table}
use Rattle.dine_table.specs.Calls.{refusal_of, reply_of, reply_unless}
use Rattle.dine_journal.specs.declared.flat.FlatEntry.{FlatEntry}
use Rattle.dine_journal.specs.declared.flat.FlatReceipt.{FlatReceipt}
use Rattle.dine_journal.specs.declared.hall.Answer.{Answer}
use Rattle.dine_journal.specs.Flat.{JoinsAlone, NamesNobody, entries_of, entry_of, receipt_of, receipts_of_flat}

-- what is answered in place of a name names nobody
names_nobody : (refusal : Option Refusal) → NamesNobody (reply_unless refusal Done)
names_nobody None = tt
names_nobody (Some refusal) = tt

-- the table tells only a join a name
pub joins_alone : (t : Table) (c : Call) → JoinsAlone c (reply_of t c)
joins_alone t call.Join = tt
joins_alone t (call.Leave u) = names_nobody (refusal_of t (call.Leave u))
joins_alone t (call.Conflict u v) = names_nobody (refusal_of t (call.Conflict u v))
joins_alone t (call.Separate u v) = names_nobody (refusal_of t (call.Separate u v))
joins_alone t (call.Hungry u) = names_nobody (refusal_of t (call.Hungry u))
joins_alone t (call.Begin u) = names_nobody (refusal_of t (call.Begin u))
joins_alone t (call.Finish u) = names_nobody (refusal_of t (call.Finish u))
joins_alone t (call.Withdraw u) = names_nobody (refusal_of t (call.Withdraw u))

-- so of a reply that is the table's
pub told_joins_alone : (t : Table) (c : Call) (reply : Reply) → reply ≡ reply_of t c → JoinsAlone c reply
told_joins_alone t c reply is = subst (JoinsAlone c) (sym is) (joins_alone t c)

-- one more lies there
pub entries-append : (flats more : List FlatEntry) (flat : FlatEntry) (e : Entry) → more ≡ flats ++ flat ∷ [] → entry_of flat ≡ e → entries_of more ≡ entries_of flats ++ e ∷ []
entries-append flats more flat e is same =
    ap (λ l. entries_of l) is ∙ (map-append entry_of flats (flat ∷ []) ∙ ap (λ (x : Entry). entries_of flats ++ x ∷ []) same)

-- and one more receipt
pub receipts-append : (flats more : List FlatReceipt) (flat : FlatReceipt) (r : Call × Answer) → more ≡ flats ++ flat ∷ [] → receipt_of flat ≡ r → receipts_of_flat more ≡ receipts_of_flat flats ++ r ∷ []
receipts-append flats more flat r is same =
    ap (λ l. receipts_of_flat l) is ∙ (map-append receipt_of flats (flat ∷ []) ∙ ap (λ (x : Call × Answer). receipts_of_flat flats ++ x ∷ []) same)
