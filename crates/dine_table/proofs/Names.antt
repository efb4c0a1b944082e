-- A name is given to one task alone: it has the clock at the join, which each accepted join moves on.
use Rattle.std.proofs.Common.{◌≡◌, ℕ, ◌+◌, ◌≤◌, List, [], ◌∷◌, Option, Some, None, inl, inr, refl, sym, ap, ◌∙◌, arith}
use Rattle.std.specs.List.{AllByRecursion, AllPairs}
use Rattle.dine_words.specs.declared.task.Task.{Task}
use Rattle.dine_words.specs.declared.call.Call.{Call}
use Rattle.dine_words.specs.declared.call.Call.TheVariants as call
use Rattle.dine_words.specs.declared.call.Refusal.{Refusal}
use Rattle.dine_words.specs.declared.call.Reply.TheVariants.{Joined, Done, Refused}
use Rattle.dine_words.specs.declared.entry.Entry.{Entry}
use Rattle.dine_words.specs.declared.limits.Limits.{Limits}
use Rattle.dine_table.specs.Table.{Table, opening_table, state_of}
use Rattle.dine_table.specs.Calls.{refusal_of, reply_of, acceptance_of, changed_by, table_after_call, newcomer}
use Rattle.dine_table.specs.History.{table_from, IsLegalFrom, IsLegal}
use Rattle.dine_table.specs.Sound.{IsSound}
use Rattle.dine_table.proofs.Accepted.{join_or_done, newcomer_absent}
use Rattle.dine_table.proofs.Clock.{clock-after_call-le, clock-from-le}
use Rattle.dine_table.proofs.Lists.{PairsByRecursion, AllByRecursion-weaker, AllPairs-from_recursion}

-- ---- newcomers

-- the newcomer isn't present
pub newcomer_not_present : (t : Table) → IsSound t → state_of t (newcomer t) ≡ None
newcomer_not_present t sound = newcomer_absent t.order t.clock (newcomer t) refl sound.born_before

-- the newcomer after an accepted join is another one
pub newcomers_differ : (t : Table) (c : Call) (history : List Entry) → c ≡ call.Join → refusal_of t call.Join ≡ None → newcomer (table_from (table_after_call t c) history) ≡ newcomer t → ⊥
newcomers_differ t c history join ok same =
    let next : table_after_call t call.Join ≡ changed_by t call.Join = rw ok refl in
    let moved : (table_after_call t c).clock ≡ t.clock + 1 = ap (λ x. (let now : Table = table_after_call t x in now.clock)) join ∙ ap (λ (x : Table). x.clock) next in
    let later = clock-from-le (table_after_call t c) history in
    let born : (table_from (table_after_call t c) history).clock ≡ t.clock = ap (λ (u : Task). u.born) same in
    omega (arith, moved, later, born)

-- whoever joined has the table's next name, and the clock went on
joined : (t : Table) (c : Call) (u : Task) → reply_of t c ≡ Joined u → (u.born ≡ t.clock) × ((table_after_call t c).clock ≡ t.clock + 1)
joined t c u said = go (refusal_of t c) refl
  where
    accepted : (c : Call) → acceptance_of t c ≡ Joined u → (u.born ≡ t.clock) × ((changed_by t c).clock ≡ t.clock + 1)
    accepted c h = elim (join_or_done t c) [
      | inl joins ↦ let is_joined : Joined (newcomer t) ≡ Joined u = rw joins at h in let is : newcomer t ≡ u = cc in rw joins (ap (λ (w : Task). w.born) (sym is), refl)
      | inr done ↦ absurd (let k : Done ≡ Joined u = sym done ∙ h in cc)
    ]

    go : (o : Option Refusal) → refusal_of t c ≡ o → (u.born ≡ t.clock) × ((table_after_call t c).clock ≡ t.clock + 1)
    go None e = rw e (accepted c (rw e at said))
    go (Some r) e = absurd (let k : Refused r ≡ Joined u = rw e at said in cc)

-- ---- in a legal history

-- whoever joins is born at this clock or later
abbrev BornFrom : ℕ → Entry → Type 0
BornFrom clock e = (u : Task) → e.reply ≡ Joined u → clock ≤ u.born

-- whoever joins from some table on is born at its clock or later
born_from : (t : Table) (es : List Entry) → IsLegalFrom t es → AllByRecursion (BornFrom t.clock) es
born_from t [] legal = tt
born_from t (e ∷ es) legal =
    let next : Table = table_after_call t e.call in
    let now = clock-after_call-le t e.call in (
      λ u said. (let born = (joined t e.call u (sym legal.0 ∙ said)).0 in omega (arith, born)),
      AllByRecursion-weaker (BornFrom next.clock) (BornFrom t.clock) (λ f k u said. (let later : next.clock ≤ u.born = k u said in omega (arith, now, later))) es (born_from next es legal.1),
    )

-- the two entries don't give the same name
abbrev pub GiveApart : Entry → Entry → Type 0
GiveApart e f = (u : Task) → e.reply ≡ Joined u → f.reply ≡ Joined u → ⊥

-- two joins from some table on give two names
given_once_from : (t : Table) (es : List Entry) → IsLegalFrom t es → PairsByRecursion GiveApart es
given_once_from t [] legal = tt
given_once_from t (e ∷ es) legal =
    let next : Table = table_after_call t e.call in (
      AllByRecursion-weaker (BornFrom next.clock) (GiveApart e) (λ f k u said again. (
          let now = joined t e.call u (sym legal.0 ∙ said) in
          let later : next.clock ≤ u.born = k u again in
          let born : u.born ≡ t.clock = now.0 in
          let moved : next.clock ≡ t.clock + 1 = now.1 in
          omega (arith, later, born, moved))) es (born_from next es legal.1),
      given_once_from next es legal.1,
    )

-- two joins of a legal history give two names
pub given_once : (limits : Limits) (history : List Entry) → IsLegal limits history → AllPairs GiveApart history
given_once limits history legal = AllPairs-from_recursion GiveApart history (given_once_from (opening_table limits) history legal)
