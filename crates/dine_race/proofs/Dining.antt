-- How a meal goes on, and how it ends.
use Rattle.std.proofs.Common.{◌≡◌, List, [], ◌∷◌, refl}
use Rattle.dine_words.specs.declared.task.Task.{Task}
use Rattle.dine_words.specs.declared.call.Call.TheVariants as call
use Rattle.dine_words.specs.declared.call.Reply.{Reply}
use Rattle.dine_words.specs.declared.call.Reply.TheVariants.{Joined, Done, Refused}
use Rattle.dine_words.specs.declared.call.Refusal.TheVariants.{NotYet}
use Rattle.dine_journal.specs.declared.hall.Answer.{Answer}
use Rattle.dine_front.specs.Passes.{Pass, Acted}
use Rattle.dine_race.specs.Runs.{Made, IfDone, IsMeal, IsFinish, IsBeginAndFinish}
use Rattle.dine_race.specs.Runners.{MadeCalls}
use Rattle.dine_race.proofs.Running.{made_one, made_then}

-- a reply that isn't Done ends it
ended_by : (reply : Reply) (More : List Made → Type 0) → (reply ≡ Done → ⊥) → IfDone reply More []
ended_by Done More not_done = absurd (not_done refl)
ended_by (Joined t) More not_done = refl
ended_by (Refused refusal) More not_done = refl

-- Done goes on
goes_on : (reply : Reply) (More : List Made → Type 0) (rest : List Made) → reply ≡ Done → More rest → IfDone reply More rest
goes_on reply More rest done more = rw done more

-- a pass has made the calls of a meal
abbrev pub HasDined : Pass → Task → Pass → Type 0
HasDined p t q = (calls : List Made) × MadeCalls p calls q × IsMeal t calls

module _ (p : Pass) (t : Task) (hungry : Answer) (q : Pass) (grew : Acted p (call.Hungry t) hungry q) where
  -- hunger was refused
  pub stays_thinking : (hungry.reply ≡ Done → ⊥) → HasDined p t q
  stays_thinking refused = (
    (call.Hungry t, hungry.reply) ∷ [],
    made_one p (call.Hungry t) hungry q grew,
    (hungry.reply, [], refl, ended_by hungry.reply (IsBeginAndFinish t) refused),
  )

  module _ (done : hungry.reply ≡ Done) (begun : Answer) (r : Pass) (began : Acted q (call.Begin t) begun r) (in_turn : begun.reply ≡ Refused NotYet → ⊥) where
    -- the meal was refused
    pub stays_hungry : (begun.reply ≡ Done → ⊥) → HasDined p t r
    stays_hungry refused =
        let begin : IsBeginAndFinish t ((call.Begin t, begun.reply) ∷ []) = (begun.reply, [], refl, in_turn, ended_by begun.reply (IsFinish t) refused) in (
          (call.Hungry t, hungry.reply) ∷ (call.Begin t, begun.reply) ∷ [],
          made_then p _ q _ r (made_one p (call.Hungry t) hungry q grew) (made_one q (call.Begin t) begun r began),
          (hungry.reply, _, refl, goes_on hungry.reply (IsBeginAndFinish t) _ done begin),
        )

    -- the task ate, and was asked to finish
    pub eats : begun.reply ≡ Done → (finish : Answer) (s : Pass) → Acted r (call.Finish t) finish s → HasDined p t s
    eats eating finish s finished =
        let rest : List Made = (call.Finish t, finish.reply) ∷ [] in
        let begin : IsBeginAndFinish t ((call.Begin t, begun.reply) ∷ rest) = (
          begun.reply,
          rest,
          refl,
          in_turn,
          goes_on begun.reply (IsFinish t) rest eating (finish.reply, refl),
        ) in (
          (call.Hungry t, hungry.reply) ∷ (call.Begin t, begun.reply) ∷ rest,
          made_then p ((call.Hungry t, hungry.reply) ∷ (call.Begin t, begun.reply) ∷ []) r rest s (made_then p _ q _ r (made_one p (call.Hungry t) hungry q grew) (made_one q (call.Begin t) begun r began)) (made_one r (call.Finish t) finish s finished),
          (hungry.reply, _, refl, goes_on hungry.reply (IsBeginAndFinish t) _ done begin),
        )
