-- What is noted of overtaking along a history: whether somebody was overtaken.
use Rattle.std.proofs.Common.{◌≡◌, ℕ, Bool, true, false, cond, List, refl, sym, ap, ◌∙◌}
use Rattle.std.specs.Int.{from_bool}
use Rattle.dine_words.specs.declared.entry.Entry.{Entry}
use Rattle.dine_words.specs.declared.limits.Limits.{Limits}
use Rattle.dine_table.specs.Table.{opening_table}
use Rattle.dine_table.specs.History.{IsLegal}
use Rattle.dine_journal.specs.Overtakes.{most_overtaken}
use Rattle.dine_journal.specs.Overtaking.{overtakes_somebody, some_entry}
use Rattle.dine_journal.proofs.MostOvertaken.{most_overtaken-is}

-- what is held counts as one
pub one_if : (b : Bool) → from_bool b ≡ cond b 1 0
one_if true = refl
one_if false = refl

-- what was noted is the most that anybody was overtaken
pub most-told : (limits : Limits) (history : List Entry) (noted : Bool) (most : ℕ) → IsLegal limits history → noted ≡ some_entry overtakes_somebody (opening_table limits) history → most ≡ from_bool noted → most ≡ most_overtaken limits history
most-told limits history noted most legal tells counts = counts ∙ one_if noted ∙ ap (λ b. cond b 1 0) tells ∙ sym (most_overtaken-is limits history legal)
