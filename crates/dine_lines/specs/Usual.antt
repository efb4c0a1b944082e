-- The forms of lines that are read without cutting their words.
use Rattle.dine_words.specs.declared.call_word.CallOnOne.{CallOnOne}
use Rattle.dine_words.specs.declared.call_word.CallOnTwo.{CallOnTwo}
use Rattle.dine_words.specs.declared.task.Task.{Task}
use Rattle.std.specs.Prelude.{ℕ, List}

-- what a usual line asks for: a call about one task or about two, in the order of the line, a state, neighbours, or a join.
-- It is one word, one space and a name, or two names with one space between. The names are bound to the tasks, and the name
-- of a join is free
pub data Usual : Type 0 where
  OnOne : CallOnOne → Task → Usual
  OnTwo : CallOnTwo → Task → Task → Usual
  State : Task → Usual
  Neighbours : Task → Usual
  Join : List ℕ → Usual
