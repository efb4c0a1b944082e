-- How the lines of a journal begin that nearly all have: with pass 0, and the word of a call.
use Rattle.std.specs.Prelude.{ℕ, List, ◌++◌, codes}
use Rattle.dine_words.specs.declared.call_word.CallOnOne.{CallOnOne}
use Rattle.dine_words.specs.declared.call_word.CallOnTwo.{CallOnTwo}
use Rattle.dine_words.specs.CallWords.{opening_on_one, opening_on_two}

-- the pass, and the opening of a call about one task
abbrev pub opens_on_one : CallOnOne → List ℕ
opens_on_one asked = codes "0 " ++ opening_on_one asked

-- the pass, and the opening of a call about two tasks
abbrev pub opens_on_two : CallOnTwo → List ℕ
opens_on_two asked = codes "0 " ++ opening_on_two asked
