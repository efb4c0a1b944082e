-- Lines in the form that nearly all lines of a script have, with the tasks that their names are bound to.
use Rattle.std.specs.Prelude.{◌≡◌, ℕ, true, List, ◌∷◌, ◌++◌, codes, false, slice_get, IfSome, Option, None, Some}
use Rattle.dine_words.specs.declared.task.Task.{Task}
use Rattle.dine_words.specs.CallWords.{join_word, word_on_one, word_on_two}
use Rattle.dine_lines.specs.Usual.{Usual}
use Rattle.dine_lines.specs.Usual as usual
use Rattle.dine_lines.specs.declared.names.Found.{Found}
use Rattle.dine_lines.specs.Names.{Names, is_name, task_named}

-- the text begins with a name that is bound to the task, and with the byte that ends it; and then comes the rest
pub record BeginsBound (names : Names) (text : List ℕ) (end : ℕ) (t : Task) (rest : List ℕ) : Type 0 where
  pub name : List ℕ
  pub letters : is_name name ≡ true
  pub bound : task_named names name ≡ Some t
  pub is : text ≡ name ++ end ∷ rest

-- the word was found so: it is the bound name at that place, or a free one, or no name
abbrev pub IsFound : Names → List ℕ → Found → Type 0
IsFound names word (Found.At place) =
    (is_name word ≡ true) × IfSome (slice_get names place) (λ bound. task_named names word ≡ Some bound.1)
IsFound names word Found.Free = (is_name word ≡ true) × (task_named names word ≡ None)
IsFound names word Found.NoName = is_name word ≡ false

-- the text begins with a name that is bound to this task, or is free, and with the byte that ends it; and then comes the
-- rest
pub record BeginsName (names : Names) (text : List ℕ) (end : ℕ) (found : Option Task) (rest : List ℕ) : Type 0 where
  pub name : List ℕ
  pub letters : is_name name ≡ true
  pub named : task_named names name ≡ found
  pub is : text ≡ name ++ end ∷ rest

-- the text begins with the word, one space, a name that is bound to this task, or is free, and a line feed; and then comes
-- the rest
pub record BeginsOne (names : Names) (word : List ℕ) (found : Option Task) (text rest : List ℕ) : Type 0 where
  pub name : List ℕ
  pub letters : is_name name ≡ true
  pub named : task_named names name ≡ found
  pub is : text ≡ word ++ 32 ∷ name ++ 10 ∷ rest

-- so does it with the word and two names, each with one space before it
pub record BeginsTwo (names : Names) (word : List ℕ) (one other : Option Task) (text rest : List ℕ) : Type 0 where
  pub first : List ℕ
  pub second : List ℕ
  pub first_letters : is_name first ≡ true
  pub second_letters : is_name second ≡ true
  pub first_named : task_named names first ≡ one
  pub second_named : task_named names second ≡ other
  pub is : text ≡ word ++ 32 ∷ first ++ 32 ∷ second ++ 10 ∷ rest

-- the word is a name, and is free
pub record IsFreeName (names : Names) (name : List ℕ) : Type 0 where
  pub letters : is_name name ≡ true
  pub free : task_named names name ≡ None

-- the line is the word, one space and a name that is bound to the task
pub record NamesOne (names : Names) (word : List ℕ) (t : Task) (line : List ℕ) : Type 0 where
  pub name : List ℕ
  pub letters : is_name name ≡ true
  pub bound : task_named names name ≡ Some t
  pub is : line ≡ word ++ 32 ∷ name

-- the line is the word and two names with one space before each, the first bound to the one task and the second to the other
pub record NamesTwo (names : Names) (word : List ℕ) (t u : Task) (line : List ℕ) : Type 0 where
  pub first : List ℕ
  pub second : List ℕ
  pub first_letters : is_name first ≡ true
  pub second_letters : is_name second ≡ true
  pub first_bound : task_named names first ≡ Some t
  pub second_bound : task_named names second ≡ Some u
  pub is : line ≡ word ++ 32 ∷ first ++ 32 ∷ second

-- the line is `join`, one space and this name, which is free
pub record NamesFree (names : Names) (name line : List ℕ) : Type 0 where
  pub free : IsFreeName names name
  pub is : line ≡ join_word ++ 32 ∷ name

-- the line asks for this in the usual form
abbrev pub IsUsualLine : Names → Usual → List ℕ → Type 0
IsUsualLine names (usual.OnOne asked t) line = NamesOne names (word_on_one asked) t line
IsUsualLine names (usual.OnTwo asked t u) line = NamesTwo names (word_on_two asked) t u line
IsUsualLine names (usual.State t) line = NamesOne names (codes "state") t line
IsUsualLine names (usual.Neighbours t) line = NamesOne names (codes "neighbours") t line
IsUsualLine names (usual.Join name) line = NamesFree names name line

-- the text begins with a line that asks for this in the usual form, and a line feed; and then comes the rest
pub record BeginsUsual (names : Names) (asked : Usual) (text rest : List ℕ) : Type 0 where
  pub line : List ℕ
  pub usual : IsUsualLine names asked line
  pub is : text ≡ line ++ 10 ∷ rest
