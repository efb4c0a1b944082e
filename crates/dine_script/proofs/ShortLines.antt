-- What a line of short words asks for.
use Rattle.std.proofs.Common.{◌≡◌, ℕ, zero, suc, codes, ◌≢◌, get_or, ◌<◌, ◌≤◌, ◌*◌, Bool, true, false, not, List, [], ◌∷◌, ◌++◌, length, length-append, take, Option, None, Some, is_some, Result, Err, refl, sym, ap, ◌∙◌, subst, inl, inr, arith}
use Rattle.std.specs.Prelude.{IfSome}
use Rattle.std.specs.Borrow.{Bor}
use Rattle.std.proofs.lemmas.Bool.{cases_Bool}
use Rattle.std.proofs.lemmas.Bool.Decides.{nat_tests}
use Rattle.dine_words.specs.declared.call_word.CallOnOne.{CallOnOne}
use Rattle.dine_words.specs.declared.call_word.CallOnOne.TheVariants as one
use Rattle.dine_words.specs.declared.call_word.CallOnTwo.{CallOnTwo}
use Rattle.dine_words.specs.declared.call_word.CallOnTwo.TheVariants as two
use Rattle.dine_words.specs.declared.task.Task.{Task}
use Rattle.dine_words.specs.CallWords.{join_word, word_on_one, word_on_two}
use Rattle.dine_lines.specs.declared.line_fault.LineFault.{LineFault}
use Rattle.dine_lines.specs.declared.line_fault.LineFault.TheVariants as fault
use Rattle.dine_lines.specs.Lines.{begins_comment, is_blank, is_filled, is_line_feed, is_too_long, words_of}
use Rattle.dine_lines.specs.Names.{Names, is_name, task_named}
use Rattle.dine_lines.specs.ShortWords.{BeginsFilledLine, BeginsWord}
use Rattle.dine_lines.specs.UsualLines.{BeginsOne, BeginsTwo}
use Rattle.dine_lines.proofs.CallerLemmas.{BeginsLine, BeginsWords, begins-last, begins-onto, is_within, lines_of-begins, lines_of-line, lines_of-one, lines_of-two, more-onto}
use Rattle.dine_script.specs.declared.command.Command.{Command}
use Rattle.dine_script.specs.Commands.{ReadsFirst, command_of, on_both_bound, reading_of, some_command}
use Rattle.dine_script.proofs.UsualLines.{left-of, read_by_words, read_one, read_two}

-- a line of few words is short
short_line : (line : List ℕ) (words : ℕ) → length line < 32 * words → words ≤ 3 → is_too_long line ≡ false
short_line line words less few = grind (arith, nat_tests, less, few)

-- it asks for what its words ask for
reads-words : (names : Names) (text rest word : List ℕ) (words : List (List ℕ)) → BeginsWords text (word ∷ words) rest → length words ≤ 2 → begins_comment word ≡ false → ReadsFirst names text rest (command_of names (word ∷ words))
reads-words names text rest word words begun few asks =
    let long = ap length begun.is in
    let both = length-append begun.line (10 ∷ rest) in
    record {
      line = begun.line;
      first = lines_of-begins text rest (word ∷ words) begun;
      shorter = omega (arith, long, both);
      left = left-of begun.line rest text begun.is;
      read = read_by_words names begun.line (word ∷ words) (short_line begun.line (length (word ∷ words)) begun.short (omega (arith, few))) begun.cut asks;
    }

-- a word is no comment whose first byte isn't `#`
pub no_comment : (len : ℕ) (text : List ℕ) → get_or text 0 0 ≢ 35 → begins_comment (take len text) ≡ false
no_comment zero text other = refl
no_comment (suc len) [] other = refl
no_comment (suc len) (byte ∷ text) other = grind (arith, nat_tests, other)

-- one word
pub reads-one : (names : Names) (text rest : List ℕ) (len : ℕ) → BeginsWord text len true rest → begins_comment (take len text) ≡ false → ReadsFirst names text rest (command_of names (take len text ∷ []))
reads-one names text rest len word asks =
    reads-words names text rest (take len text) [] (begins-last text rest len word) (omega arith) asks

-- two words
pub reads-two : (names : Names) (text named rest : List ℕ) (len first : ℕ) → BeginsWord text len false named → BeginsWord named first true rest → begins_comment (take len text) ≡ false → ReadsFirst names text rest (command_of names (take len text ∷ take first named ∷ []))
reads-two names text named rest len first word name asks =
    reads-words names text rest (take len text) (take first named ∷ []) (begins-onto text named rest (take first named ∷ []) len word (begins-last named rest first name)) (omega arith) asks

-- three words
pub reads-three : (names : Names) (text named more rest : List ℕ) (len first second : ℕ) → BeginsWord text len false named → BeginsWord named first false more → BeginsWord more second true rest → begins_comment (take len text) ≡ false → ReadsFirst names text rest (command_of names (take len text ∷ take first named ∷ take second more ∷ []))
reads-three names text named more rest len first second word name other asks =
    reads-words names text rest (take len text) (take first named ∷ take second more ∷ [])
    (begins-onto text named rest (take first named ∷ take second more ∷ []) len word (begins-onto named more rest (take second more ∷ []) first name (begins-last more rest second other)))
    (omega arith) asks

-- a line of four words or more has too many, however long it is
pub reads-more : (names : Names) (text named more last rest : List ℕ) (len first second : ℕ) → BeginsWord text len false named → BeginsWord named first false more → BeginsWord more second false last → BeginsFilledLine last rest → begins_comment (take len text) ≡ false → ReadsFirst names text rest (Err fault.Words)
reads-more names text named more last rest len first second word name other behind asks =
    let three = more-onto more last rest second other behind in
    let two = more-onto named more rest first name record { line = three.0; first = three.1; cut = three.2; shorter = three.3; left = three.4; word = take second more; words = behind.word ∷ behind.words } in
    let one = more-onto text named rest len word record { line = two.0; first = two.1; cut = two.2; shorter = two.3; left = two.4; word = take first named; words = take second more ∷ behind.word ∷ behind.words } in
    record { line = one.0; first = one.1; shorter = one.3; left = one.4; read = too_many one.0 one.2 }
  where
    too_many : (line : List ℕ) → words_of line ≡ take len text ∷ take first named ∷ take second more ∷ behind.word ∷ behind.words → reading_of names line ≡ some_command (Err fault.Words)
    too_many line cut = elim (cases_Bool (is_too_long line)) [
      | inl long ↦ rw long refl
      | inr short ↦ rw (short, cut, asks) refl
    ]

-- ---- with some blanks between

-- a line of these words, not too long, asks for what its words ask for
pub reads-line : (names : Names) (text rest word : List ℕ) (words : List (List ℕ)) (most : ℕ) → BeginsLine text (word ∷ words) most rest → most ≤ 256 → begins_comment word ≡ false → ReadsFirst names text rest (command_of names (word ∷ words))
reads-line names text rest word words most begun few asks =
    let long = ap length begun.is in
    let both = length-append begun.line (10 ∷ rest) in
    record {
      line = begun.line;
      first = lines_of-line text rest (word ∷ words) most begun;
      shorter = omega (arith, long, both);
      left = left-of begun.line rest text begun.is;
      read = read_by_words names begun.line (word ∷ words) (spaced_line begun.line most begun.short few) begun.cut asks;
    }
  where
    spaced_line : (line : List ℕ) (most : ℕ) → length line ≤ most → most ≤ 256 → is_too_long line ≡ false
    spaced_line line most short few = grind (arith, nat_tests, short, few)

-- where it has a fault, it is this one
pub fault-of : (names : Names) (text rest : List ℕ) {reading asked : Result Command LineFault} (found : Option (LineFault × Bor (List ℕ))) → reading ≡ asked → IfSome found (λ cut. reading ≡ Err cut.0) → IfSome found (λ cut. cut.1.now ≡ rest) → ReadsFirst names text rest asked → IfSome found (λ cut. ReadsFirst names text cut.1.now (Err cut.0))
fault-of names text rest None is fault left read = tt
fault-of names text rest (Some cut) is fault left read =
    subst (λ l. ReadsFirst names text l (Err cut.0)) (sym left) (subst (ReadsFirst names text rest) (sym is ∙ fault) read)

-- ---- a word and a name

-- a line of one of these words and a name
reads-named : (names : Names) (word name text rest : List ℕ) (reading : Result Command LineFault) → length word ≤ 10 → is_filled word ≡ true → is_within is_blank word ≡ true → is_within is_line_feed word ≡ true → begins_comment word ≡ false → is_name name ≡ true → text ≡ word ++ 32 ∷ name ++ 10 ∷ rest → command_of names (word ∷ name ∷ []) ≡ reading → ReadsFirst names text rest reading
reads-named names word name text rest reading short filled within in_line asks letters is reads =
    let line : List ℕ = word ++ 32 ∷ name in
    let long = ap length is in
    let both = length-append line (10 ∷ rest) in
    record {
      line = line;
      first = lines_of-one word name rest text in_line letters is;
      shorter = omega (arith, long, both);
      left = left-of line rest text is;
      read = read_one names word name short filled within asks letters ∙ ap some_command reads;
    }

-- a call about a name that is free
pub reads-free : (names : Names) (asked : CallOnOne) (text rest : List ℕ) → BeginsOne names (word_on_one asked) None text rest → ReadsFirst names text rest (Err fault.Unbound)
reads-free names one.Leave text rest begun =
    reads-named names (codes "leave") begun.name text rest _ (omega arith) refl refl refl refl begun.letters begun.is (rw (begun.letters, begun.named) refl)
reads-free names one.Hungry text rest begun =
    reads-named names (codes "hungry") begun.name text rest _ (omega arith) refl refl refl refl begun.letters begun.is (rw (begun.letters, begun.named) refl)
reads-free names one.Begin text rest begun =
    reads-named names (codes "begin") begun.name text rest _ (omega arith) refl refl refl refl begun.letters begun.is (rw (begun.letters, begun.named) refl)
reads-free names one.Finish text rest begun =
    reads-named names (codes "finish") begun.name text rest _ (omega arith) refl refl refl refl begun.letters begun.is (rw (begun.letters, begun.named) refl)
reads-free names one.Withdraw text rest begun =
    reads-named names (codes "withdraw") begun.name text rest _ (omega arith) refl refl refl refl begun.letters begun.is (rw (begun.letters, begun.named) refl)

-- a question for the state of such a name
pub reads-free-state : (names : Names) (text rest : List ℕ) → BeginsOne names (codes "state") None text rest → ReadsFirst names text rest (Err fault.Unbound)
reads-free-state names text rest begun =
    reads-named names (codes "state") begun.name text rest _ (omega arith) refl refl refl refl begun.letters begun.is (rw (begun.letters, begun.named) refl)

-- a join with a name that is bound
pub reads-bound : (names : Names) (name text rest : List ℕ) → is_name name ≡ true → not (is_some (task_named names name)) ≡ false → text ≡ join_word ++ 32 ∷ name ++ 10 ∷ rest → ReadsFirst names text rest (Err fault.Bound)
reads-bound names name text rest letters bound is =
    reads-named names join_word name text rest _ (omega arith) refl refl refl refl letters is (rw (letters, some_of (is_some (task_named names name)) bound) refl)
  where
    some_of : (some : Bool) → not some ≡ false → some ≡ true
    some_of true h = refl
    some_of false h = let none : true ≡ false = h in cc

-- ---- a word and two names

-- a line of one of the two words and two names
reads-pair : (names : Names) (word first second text rest : List ℕ) (reading : Result Command LineFault) → length word ≤ 8 → is_filled word ≡ true → is_within is_blank word ≡ true → is_within is_line_feed word ≡ true → begins_comment word ≡ false → is_name first ≡ true → is_name second ≡ true → text ≡ word ++ 32 ∷ first ++ 32 ∷ second ++ 10 ∷ rest → command_of names (word ∷ first ∷ second ∷ []) ≡ reading → ReadsFirst names text rest reading
reads-pair names word first second text rest reading short filled within in_line asks letters other_letters is reads =
    let line : List ℕ = word ++ 32 ∷ first ++ 32 ∷ second in
    let long = ap length is in
    let both = length-append line (10 ∷ rest) in
    record {
      line = line;
      first = lines_of-two word first second rest text in_line letters other_letters is;
      shorter = omega (arith, long, both);
      left = left-of line rest text is;
      read = read_two names word first second short filled within asks letters other_letters ∙ ap some_command reads;
    }

-- asks for a call about the two tasks, if both names are bound
pub reads-call-on-two : (names : Names) (asked : CallOnTwo) (one other : Option Task) (text rest : List ℕ) → BeginsTwo names (word_on_two asked) one other text rest → ReadsFirst names text rest (on_both_bound asked one other)
reads-call-on-two names two.Conflict one other text rest begun =
    reads-pair names (codes "conflict") begun.first begun.second text rest _ (omega arith) refl refl refl refl begun.first_letters begun.second_letters begun.is (rw (begun.first_letters, begun.second_letters, begun.first_named, begun.second_named) refl)
reads-call-on-two names two.Separate one other text rest begun =
    reads-pair names (codes "separate") begun.first begun.second text rest _ (omega arith) refl refl refl refl begun.first_letters begun.second_letters begun.is (rw (begun.first_letters, begun.second_letters, begun.first_named, begun.second_named) refl)

-- and no call, where the first is free
pub reads-first-free : (names : Names) (asked : CallOnTwo) (one other : Option Task) (text rest : List ℕ) → one ≡ None → BeginsTwo names (word_on_two asked) one other text rest → ReadsFirst names text rest (Err fault.Unbound)
reads-first-free names asked one other text rest free begun =
    subst (λ t. ReadsFirst names text rest (on_both_bound asked t other)) free (reads-call-on-two names asked one other text rest begun)

-- or the second
pub reads-second-free : (names : Names) (asked : CallOnTwo) (one other : Option Task) (t : Task) (text rest : List ℕ) → one ≡ Some t → other ≡ None → BeginsTwo names (word_on_two asked) one other text rest → ReadsFirst names text rest (Err fault.Unbound)
reads-second-free names asked one other t text rest bound free begun =
    subst (λ u. ReadsFirst names text rest (on_both_bound asked (Some t) u)) free
    (subst (λ u. ReadsFirst names text rest (on_both_bound asked u other)) bound (reads-call-on-two names asked one other text rest begun))
