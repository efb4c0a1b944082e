-- What one line of a script does.
use Rattle.std.proofs.lemmas.Bool.Decides.{nat_tests}
use Rattle.std.proofs.Common.{◌≡◌, ◌≢◌, ◌≤◌, ◌<◌, ◌+◌, ℕ, Bool, true, false, ◌||◌, List, [], length, ◌∷◌, ◌++◌, Option, Some, None, Result, Ok, Err, refl, sym, ap, ◌∙◌, subst, arith, if◌then◌else◌, nat_lt}
use Rattle.dine_words.specs.declared.call.Call.TheVariants as call
use Rattle.dine_table.proofs.CallerLemmas.{clock-after_call-ge}
use Rattle.dine_lines.specs.declared.print.Print.{Print}
use Rattle.dine_script.specs.declared.command.Command.{Command}
use Rattle.dine_script.specs.declared.command.Command.TheVariants as command
use Rattle.dine_lines.specs.declared.line_fault.LineFault.{LineFault}
use Rattle.dine_script.specs.Commands.{reading_of}
use Rattle.dine_script.specs.Printed.{printed_from, printed_of}
use Rattle.dine_script.specs.Script.{Session, after_reading, faults_from, has_fault_from, is_fault}
use Rattle.dine_words.specs.Texts.{text_of_lines}
use Rattle.dine_streams.proofs.CallerLemmas.{Progress, gathered}

-- ---- the clock

-- no line moves it by more than one
clock-after_reading-le : (s : Session) (r : Result (Option Command) LineFault) → (after_reading s r).table.clock ≤ s.table.clock + 1
clock-after_reading-le s (Ok None) = omega arith
clock-after_reading-le s (Ok (Some (command.Join name))) = clock-after_call-ge s.table call.Join
clock-after_reading-le s (Ok (Some (command.Call asked))) = clock-after_call-ge s.table asked
clock-after_reading-le s (Ok (Some (command.State t))) = omega arith
clock-after_reading-le s (Ok (Some (command.Neighbours t))) = omega arith
clock-after_reading-le s (Ok (Some command.Next)) = omega arith
clock-after_reading-le s (Err reason) = omega arith

-- a text that isn't empty has a length
pub some_left : (xs : List ℕ) → xs ≢ [] → 0 < length xs
some_left [] h = absurd (h refl)
some_left (x ∷ xs) h = omega arith

-- ---- how many lines have a fault

-- one line has one at most
pub at_most_one : (fault : Bool) {more : ℕ} → more ≡ (if fault then 1 else 0) → more ≤ 1
at_most_one true h = omega (arith, h)
at_most_one false h = omega (arith, h)

-- some have where one has
pub some_faults : (s : Session) (lines : List (List ℕ)) → nat_lt 0 (faults_from s lines) ≡ has_fault_from s lines
some_faults s [] = refl
some_faults s (line ∷ lines) = let reading = reading_of s.names line in first (is_fault reading) _ _ (some_faults (after_reading s reading) lines)
  where
    -- by the first of them
    first : (fault : Bool) (others : ℕ) (some : Bool) → nat_lt 0 others ≡ some → nat_lt 0 ((if fault then 1 else 0) + others) ≡ (fault || some)
    first true others some h = grind (arith, nat_tests)
    first false others some h = let none : 0 + others ≡ others = omega arith in rw none h

-- ---- the first of the lines

module _ (s s' : Session) (line : List ℕ) (now lines : List (List ℕ)) (is : now ≡ line ∷ lines) (after : s' ≡ after_reading s (reading_of s.names line)) where
  -- what is printed of it comes first
  pub printed_from-first : (print : Print) → printed_from print s now ≡ printed_of print s (reading_of s.names line) ++ printed_from print s' lines
  printed_from-first print =
      ap (printed_from print s) is
      ∙ ap (λ t. printed_of print s (reading_of s.names line) ++ printed_from print t lines) (sym after)

  -- its fault is counted, if it has one
  pub counted : (before more : ℕ) (fault : Bool) → more ≡ (if fault then 1 else 0) → fault ≡ is_fault (reading_of s.names line) → before + more + faults_from s' lines ≡ before + faults_from s now
  counted before more fault one same =
      let first : faults_from s now ≡ (if fault then 1 else 0) + faults_from s' lines = ap (faults_from s) is ∙ (λ j. (if sym same j then 1 else 0) + faults_from (sym after j) lines) in
      omega (arith, first, one)

  -- the clock is still behind the bytes that were read, of which the line took one
  pub ticked : (rest rest' text : ℕ) → rest' < rest → s.table.clock + rest ≤ text → s'.table.clock + rest' ≤ text
  ticked rest rest' text shorter before =
      let moved = subst (λ t. t.table.clock ≤ s.table.clock + 1) (sym after) (clock-after_reading-le s (reading_of s.names line)) in
      omega (arith, moved, shorter, before)

  -- what is printed of it is pending
  pub stepped : (print : Print) {all : List (List ℕ)} {before held : Option (List ℕ)} {pending : List ℕ} (pending' : List ℕ) → pending' ≡ pending ++ text_of_lines (printed_of print s (reading_of s.names line)) → Progress all before held pending (printed_from print s now) → Progress all before held pending' (printed_from print s' lines)
  stepped print pending' more p =
      gathered (printed_of print s (reading_of s.names line)) (printed_from print s' lines) pending' (printed_from-first print) more p
