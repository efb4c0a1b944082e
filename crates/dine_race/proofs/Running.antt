-- Runs of lines, and what they add to a pass, one after the other.
use Rattle.std.proofs.Common.{◌≡◌, ℕ, zero, suc, ◌+◌, ◌<◌, List, [], ◌∷◌, ◌++◌, length, take, get_or, add-one, refl, sym, ap, ◌∙◌, subst, append_assoc, append-nil}
use Rattle.std.proofs.lemmas.List.{take_more}
use Rattle.dine_words.specs.declared.call.Call.{Call}
use Rattle.dine_scenario.specs.declared.scenario.Step.{Step}
use Rattle.dine_journal.specs.declared.hall.Answer.{Answer}
use Rattle.dine_front.specs.Passes.{Pass, Acted}
use Rattle.dine_lines.specs.Names.{Names}
use Rattle.dine_race.specs.Runs.{Made, RunsLines, repeated}
use Rattle.dine_race.specs.Runners.{Runner, HandsBack, HasRun, MadeCalls, calls_of}

-- ---- calls

-- the calls of some receipts and of others after them
pub calls_of-append : (xs ys : List (Call × Answer)) → calls_of (xs ++ ys) ≡ calls_of xs ++ calls_of ys
calls_of-append [] ys = refl
calls_of-append (x ∷ xs) ys = ap (λ calls. (x.0, x.1.reply) ∷ calls) (calls_of-append xs ys)

-- no call was made
pub made_none : (p q : Pass) → q ≡ p → MadeCalls p [] q
made_none p q same = record {
  number = ap (λ r. r.number) same;
  added = [];
  receipts = ap (λ r. r.receipts) same ∙ sym (append-nil p.receipts);
  are = refl;
}

-- one call was made
pub made_one : (p : Pass) (asked : Call) (answer : Answer) (q : Pass) → Acted p asked answer q → MadeCalls p ((asked, answer.reply) ∷ []) q
made_one p asked answer q acted = record {
  number = acted.number;
  added = (asked, answer) ∷ [];
  receipts = acted.receipts;
  are = refl;
}

-- calls were made, and more after them
pub made_then : (p : Pass) (xs : List Made) (q : Pass) (ys : List Made) (r : Pass) → MadeCalls p xs q → MadeCalls q ys r → MadeCalls p (xs ++ ys) r
made_then p xs q ys r one other = record {
  number = other.number ∙ one.number;
  added = one.added ++ other.added;
  receipts = other.receipts ∙ ap (λ l. l ++ other.added) one.receipts ∙ append_assoc p.receipts one.added other.added;
  are = calls_of-append one.added other.added ∙ ap (λ l. l ++ calls_of other.added) one.are ∙ ap (λ l. xs ++ l) other.are;
}

-- ---- runs

-- a run, and then another
pub run_then : (names : Names) (xs : List Step) (calls : List Made) (between : Names) (ys : List Step) (more : List Made) (after : Names)
    → RunsLines names xs calls between → RunsLines between ys more after → RunsLines names (xs ++ ys) (calls ++ more) after
run_then names [] calls between ys more after one other =
    subst (λ n. RunsLines n ys (calls ++ more) after) one.1 (subst (λ l. RunsLines between ys (l ++ more) after) (sym one.0) other)
run_then names (x ∷ xs) calls between ys more after one other =
    let (part, rest, middle, is, first, later) = one in (
      part,
      rest ++ more,
      middle,
      ap (λ l. l ++ more) is ∙ append_assoc part rest more,
      first,
      run_then middle xs rest between ys more after later other,
    )

-- a runner that has run lines, and then more
pub has_run_then : (a : Runner) (xs : List Step) (b : Runner) (ys : List Step) (c : Runner) → HasRun a xs b → HasRun b ys c → HasRun a (xs ++ ys) c
has_run_then a xs b ys c one other = record {
  calls = one.calls ++ other.calls;
  made = made_then a.pass one.calls b.pass other.calls c.pass one.made other.made;
  run = run_then a.names xs one.calls b.names ys other.calls c.names one.run other.run;
}

-- no line was run
pub has_run_none : (a b : Runner) → b ≡ a → HasRun a [] b
has_run_none a b same = record {
  calls = [];
  made = made_none a.pass b.pass (ap (λ r. r.pass) same);
  run = (refl, ap (λ r. r.names) same);
}

-- ---- repeats

-- a list before its repeats is a list after them
repeated-turn : (n : ℕ) (lines : List Step) → lines ++ repeated n lines ≡ repeated n lines ++ lines
repeated-turn zero lines = append-nil lines
repeated-turn (suc n) lines =
    ap (λ l. lines ++ l) (repeated-turn n lines) ∙ sym (append_assoc lines (repeated n lines) lines)

-- one repeat more
pub repeated-more : (n : ℕ) (lines : List Step) → repeated (n + 1) lines ≡ repeated n lines ++ lines
repeated-more n lines = ap (λ (m : ℕ). repeated m lines) (add-one n) ∙ repeated-turn n lines

-- a runner that has run the lines so often, and once more
pub has_run_again : (a b c : Runner) (n : ℕ) (lines : List Step) → HasRun a (repeated n lines) b → HasRun b lines c → HasRun a (repeated (n + 1) lines) c
has_run_again a b c n lines one other =
    subst (λ l. HasRun a l c) (sym (repeated-more n lines)) (has_run_then a (repeated n lines) b lines c one other)

-- a runner that has run the first lines, and the next one
pub has_run_next : (a b c : Runner) (i : ℕ) (lines : List Step) (line : Step) → i < length lines → line ≡ get_or lines i line → HasRun a (take i lines) b → HasRun b (line ∷ []) c → HasRun a (take (i + 1) lines) c
has_run_next a b c i lines line inside is one other =
    subst (λ l. HasRun a l c) (sym (take_more lines i line inside)) (has_run_then a (take i lines) b (get_or lines i line ∷ []) c one (subst (λ l. HasRun b (l ∷ []) c) is other))

-- the pass of a runner that has run the lines so often is handed back
pub handed_back : (a b : Runner) (n m : ℕ) (lines : List Step) (pass : Pass) → n ≡ m → pass ≡ b.pass → HasRun a (repeated n lines) b → HandsBack a (repeated m lines) pass
handed_back a b n m lines pass same is one = (
  b.names,
  subst (λ (p : Pass). HasRun a (repeated m lines) (record { pass = p; names = b.names })) (sym is) (subst (λ (k : ℕ). HasRun a (repeated k lines) b) same one),
)
