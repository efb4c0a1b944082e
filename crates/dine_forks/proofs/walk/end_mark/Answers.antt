use Rattle.dine_forks.proofs.Lemmas.{false, false≢true, marked-same, refl, rules, sym}
use Rattle.dine_forks.proofs.walk.end_mark.Goals as goal

pub returns : goal.returns
returns c = record {
  off = λ is. marked-same c.args.marks.now c.args.slot c.args.slot false (rw c.requires.marked c.requires.slot) (search rules);
  same = λ e. absurd (false≢true (sym e));
  asks = λ is. search rules;
  was = λ is. search rules;
  ended = λ is. refl;
}
