use Rattle.dine_serve.proofs.Words.{standing_at}
use Rattle.dine_serve.proofs.Repeating.{entries-repeats, said-repeats, standing-repeats}
use Rattle.dine_serve.proofs.law.repeats_change_nothing.Goals as goal

pub returns : goal.returns
returns c = record {
  standing = λ table passes lines. standing-repeats (standing_at table passes) lines;
  entries = λ table passes lines. entries-repeats (standing_at table passes) lines;
  said = λ table passes lines. said-repeats (standing_at table passes) lines;
}
