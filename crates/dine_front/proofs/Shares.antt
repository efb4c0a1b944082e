-- Where no pass is missing, there are as many passes as the front has.
use Rattle.std.proofs.Common.{ℕ, ◌≤◌, List, length}
use Rattle.dine_words.specs.declared.entry.Entry.{Entry}
use Rattle.dine_front.specs.declared.verdict.Verdict.{Verdict}
use Rattle.dine_front.specs.declared.verdict.Verdict.TheVariants.{Missing, Differs, Settled}
use Rattle.dine_front.specs.Passes.{Pass}
use Rattle.dine_front.specs.Mine.{mine, receipts_of}
use Rattle.dine_front.specs.Verdicts.{AllSettled, IsVerdict, NoneMissing, UnlessMissing}
use Rattle.dine_front.proofs.Handed.{enough, some_is_not_none}

-- passes that are settled are not missing
none_missing : (n : ℕ) (ps : List Pass) (es : List Entry) → AllSettled n ps es → NoneMissing n ps
none_missing n ps es h k lt = some_is_not_none (receipts_of k ps) (mine k es) (h k lt)

-- what holds where the front's passes are all there holds unless one is missing
pub unless_missing : (n : ℕ) (ps : List Pass) (es : List Entry) (fact : Type 0) (v : Verdict) → IsVerdict n ps es v → (n ≤ length ps → fact) → UnlessMissing v fact
unless_missing n ps es fact (Missing k) h then = tt
unless_missing n ps es fact (Differs k i) h then = then (enough n ps h.all_here)
unless_missing n ps es fact Settled h then = then (enough n ps (none_missing n ps es h))
