use Rattle.std.proofs.Common.{◌≡◌, length}
use Rattle.dine_replay.proofs.Taken.{HasTaken}
use Rattle.dine_replay.proofs.replayed.Replayed.take_in.Given as goal

-- what was made again are the calls of some entries, and whether a last line was torn is as it was
abbrev pub invariant-loop-rest : goal.invariant-loop-rest
invariant-loop-rest g l =
    HasTaken l.initial.self.version l.initial.self.arbiter.table l.initial.self.entries l.initial.self.is_overtaken (g.V.Visitor.told l.initial.visitor) l.text
    l.self.version l.self.arbiter.table l.entries l.is_overtaken (g.V.Visitor.told l.visitor) l.rest
    × (l.self.is_torn ≡ l.initial.self.is_torn)

-- each line makes the rest of the text shorter
abbrev pub decreases-loop-rest : goal.decreases-loop-rest
decreases-loop-rest g l = length l.rest
