use Rattle.std.proofs.Common.{length}
use Rattle.dine_command_line.proofs.command_remark.explain_words.Given as goal

-- each line takes a byte of the rest
abbrev pub decreases-loop-line : goal.decreases-loop-line
decreases-loop-line g l = length l.rest
