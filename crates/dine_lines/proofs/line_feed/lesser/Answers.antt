use Rattle.dine_lines.proofs.Blocks.{length-lesser, lesser_above}
use Rattle.dine_lines.proofs.line_feed.lesser.Goals as goal

pub returns-clause-long : goal.returns-clause-long
returns-clause-long c = length-lesser c.args.first c.args.second c.requires.first c.requires.second

pub returns-clause-both : goal.returns-clause-both
returns-clause-both c = lesser_above c.args.first c.args.second c.requires.first c.requires.second
