use Rattle.dine_lines.proofs.Blocks.{bounds_chunk}
use Rattle.dine_lines.proofs.line_feed.lanes_at.Goals as goal

pub returns : goal.returns
returns c = bounds_chunk c.args.text.now c.args.at c.requires
