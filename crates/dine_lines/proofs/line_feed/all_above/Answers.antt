use Rattle.dine_lines.proofs.Blocks.{above_from_mask}
use Rattle.dine_lines.proofs.line_feed.all_above.Goals as goal

pub returns : goal.returns
returns c none = above_from_mask c.args.lanes c.requires none
