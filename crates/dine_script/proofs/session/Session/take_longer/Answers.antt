use Rattle.std.proofs.Common.{rules}
use Rattle.dine_lines.proofs.CallerLemmas.{some_line}
use Rattle.dine_script.proofs.session.Session.take_longer.Goals as goal

pub unreachable-requires : goal.unreachable-requires
unreachable-requires c = some_line c.args.text.now c.requires.some (search rules)
