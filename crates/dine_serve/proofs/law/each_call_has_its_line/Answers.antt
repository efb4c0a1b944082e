use Rattle.dine_serve.proofs.Lined.{reading_lines}
use Rattle.dine_serve.proofs.law.each_call_has_its_line.Goals as goal

pub returns : goal.returns
returns c s s' reading before after stops = reading_lines s s' reading before after stops
