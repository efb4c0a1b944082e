use Rattle.dine_lines.specs.Lines.{lines_of}
use Rattle.dine_script.specs.Script.{opening}
use Rattle.dine_script.proofs.Legal.{legal-lines}
use Rattle.dine_script.proofs.law.a_script_makes_a_legal_history.Goals as goal

pub returns : goal.returns
returns c limits input = legal-lines (opening limits) (lines_of input)
