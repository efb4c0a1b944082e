use Rattle.std.proofs.Common.{◌<◌, ◌≤◌, take, arith}
use Rattle.std.proofs.lemmas.Bool.Decides.{nat_tests}
use Rattle.std.proofs.lemmas.List.{length-take-le}
use Rattle.dine_lines.specs.Names.{is_name_byte}
use Rattle.dine_lines.proofs.Lanes.{all_in}
use Rattle.dine_lines.proofs.Padded.{is_name-from}
use Rattle.dine_lines.proofs.name.Name.is_front.Goals as goal

pub returns : goal.returns
returns c enough =
    let text = c.args.text.now in
    let len = c.args.len in
    let run = c.letters_before.ensures in
    let within = c.requires in
    let some : 0 < len = grind (arith, nat_tests) in
    let letters : len ≤ c.letters_before.result = grind (arith, nat_tests, enough) in
    let long = length-take-le len text within in
    is_name-from (take len text) (omega (arith, long, some)) (omega (arith, long, letters, run.0)) (all_in is_name_byte text len within (λ k low. run.1 k (omega (arith, low, letters))))
