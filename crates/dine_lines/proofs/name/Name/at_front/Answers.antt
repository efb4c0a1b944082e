use Rattle.std.proofs.Common.{◌≡◌, ◌<◌, take, length, sym, ap, ◌∙◌, take-append-drop, arith}
use Rattle.std.proofs.lemmas.List.{length-take-le, take_rest}
use Rattle.dine_lines.specs.Padding.{padded}
use Rattle.dine_lines.proofs.Padded.{is_name-front, word-front}
use Rattle.dine_lines.proofs.name.Name.at_front.Goals as goal

pub invariant_of-result : goal.invariant_of-result
invariant_of-result c =
    let again = word-front c.args.text.now c.args.letters c.args.len c.requires in
    record {
      padded = c.requires.letters ∙ ap padded (sym again);
      name = rw again (is_name-front c.args.text.now c.args.letters c.args.len (omega arith) c.requires);
    }

pub returns-clause-cut : goal.returns-clause-cut
returns-clause-cut c =
    let text = c.args.text.now in
    rw (word-front text c.args.letters c.args.len c.requires, take_rest text c.args.len) (sym (take-append-drop c.args.len text))

pub returns-clause-name : goal.returns-clause-name
returns-clause-name c =
    rw (word-front c.args.text.now c.args.letters c.args.len c.requires) (is_name-front c.args.text.now c.args.letters c.args.len (omega arith) c.requires)

pub returns-clause-whole : goal.returns-clause-whole
returns-clause-whole c few =
    let text = c.args.text.now in
    let again = word-front text c.args.letters c.args.len c.requires in
    let same : length (take c.args.len text) ≡ c.args.len = length-take-le c.args.len text c.requires.bound in
    let fewer : c.args.len < 16 = omega (arith, ap length again) in
    rw (take_rest text c.args.len) (c.requires.end fewer)

pub returns-clause-letters : goal.returns-clause-letters
returns-clause-letters c = word-front c.args.text.now c.args.letters c.args.len c.requires
