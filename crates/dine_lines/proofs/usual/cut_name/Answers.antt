use Rattle.std.proofs.Common.{◌∷◌, ◌++◌, sym, ap, ◌∙◌}
use Rattle.dine_lines.proofs.FirstBytes.{same_word}
use Rattle.dine_lines.proofs.usual.cut_name.Goals as goal

-- the word is the bound name that the hint led to
pub returns-in-Some : goal.returns-in-Some
returns-in-Some c =
    let word = c.in_ok-word.ensures in
    let found = c.in-Some.ensures in
    let same = same_word c.in_ok-word.word.len c.args.text.now found.name word.some word.len word.last found.letters (word.halves ∙ sym found.halves) in
    record { name = found.name; letters = found.letters; named = found.bound; is = word.text ∙ ap (λ w. w ++ c.args.end ∷ c.in_ok-word.word.rest.now) same }
