use Rattle.std.proofs.Common.{◌<◌, length, ◌∙◌, arith}
use Rattle.std.proofs.lemmas.Bool.Decides.{nat_tests}
use Rattle.dine_lines.proofs.Pieces.{words_of-first}
use Rattle.dine_lines.proofs.line_words.next_word.Goals as goal

pub returns-clause-some : goal.returns-clause-some
returns-clause-some c =
    let rest = c.without_blanks-rest in
    let some : 0 < length rest.result.now = grind (arith, nat_tests) in
    let word = c.word_len.ensures in
    rest.ensures.words
    ∙ rw (c.split_at.ensures.front, c.split_at.ensures.back)
    (words_of-first _ rest.result.now some (rest.ensures.first some) word.bound word.before word.end)
