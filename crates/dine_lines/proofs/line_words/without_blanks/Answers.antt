use Rattle.std.proofs.Common.{sym, ap, ◌∙◌}
use Rattle.std.proofs.lemmas.List.{take_rest}
use Rattle.dine_lines.specs.Lines.{words_of}
use Rattle.dine_lines.proofs.Pieces.{words_of-blanks}
use Rattle.dine_lines.proofs.line_words.without_blanks.Goals as goal

pub returns-clause-words : goal.returns-clause-words
returns-clause-words c =
    words_of-blanks _ c.args.line.now c.blanks_len.ensures.bound c.blanks_len.ensures.before
    ∙ ap words_of (sym (take_rest c.args.line.now c.blanks_len.result))
