use Rattle.std.proofs.Common.{sym, ◌∙◌}
use Rattle.dine_lines.proofs.Padded.{word_in-first}
use Rattle.dine_lines.proofs.name.Name.letters.Goals as goal

pub returns : goal.returns
returns c =
    let len = c.letters_len.ensures in
    sym (word_in-first c.letters_len.result c.self.inside.letters len.bound len.before len.end) ∙ c.self.view_is
