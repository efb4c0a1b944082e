use Rattle.std.proofs.Common.{length, subst}
use Rattle.std.proofs.lemmas.List.{take_rest}
use Rattle.memchr.specs.Find.{Nowhere, NoneBefore, Passes, is_byte}
use Rattle.dine_lines.proofs.Blocks.{first_after, nowhere_after}
use Rattle.dine_lines.proofs.line_feed.line_feed_from.Goals as goal

pub returns-in-Some : goal.returns-in-Some
returns-in-Some c =
    let text = c.args.text.now in
    first_after (is_byte 10) text c.args.from c.in-Some.end c.requires.inside c.requires.passed
    (subst (λ rest. NoneBefore (Passes (is_byte 10) rest) 0 (length rest) c.in-Some.end × Passes (is_byte 10) rest c.in-Some.end) (take_rest text c.args.from) c.in-Some.ensures)

pub returns-in-None : goal.returns-in-None
returns-in-None c =
    let text = c.args.text.now in
    nowhere_after (is_byte 10) text c.args.from c.requires.inside c.requires.passed
    (subst (λ rest. Nowhere (Passes (is_byte 10) rest) 0 (length rest)) (take_rest text c.args.from) c.in-None.ensures)
