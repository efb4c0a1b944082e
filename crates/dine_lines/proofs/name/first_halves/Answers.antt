use Rattle.std.proofs.Common.{ℕ, List, ◌≤◌, ◌-◌, ◌++◌, drop, length, replicate, take, sym, ap, ◌∙◌, arith}
use Rattle.std.specs.Int.{to_le_bytes, w64}
use Rattle.dine_lines.proofs.FirstBytes.{padded-few, padded-more, take-take}
use Rattle.dine_lines.proofs.name.first_halves.Goals as goal

pub returns-then-len-le8 : goal.returns-then-len-le8
returns-then-len-le8 c =
    let text = c.args.text.now in
    let len = c.args.len in
    let short : len ≤ length text = omega (arith, c.requires.text, c.requires.len) in
    padded-few len text c.if-len-le8.true short
    ∙ sym
    (ap (λ l. l ++ replicate 8 0)
    (c.first_of.ensures
    ∙ ap (λ eight. take len eight ++ replicate (8 - len) 0) c.eight_at-low.ensures
    ∙ ap (λ word. word ++ replicate (8 - len) 0) (take-take len 8 text c.if-len-le8.true)))

pub returns-else-len-le8 : goal.returns-else-len-le8
returns-else-len-le8 c =
    let text = c.args.text.now in
    let len = c.args.len in
    let short : len ≤ length text = omega (arith, c.requires.text, c.requires.len) in
    let zeros : List ℕ = replicate (8 - (len - 8)) 0 in
    padded-more len text (omega (arith, c.if-len-le8.false)) c.requires.len short
    ∙ sym
    (ap (λ l. l ++ to_le_bytes w64 c.first_of-else-len-le8.result) c.eight_at-low.ensures
    ∙ ap (λ l. take 8 text ++ l)
    (c.first_of-else-len-le8.ensures
    ∙ ap (λ eight. take (len - 8) eight ++ zeros) c.eight_at.ensures
    ∙ ap (λ word. word ++ zeros) (take-take (len - 8) 8 (drop 8 text) (omega (arith, c.requires.len)))))
