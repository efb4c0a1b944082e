use Rattle.std.proofs.Common.{ℕ, refl, arith}
use Rattle.std.proofs.lemmas.Simd.{zip2_splat, length-chunk}
use lib.Lanes.{chunk}
use Rattle.dine_lines.specs.ShortWords.{is_above_space}
use Rattle.dine_lines.proofs.Lanes.{run_in}
use Rattle.dine_lines.proofs.short_line.len_above_space.Goals as goal

-- a lane stops where its byte isn't above the space
pub returns : goal.returns
returns c =
    let v = chunk 0 32 c.args.text.now in
    let long = length-chunk 0 32 c.args.text.now (omega (arith, c.requires)) in
    run_in is_above_space c.args.text.now 32 _ _ c.requires (omega arith) c.type_inv.text c.first_bit.ensures _
    (zip2_splat {Y = ℕ} _ v 32 32 long) refl
