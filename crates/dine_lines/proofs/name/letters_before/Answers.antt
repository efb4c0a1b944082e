use Rattle.std.proofs.Common.{ℕ, leb, cond, bit_and, refl, arith}
use Rattle.std.proofs.lemmas.Simd.{zip2_splat, length-chunk}
use lib.Lanes.{chunk}
use Rattle.dine_lines.specs.Names.{is_name_byte}
use Rattle.dine_lines.proofs.Lanes.{joined, splat_is, run_in}
use Rattle.dine_lines.proofs.name.letters_before.Goals as goal

-- a lane stops where its byte is from no letter and from no digit less far than there are such
pub returns : goal.returns
returns c =
    let v = chunk 0 16 c.args.text.now in
    let long = length-chunk 0 16 c.args.text.now (omega (arith, c.requires)) in
    run_in is_name_byte c.args.text.now 16 _ _ c.requires (omega arith) c.type_inv.text c.first_bit.ensures _
    (joined bit_and _ _ v
    (joined (λ a b. cond (leb a b) 255 0) _ _ v (splat_is v 16 26 long) (zip2_splat {Y = ℕ} _ v 16 97 long))
    (joined (λ a b. cond (leb a b) 255 0) _ _ v (splat_is v 16 10 long) (zip2_splat {Y = ℕ} _ v 16 48 long))) refl
