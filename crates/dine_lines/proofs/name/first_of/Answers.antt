use Rattle.std.proofs.Common.{◌≡◌, ◌<◌, ◌≤◌, ℕ, zero, suc, ◌*◌, ◌%◌, ◌/◌, ◌^◌, ◌-◌, ◌++◌, take, replicate, refl, ap, ◌∙◌, arith, bit_and}
use Rattle.std.proofs.Math.Nat.{mod-eq_of_lt}
use Rattle.std.proofs.lemmas.Nat.{and_mask}
use Rattle.std.specs.Int.{to_le_bytes, w64}
use Rattle.dine_lines.proofs.FirstBytes.{first_bytes}
use Rattle.dine_lines.proofs.name.first_of.Goals as goal

-- as many ones as the first bytes have bits
ones : (k : ℕ) → 0 < k → k ≤ 8 → 18446744073709551615 / 2 ^ (64 - 8 * k) ≡ 2 ^ (8 * k) - 1
ones zero some few = absurd (omega arith)
ones (suc zero) some few = refl
ones (suc (suc zero)) some few = refl
ones (suc (suc (suc zero))) some few = refl
ones (suc (suc (suc (suc zero)))) some few = refl
ones (suc (suc (suc (suc (suc zero))))) some few = refl
ones (suc (suc (suc (suc (suc (suc zero)))))) some few = refl
ones (suc (suc (suc (suc (suc (suc (suc zero))))))) some few = refl
ones (suc (suc (suc (suc (suc (suc (suc (suc zero)))))))) some few = refl
ones (suc (suc (suc (suc (suc (suc (suc (suc (suc k))))))))) some few = absurd (omega arith)

-- all eight bytes are the first eight
first_some : (n k : ℕ) → n < 2 ^ 64 → k ≤ 8 → to_le_bytes w64 (n % 2 ^ (8 * k)) ≡ take k (to_le_bytes w64 n) ++ replicate (8 - k) 0
first_some n (suc (suc (suc (suc (suc (suc (suc (suc zero)))))))) small few = ap (to_le_bytes w64) (mod-eq_of_lt small)
first_some n (suc (suc (suc (suc (suc (suc (suc (suc (suc k))))))))) small few = absurd (omega arith)
first_some n zero small few = first_bytes n 0 small (omega arith)
first_some n (suc zero) small few = first_bytes n 1 small (omega arith)
first_some n (suc (suc zero)) small few = first_bytes n 2 small (omega arith)
first_some n (suc (suc (suc zero))) small few = first_bytes n 3 small (omega arith)
first_some n (suc (suc (suc (suc zero)))) small few = first_bytes n 4 small (omega arith)
first_some n (suc (suc (suc (suc (suc zero))))) small few = first_bytes n 5 small (omega arith)
first_some n (suc (suc (suc (suc (suc (suc zero)))))) small few = first_bytes n 6 small (omega arith)
first_some n (suc (suc (suc (suc (suc (suc (suc zero))))))) small few = first_bytes n 7 small (omega arith)

pub returns : goal.returns
returns c =
    let number = c.args.number in
    let len = c.args.len in
    ap (λ m. to_le_bytes w64 (bit_and number m)) (ones len (omega (arith, c.if-len-eq0.false)) c.requires)
    ∙ ap (to_le_bytes w64) (and_mask number (8 * len))
    ∙ first_some number len c.ranges.number.fits c.requires
