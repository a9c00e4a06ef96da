-- Sets of columns as the bits of a number.
use Rattle.std.proofs.Common.{◌≡◌, ◌<◌, ◌^◌, ◌*◌, ◌%◌, ℕ, max, arith, ap, ◌∙◌}
use Rattle.star_verify.proofs.Common.{bit_at, bit_at-lt, bit_at-pow_other, bit_at-pow_same, bit_at_or, bit_or, eqb_tells, mod-eq_of_lt, nat_eq, pow_mono, ◌||◌}

pub bit_is : (k i : ℕ) → nat_eq (bit_at (2 ^ k) i) 1 ≡ nat_eq k i
bit_is k i = grind (arith, eqb_tells, bit_at-pow_same, bit_at-pow_other)

either_bit : (x y : ℕ) → x < 2 → y < 2 → nat_eq (max x y) 1 ≡ nat_eq x 1 || nat_eq y 1
either_bit x y p q = grind arith

pub either_set : (a b i : ℕ)
    → nat_eq (bit_at (bit_or a b) i) 1 ≡ nat_eq (bit_at a i) 1 || nat_eq (bit_at b i) 1
either_set a b i = ap (λ n. nat_eq n 1) (bit_at_or a b i)
    ∙ either_bit (bit_at a i) (bit_at b i) (bit_at-lt a i) (bit_at-lt b i)

pub bit_alone : (k : ℕ) → k < 58 → 1 * 2 ^ k % 2 ^ 64 ≡ 2 ^ k
bit_alone k small = grind (arith, pow_mono, mod-eq_of_lt)
