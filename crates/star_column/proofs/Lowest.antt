-- The lowest bit of a mask that is set, taken away, and what is kept of it.
use Rattle.std.{proofs.Common.{◌≡◌, ℕ, zero, suc, ◌+◌, ◌*◌, ◌-◌, ◌/◌, ◌%◌, ◌^◌, ◌<◌, ◌≤◌, Bool, false, cond, List, length, get_or, map, refl, sym, ap, ◌∙◌, arith}, proofs.Math.Nat.{mod-eq_of_lt, mul_assoc, pow-suc}, proofs.lemmas.List.get_or-map, proofs.lemmas.Nat.{and_block, and_le_l, shr-shr}, proofs.lemmas.Simd.{bit_mask_l, get_or-chunk, length-chunk}, specs.Prelude.bit_and, specs.Int.Count.{count_trailing_zeros, under}, specs.Int.Bits.and_self}
use lib.Lanes.{chunk}
use Rattle.star_column.specs.Masks.{mask_of}

-- two numbers by their halves
pub and_halves : (a b r s : ℕ) → r < 2 → s < 2
    → bit_and (2 * a + r) (2 * b + s) ≡ 2 * bit_and a b + bit_and r s
and_halves a b r s small_r small_s =
    let first : 2 * a + r ≡ a * 2 ^ 1 + r = omega arith in
    let second : 2 * b + s ≡ b * 2 ^ 1 + s = omega arith in
    let turn : bit_and a b * 2 ^ 1 + bit_and r s ≡ 2 * bit_and a b + bit_and r s = omega arith in
    (λ i. bit_and (first i) (second i))
    ∙ and_block 1 a b r s (omega (arith, small_r)) (omega (arith, small_s)) ∙ turn

-- where the lowest bit of `left` that is set stands, and what is there in `mask`
pub record IsLowest (k left mask : ℕ) : Type 0 where
  pub within : count_trailing_zeros k left < k
  pub less : bit_and left (left - 1) < left
  pub parted : bit_and left mask ≡ bit_and (bit_and left (left - 1)) mask
      + mask / 2 ^ count_trailing_zeros k left % 2 * 2 ^ count_trailing_zeros k left

one_and : (s : ℕ) → s < 2 → bit_and 1 s ≡ s
one_and zero small = refl
one_and (suc zero) small = refl
one_and (suc (suc s)) small = absurd (omega (arith, small))

-- it is the lowest of all
odd : (k left mask h : ℕ) → left ≡ 2 * h + 1 → count_trailing_zeros (suc k) left ≡ zero
    → IsLowest (suc k) left mask
odd k left mask h is first =
    let m = mask / 2 in
    let s = mask % 2 in
    let small : s < 2 = omega arith in
    let before : left - 1 ≡ 2 * h + 0 = omega (arith, is) in
    let whole : mask ≡ 2 * m + s = omega arith in
    let kept : bit_and left (left - 1) ≡ 2 * h + 0 =
    (λ i. bit_and (is i) (before i)) ∙ and_halves h h 1 0 (omega arith) (omega arith)
    ∙ ap (λ a. 2 * a + bit_and 1 0) (and_self h) in
    let all : bit_and left mask ≡ 2 * bit_and h m + s =
    (λ i. bit_and (is i) (whole i)) ∙ and_halves h m 1 s (omega arith) small
    ∙ ap (λ b. 2 * bit_and h m + b) (one_and s small) in
    let others : bit_and (bit_and left (left - 1)) mask ≡ 2 * bit_and h m + 0 =
    (λ i. bit_and (kept i) (whole i)) ∙ and_halves h m 0 s (omega arith) small in
    let one : s * 1 ≡ mask / 2 ^ zero % 2 * 2 ^ zero = omega arith in
    let here : mask / 2 ^ zero % 2 * 2 ^ zero
    ≡ mask / 2 ^ count_trailing_zeros (suc k) left % 2 * 2 ^ count_trailing_zeros (suc k) left =
    ap (λ t. mask / 2 ^ t % 2 * 2 ^ t) (sym first) in
    record {
      within = omega (arith, first);
      less = omega (arith, kept, is);
      parted = omega (arith, all, others, one, here);
    }

-- it stands among the others
even : (k left mask h : ℕ) → left ≡ 2 * h + 0 → 0 < h
    → count_trailing_zeros (suc k) left ≡ suc (count_trailing_zeros k h)
    → IsLowest k h (mask / 2) → IsLowest (suc k) left mask
even k left mask h is some next rest =
    let m = mask / 2 in
    let s = mask % 2 in
    let t = count_trailing_zeros k h in
    let c = bit_and h (h - 1) in
    let small : s < 2 = omega arith in
    let before : left - 1 ≡ 2 * (h - 1) + 1 = omega (arith, is, some) in
    let whole : mask ≡ 2 * m + s = omega arith in
    let kept : bit_and left (left - 1) ≡ 2 * c + 0 =
    (λ i. bit_and (is i) (before i)) ∙ and_halves h (h - 1) 0 1 (omega arith) (omega arith) in
    let all : bit_and left mask ≡ 2 * bit_and h m + 0 =
    (λ i. bit_and (is i) (whole i)) ∙ and_halves h m 0 s (omega arith) small in
    let others : bit_and (bit_and left (left - 1)) mask ≡ 2 * bit_and c m + 0 =
    (λ i. bit_and (kept i) (whole i)) ∙ and_halves c m 0 s (omega arith) small in
    let b = m / 2 ^ t % 2 in
    let on : 1 + t ≡ suc t = omega arith in
    let bit : b ≡ mask / 2 ^ suc t % 2 =
    ap (λ n. n % 2) (shr-shr mask 1 t) ∙ ap (λ n. mask / 2 ^ n % 2) on in
    let there : b * 2 ^ t * 2 ≡ mask / 2 ^ suc t % 2 * 2 ^ suc t =
    mul_assoc b (2 ^ t) 2 ∙ (λ i. bit i * sym (pow-suc 2 t) i) in
    let here : mask / 2 ^ suc t % 2 * 2 ^ suc t
    ≡ mask / 2 ^ count_trailing_zeros (suc k) left % 2 * 2 ^ count_trailing_zeros (suc k) left =
    ap (λ n. mask / 2 ^ n % 2 * 2 ^ n) (sym next) in
    record {
      within = omega (arith, next, rest.within);
      less = omega (arith, kept, is, rest.less);
      parted = omega (arith, all, others, rest.parted, there, here);
    }

pub lowest : (k left mask : ℕ) → 0 < left → left < 2 ^ k → IsLowest k left mask
unfolding count_trailing_zeros
lowest zero left mask some small = absurd (omega (arith, some, small))
lowest (suc k) left mask some small =
    go (left % 2) refl (λ h within. lowest k (left / 2) (mask / 2) h within)
  where
    go : (d : ℕ) → left % 2 ≡ d
        → (0 < left / 2 → left / 2 < 2 ^ k → IsLowest k (left / 2) (mask / 2))
        → IsLowest (suc k) left mask
    go zero e rest =
        let is : left ≡ 2 * (left / 2) + 0 = omega (arith, e) in
        even k left mask (left / 2) is (omega (arith, is, some))
        (ap (λ d. under d (count_trailing_zeros k (left / 2))) e)
        (rest (omega (arith, is, some)) (omega (arith, is, small, pow-suc 2 k)))
    go (suc d) e rest =
        odd k left mask (left / 2) (omega (arith, e))
        (ap (λ d. under d (count_trailing_zeros k (left / 2))) e)

-- ---- one number more is tested

module _ {A : Type 0} (p : A → Bool) (xs : List A) (first left : ℕ) (d : A)
    (room : first + 64 ≤ length xs) (some : 0 < left) (small : left < 2 ^ 64) where
  abbrev index : ℕ
  index = count_trailing_zeros 64 left

  abbrev mask : ℕ
  mask = mask_of p xs first

  there : IsLowest 64 left mask
  there = lowest 64 left mask some small

  bit_is : mask / 2 ^ index % 2 ≡ cond (p (get_or xs (first + index) d)) 1 0
  bit_is =
      let long = length-chunk first 64 xs room in
      bit_mask_l (map p (chunk first 64 xs)) index
      ∙ ap (λ b. cond b 1 0)
      (get_or-map p (chunk first 64 xs) index d false (omega (arith, long, there.within))
      ∙ ap p (get_or-chunk first 64 xs index d there.within))

  module _ (bitmap kept one : ℕ) (fits : bitmap < 2 ^ 64)
      (is : one ≡ cond (p (get_or xs (first + index) d)) 1 0)
      (so_far : bit_and left mask + kept ≡ bit_and bitmap mask) where
    added : one * 2 ^ index % 2 ^ 64 ≡ mask / 2 ^ index % 2 * 2 ^ index
    added =
        ap (λ b. b * 2 ^ index % 2 ^ 64) (is ∙ sym bit_is)
        ∙ mod-eq_of_lt (omega (arith, there.parted, and_le_l left mask, small))

    pub kept_fits : kept + one * 2 ^ index % 2 ^ 64 < 2 ^ 64
    kept_fits = omega (arith, added, there.parted, so_far, and_le_l bitmap mask, fits)

    pub kept_more : bit_and (bit_and left (left - 1)) mask + (kept + one * 2 ^ index % 2 ^ 64)
        ≡ bit_and bitmap mask
    kept_more = omega (arith, added, there.parted, so_far)
