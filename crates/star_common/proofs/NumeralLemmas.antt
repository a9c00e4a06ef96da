-- The number that some digits write.
use Rattle.std.{proofs.Common.{◌≡◌, ◌+◌, ◌*◌, ◌^◌, ◌<◌, ◌≤◌, ℕ, Option, Some, None, IfSome, Bool, true, false, ◌&&◌, List, [], ◌∷◌, get_or, length, take, arith, refl, lit<, add-one}, proofs.Math.Seq.take-suc, proofs.lemmas.Bool.{and_parts, leb-true}, proofs.lemmas.Int.Digits.{digits_value-lt, digits_value_more}, proofs.lemmas.List.Folds.list_all-append, proofs.lemmas.Str.digit_value_digit, proofs.Math.Nat.{pow-le-pow_right, pow-suc}, specs.Char.is_ascii_digit, specs.List.list_all, specs.Prelude.{if◌then◌else◌, nat_le}, specs.Str.Parse.{AllDigits, digits_value}}
use Rattle.star_common.specs.Numerals.{is_numeral, numeral_of}

-- a digit is a byte from 48 to 57
pub digit_bounds : (b : ℕ) → is_ascii_digit b ≡ true → (48 ≤ b) × (b ≤ 57)
digit_bounds b digit = (leb-true _ _ (and_parts _ _ digit).0, leb-true _ _ (and_parts _ _ digit).1)

-- one more digit
pub digits_more : (ds : List ℕ) (i m d : ℕ) → i < length ds → is_ascii_digit (get_or ds i 0) ≡ true
    → m ≡ digits_value 10 (take i ds) → d + 48 ≡ get_or ds i 0
    → m * 10 + d ≡ digits_value 10 (take (i + 1) ds)
digits_more ds i m d within digit was is =
    grind (arith, digit_value_digit, digit_bounds, digits_value_more)

pub all_more : (ds : List ℕ) (i : ℕ) → i < length ds → list_all is_ascii_digit (take i ds) ≡ true
    → is_ascii_digit (get_or ds i 0) ≡ true → list_all is_ascii_digit (take (i + 1) ds) ≡ true
all_more ds i within so_far digit =
    rw (
      add-one,
      take-suc ds i 0 within,
      list_all-append is_ascii_digit (take i ds) (get_or ds i 0 ∷ []),
      so_far,
      digit,
    ) refl

-- the bound that one more digit keeps
pub room : (i m d : ℕ) → m < 10 ^ i → d < 10 → m * 10 + d < 10 ^ (i + 1)
room i m d small digit =
    let next : 10 ^ (i + 1) ≡ 10 ^ i * 10 = rw add-one (pow-suc 10 i) in
    omega (arith, next)

pub below_power : (i k m : ℕ) → m < 10 ^ i → i ≤ k → m < 10 ^ k
below_power i k m small within = grind (arith, pow-le-pow_right, lit<)

pub some_below_power : (o : Option ℕ) (i k : ℕ) → IfSome o (λ n. n < 10 ^ i) → i ≤ k
    → IfSome o (λ n. n < 10 ^ k)
some_below_power None i k h within = tt
some_below_power (Some n) i k h within = below_power i k n h within

-- a text of digits has them in base 10
pub all_digits : (text : List ℕ) → list_all is_ascii_digit text ≡ true → AllDigits 10 text
all_digits [] h = tt
all_digits (d ∷ text) h =
    let parts = and_parts (is_ascii_digit d) (list_all is_ascii_digit text) h in
    let bounds = digit_bounds d parts.0 in
    let value = digit_value_digit d bounds in
    (omega (arith, bounds.0, bounds.1, value), all_digits text parts.1)

-- a numeral of some width is below ten to their number
pub numeral_below : (width : ℕ) (text : List ℕ) (n : ℕ) → numeral_of width text ≡ Some n
    → n < 10 ^ width
numeral_below width text n h = go (is_numeral width text) refl h
  where
    go : (b : Bool) → is_numeral width text ≡ b
        → (if b then Some (digits_value 10 text) else None) ≡ Some n → n < 10 ^ width
    go false e given = absurd (cc)
    go true e given =
        let digits = and_parts (nat_le 1 (length text) && nat_le (length text) width)
        (list_all is_ascii_digit text) e in
        let most = and_parts (nat_le 1 (length text)) (nat_le (length text) width) digits.0 in
        let is : digits_value 10 text ≡ n = cc in
        let small : n < 10 ^ length text =
        rw is at (digits_value-lt 10 text (all_digits text digits.1)) in
        below_power (length text) width n small (leb-true (length text) width most.1)
