-- What is printed of a number tells which number it is, and that it is neither ALL nor NULL.
use Rattle.std.{proofs.Common.{◌≡◌, ◌<◌, ◌^◌, ◌∙◌, ℕ, suc, ℤ, pos, negsuc, List, [], ◌∷◌, ap, arith, codes, drop, refl, subst, sym}, specs.Char.digit_value, specs.Fmt.{decimal, signed_decimal}, specs.Str.Parse.{AllDigits, digits_value}, proofs.lemmas.Fmt.decimal_is_IsNumeral_wide}
use Rattle.star_report.{specs.Columns.HasDigits, proofs.Bytes.Lacks}

digits_lack : (b : ℕ) (ds : List ℕ) → (digit_value b < 10 → ⊥) → AllDigits 10 ds → Lacks b ds
digits_lack b [] other h = tt
digits_lack b (d ∷ ds) other h = (
  λ same. let P : ℕ → Type 0 = λ n. digit_value n < 10 in
      other (subst P same h.0),
  digits_lack b ds other h.1,
)

decimal_lacks : (b n : ℕ) → n < 10 ^ 64 → (digit_value b < 10 → ⊥) → Lacks b (decimal n)
decimal_lacks b n few other = digits_lack b (decimal n) other (decimal_is_IsNumeral_wide n few).0.1

pub number_lacks : (b : ℕ) (z : ℤ) → HasDigits z → (digit_value b < 10 → ⊥) → (45 ≡ b → ⊥)
    → Lacks b (signed_decimal z)
number_lacks b (pos n) few other minus = decimal_lacks b n few other
number_lacks b (negsuc n) few other minus = (minus, decimal_lacks b (suc n) few other)

decimal_same : (m n : ℕ) → m < 10 ^ 64 → n < 10 ^ 64 → decimal m ≡ decimal n → m ≡ n
decimal_same m n h k e =
    sym (decimal_is_IsNumeral_wide m h).1 ∙ ap (digits_value 10) e
    ∙ (decimal_is_IsNumeral_wide n k).1

-- digits don't begin with a minus
no_minus : (n : ℕ) (ds : List ℕ) → n < 10 ^ 64 → decimal n ≡ 45 ∷ ds → ⊥
no_minus n ds h e = let P : List ℕ → Type 0 = Lacks 45 in
    (subst P e (decimal_lacks 45 n h (λ d. omega arith))).0 refl

pub number_same : (y z : ℤ) → HasDigits y → HasDigits z → signed_decimal y ≡ signed_decimal z
    → y ≡ z
number_same (pos m) (pos n) h k e = ap pos (decimal_same m n h k e)
number_same (pos m) (negsuc n) h k e = absurd (no_minus m (decimal (suc n)) h e)
number_same (negsuc m) (pos n) h k e = absurd (no_minus n (decimal (suc m)) k (sym e))
number_same (negsuc m) (negsuc n) h k e = let same =
    decimal_same (suc m) (suc n) h k (ap (drop 1) e) in ap negsuc (omega (arith, same))

-- a number prints otherwise than a word that begins with such a byte
number_apart : (b : ℕ) (word : List ℕ) (z : ℤ) → HasDigits z → (digit_value b < 10 → ⊥)
    → (45 ≡ b → ⊥) → signed_decimal z ≡ b ∷ word → ⊥
number_apart b word z few other minus e = let P : List ℕ → Type 0 = Lacks b in
    (subst P e (number_lacks b z few other minus)).0 refl

pub number_no_all : (z : ℤ) → HasDigits z → signed_decimal z ≡ codes "ALL" → ⊥
number_no_all z few e = number_apart 65 (76 ∷ 76 ∷ []) z few (λ h. omega arith) (λ h. omega arith) e

pub number_no_null : (z : ℤ) → HasDigits z → signed_decimal z ≡ codes "NULL" → ⊥
number_no_null z few e =
    number_apart 78 (85 ∷ 76 ∷ 76 ∷ []) z few (λ h. omega arith) (λ h. omega arith) e
