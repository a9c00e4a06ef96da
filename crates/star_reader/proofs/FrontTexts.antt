-- The first field of a text, as a text.
use Rattle.std.{proofs.Common.{◌≡◌, ◌⊎◌, ◌+◌, ◌<◌, ◌≤◌, ◌∙◌, ◌||◌, ℕ, zero, suc, Bool, List, [], ◌∷◌, true, false, get_or, length, not, take, refl, sym, inl, inr, arith}, proofs.lemmas.Bool.{and_from, and_parts, cases_Bool, le-leb, leb-true, true≢false}, proofs.lemmas.List.length-take-le, specs.List.{list_all, prefix_len}, specs.Prelude.nat_le}
use Rattle.star_common.specs.Printable.{is_printable}
use Rattle.star_schema.specs.{Records.is_bar, Tables.is_short}
use Rattle.star_reader.{specs.Private.Fronts.{IsFront, is_plain, is_stop}, proofs.Fronts.all_at}

-- a first field reaches as far as there is no bar
pub past_plain : (text : List ℕ) (i n : ℕ) → list_all is_plain (take i text) ≡ true
    → i ≤ length text → IsFront text n → i ≤ n
past_plain text i n plain within front = go (below_or n i)
  where
    below_or : (a b : ℕ) → (a < b) ⊎ (b ≤ a)
    below_or zero zero = inr (omega arith)
    below_or zero (suc b) = inl (omega arith)
    below_or (suc a) zero = inr (omega arith)
    below_or (suc a) (suc b) = elim (below_or a b)
        [ inl less ↦ inl (omega (arith, less)) | inr more ↦ inr (omega (arith, more)) ]

    go : (n < i) ⊎ (i ≤ n) → i ≤ n
    go (inr more) = more
    go (inl less) = absurd (elim front.end [
      | inl all ↦ omega (arith, less, within, all)
      | inr bar ↦
          let no_bar : is_plain (get_or text n 0) ≡ true =
          all_at is_plain text i n plain less within
          in
          let bad : false ≡ true = rw bar.1 at no_bar in
          true≢false (sym bad)
    ])

-- a text has one first field
pub one_front : (text : List ℕ) (m n : ℕ) → IsFront text m → IsFront text n → m ≡ n
one_front text m n a b =
    omega (
      arith,
      past_plain text m n a.plain a.within b,
      past_plain text n m b.plain b.within a,
    )

-- a byte that is not printable stands in the first field
pub bad_byte : (text : List ℕ) (i n : ℕ) → i < length text → list_all is_plain (take i text) ≡ true
    → (get_or text i 0 ≡ 124 → ⊥) → is_printable (get_or text i 0) ≡ false → IsFront text n
    → list_all is_printable (take n text) ≡ false
bad_byte text i n within plain other bad front =
    let reaches = past_plain text i n plain (omega (arith, within)) front in
    let past : i < n = go reaches in
    elim (cases_Bool (list_all is_printable (take n text))) [
      | inl fine ↦
          absurd (true≢false (sym (all_at is_printable text n i fine past front.within) ∙ bad))
      | inr found ↦ found
    ]
  where
    apart : (a b : ℕ) → a ≤ b → (a < b) ⊎ (a ≡ b)
    apart zero zero h = inr refl
    apart zero (suc b) h = inl (omega arith)
    apart (suc a) zero h = absurd (omega (arith, h))
    apart (suc a) (suc b) h = elim (apart a b (omega (arith, h)))
        [ inl less ↦ inl (omega (arith, less)) | inr same ↦ inr (omega (arith, same)) ]

    go : i ≤ n → i < n
    go reaches = elim (apart i n reaches) [
      | inl less ↦ less
      | inr same ↦ absurd (elim front.end [
        | inl all ↦ omega (arith, within, same, all)
        | inr bar ↦ other (rw same bar.1)
      ])
    ]

-- a first field of more than 255 bytes
pub long_front : (text : List ℕ) (n : ℕ) → list_all is_plain (take 256 text) ≡ true
    → 256 ≤ length text → IsFront text n → is_short (take n text) ≡ false
long_front text n plain within front =
    let reaches = past_plain text 256 n plain within front in
    let all = length-take-le n text front.within in
    elim (cases_Bool (is_short (take n text))) [
      | inl short ↦ absurd (omega (arith, all, reaches, leb-true (length (take n text)) 255 short))
      | inr long ↦ long
    ]

pub short_front : (text : List ℕ) (n : ℕ) → n ≤ length text → n ≤ 255
    → is_short (take n text) ≡ true
short_front text n within few =
    le-leb (length (take n text)) 255 (omega (arith, length-take-le n text within, few))

pub printable_byte : (b : ℕ) → 32 ≤ b → b ≤ 126 → is_printable b ≡ true
printable_byte b low high = and_from _ _ (le-leb 32 b low) (le-leb b 126 high)

pub below_space : (b : ℕ) → b < 32 → is_printable b ≡ false
below_space b low = elim (cases_Bool (is_printable b)) [
  | inl fine ↦
      let least = leb-true 32 b (and_parts (nat_le 32 b) (nat_le b 126) fine).0 in
      absurd (omega (arith, low, least))
  | inr bad ↦ bad
]

pub above_tilde : (b : ℕ) → 126 < b → is_printable b ≡ false
above_tilde b high = elim (cases_Bool (is_printable b)) [
  | inl fine ↦
      let most = leb-true b 126 (and_parts (nat_le 32 b) (nat_le b 126) fine).1 in
      absurd (omega (arith, high, most))
  | inr bad ↦ bad
]

neither : (x y : Bool) → not (x || not y) ≡ true → (not x ≡ true) × (y ≡ true)
neither true y h = absurd (true≢false (sym h))
neither false true h = (refl, refl)
neither false false h = absurd (true≢false (sym h))

-- bytes before the first that fails one test pass another
passed : (p q : ℕ → Bool) → ((b : ℕ) → p b ≡ true → q b ≡ true) → (text : List ℕ) (n : ℕ)
    → list_all q (take (prefix_len p (take n text)) text) ≡ true
passed p q more [] zero = refl
passed p q more [] (suc n) = refl
passed p q more (b ∷ text) zero = refl
passed p q more (b ∷ text) (suc n) = elim (cases_Bool (p b)) [
  | inl fine ↦
      let one : 1 + prefix_len p (take n text) ≡ suc (prefix_len p (take n text)) = omega arith in
      rw (fine, one) (and_from _ _ (more b fine) (passed p q more text n))
  | inr bad ↦ rw bad refl
]

-- the bytes before the first stop
pub near_bytes : (text : List ℕ) (count : ℕ)
    → count ≡ prefix_len (λ b. not (is_stop b)) (take 16 text)
    → (list_all is_plain (take count text) ≡ true)
    × (list_all is_printable (take count text) ≡ true)
near_bytes text count is = (
  rw is (passed (λ b. not (is_stop b)) is_plain
      (λ b h. (neither (is_bar b) (is_printable b) h).0) text 16),
  rw is (passed (λ b. not (is_stop b)) is_printable
      (λ b h. (neither (is_bar b) (is_printable b) h).1) text 16),
)
