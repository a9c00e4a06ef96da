-- The order of texts by their keys.
use Rattle.std.{proofs.Common.{◌≡◌, ℕ, zero, suc, ◌+◌, ◌*◌, ◌%◌, ◌<◌, ◌≤◌, ◌++◌, if◌then◌else◌, false, List, [], ◌∷◌, length, take, get_or, nat_cmp, refl, sym, ap, ◌∙◌, ⊎_elim, add-one, zero-add, arith}, proofs.lemmas.Bool.{cases_lt, le-ltb, lt-ltb}, proofs.lemmas.Cmp.{nat_cmp_total, nat_list_cmp_total, on_total, then_total}, proofs.lemmas.Grind.same_number_lists, proofs.lemmas.Nat.{be_bytes_4, be_bytes_8}, proofs.lemmas.List.{get_or-take, get_or_past, length-take-le}, specs.Cmp.{nat_cmp_is, IsTotalOrder}, specs.List.All, specs.Ordering.{is_lt, ordering_then, ordering_reverse}, specs.declared.cmp.Ordering.Ordering, specs.declared.cmp.Ordering.TheVariants.{Less, Equal, Greater}, specs.Int.{to_be_bytes, w32, w64}}
use Rattle.star_flat.specs.{Private.Order.IsKeyed, Private.Order.IsWhole, Private.Order.by_key, Private.Order.digits, Private.Order.ending, Private.Order.key_of, Private.Order.text_at, Private.Order.text_cmp, declared.ordered.Numbered.Numbered, declared.ordered.Whole.Whole}

-- ---- numbers that compare
less : (m n : ℕ) → m < n → nat_cmp m n ≡ Less
less m n h = sym (nat_cmp_is m n Less h)

equal : (m n : ℕ) → m ≡ n → nat_cmp m n ≡ Equal
equal m n h = sym (nat_cmp_is m n Equal h)

greater : (m n : ℕ) → n < m → nat_cmp m n ≡ Greater
greater m n h = sym (nat_cmp_is m n Greater h)

-- ---- bytes as digits
byte_below : (text : List ℕ) (n : ℕ) → All (λ byte. byte < 256) text → get_or text n 0 < 256
byte_below text n bytes = grind (arith, get_or_past, cases_lt)

-- texts whose first bytes agree are in the order of the next one
agree_then_less : (n : ℕ) (a b : List ℕ) → ((i : ℕ) → i < n → get_or a i 0 ≡ get_or b i 0)
    → get_or a n 0 < get_or b n 0 → text_cmp a b ≡ Less
agree_then_less n a [] agree next =
    let none = get_or_past {X = ℕ} [] n 0 (omega arith) in absurd (omega (arith, none, next))
agree_then_less n [] (y ∷ ys) agree next = refl
agree_then_less zero (x ∷ xs) (y ∷ ys) agree next =
    ap (λ o. ordering_then o (text_cmp xs ys)) (less x y next)
agree_then_less (suc n) (x ∷ xs) (y ∷ ys) agree next =
    ap (λ o. ordering_then o (text_cmp xs ys)) (equal x y (agree 0 (omega arith)))
    ∙ agree_then_less n xs ys (λ i h. agree (suc i) (omega (arith, h))) next

-- where the first bytes are one number, they agree
digits_agree : (n : ℕ) (a b : List ℕ) → All (λ byte. byte < 256) a → All (λ byte. byte < 256) b
    → digits n a ≡ digits n b → (i : ℕ) → i < n → get_or a i 0 ≡ get_or b i 0
unfolding digits
digits_agree zero a b bytes_a bytes_b same i within = absurd (omega (arith, within))
digits_agree (suc n) a b bytes_a bytes_b same i within =
    let x = byte_below a n bytes_a in
    let y = byte_below b n bytes_b in
    let before : digits n a ≡ digits n b = omega (arith, same, x, y) in
    let here : get_or a n 0 ≡ get_or b n 0 = omega (arith, same, x, y) in
    ⊎_elim {C = get_or a i 0 ≡ get_or b i 0}
    (λ earlier. digits_agree n a b bytes_a bytes_b before i earlier)
    (λ last. let is : i ≡ n = omega (arith, within, last) in
    ap (λ k. get_or a k 0) is ∙ here ∙ ap (λ k. get_or b k 0) (sym is))
    (cases_lt i n)

-- and where one's number is less, it is
digits_less : (n : ℕ) (a b : List ℕ) → All (λ byte. byte < 256) a → All (λ byte. byte < 256) b
    → digits n a < digits n b → text_cmp a b ≡ Less
unfolding digits
digits_less zero a b bytes_a bytes_b below = absurd (omega (arith, below))
digits_less (suc n) a b bytes_a bytes_b below =
    let x = byte_below a n bytes_a in
    let y = byte_below b n bytes_b in
    ⊎_elim {C = text_cmp a b ≡ Less}
    (λ before. digits_less n a b bytes_a bytes_b before)
    (λ from. let same : digits n a ≡ digits n b = omega (arith, below, x, y, from) in
    agree_then_less n a b (digits_agree n a b bytes_a bytes_b same) (omega (arith, below, same)))
    (cases_lt (digits n a) (digits n b))

-- one more byte as a digit
pub digits_more : (n : ℕ) (text : List ℕ)
    → digits (n + 1) text ≡ digits n text * 256 + get_or text n 0
unfolding digits
digits_more n text = ap (λ m. digits m text) (add-one n)

pub digits_none : (text : List ℕ) → digits 0 text ≡ 0
unfolding digits
digits_none text = refl

pub byte_fits : (text : List ℕ) (n : ℕ) → All (λ byte. byte < 256) text → get_or text n 0 < 256
byte_fits = byte_below

-- a text that another goes on from is less
prefix_less : (a b : List ℕ) → length a < length b
    → ((i : ℕ) → i < length a → get_or a i 0 ≡ get_or b i 0) → text_cmp a b ≡ Less
prefix_less a [] longer agree = absurd (omega (arith, longer))
prefix_less [] (y ∷ ys) longer agree = refl
prefix_less (x ∷ xs) (y ∷ ys) longer agree =
    ap (λ o. ordering_then o (text_cmp xs ys)) (equal x y (agree 0 (omega arith)))
    ∙ prefix_less xs ys (omega (arith, longer)) (λ i h. agree (suc i) (omega (arith, h)))

-- a text compares as equal with itself
same_equal : (text : List ℕ) → text_cmp text text ≡ Equal
same_equal [] = refl
same_equal (x ∷ xs) = grind (arith, equal, same_equal xs)

-- ---- bytes of a text from a position on, with zeros after its end
padded : ℕ → ℕ → List ℕ → List ℕ
padded zero i text = []
padded (suc n) i text = get_or text i 0 ∷ padded n (suc i) text

padded_byte : (text : List ℕ) → All (λ byte. byte < 256) text → (n i k : ℕ)
    → get_or (padded n i text) k 0 < 256
unfolding padded
padded_byte text bytes zero i k = omega (arith, get_or_past {X = ℕ} [] k 0 (omega arith))
padded_byte text bytes (suc n) i zero = byte_below text i bytes
padded_byte text bytes (suc n) i (suc k) = padded_byte text bytes n (suc i) k

byte_then : (text : List ℕ) → All (λ byte. byte < 256) text → (n i last : ℕ) → last < 256
    → (k : ℕ) → get_or (padded n i text ++ last ∷ []) k 0 < 256
unfolding padded
byte_then text bytes zero i last few zero = few
byte_then text bytes zero i last few (suc k) =
    omega (arith, get_or_past {X = ℕ} [] k 0 (omega arith))
byte_then text bytes (suc n) i last few zero = byte_below text i bytes
byte_then text bytes (suc n) i last few (suc k) = byte_then text bytes n (suc i) last few k

padded_at : (text : List ℕ) (n i k : ℕ) → k < n
    → get_or (padded n i text) k 0 ≡ get_or text (i + k) 0
unfolding padded
padded_at text zero i k within = absurd (omega (arith, within))
padded_at text (suc n) i zero within = ap (λ m. get_or text m 0) (omega arith)
padded_at text (suc n) i (suc k) within =
    padded_at text n (suc i) k (omega (arith, within)) ∙ ap (λ m. get_or text m 0) (omega arith)

-- ---- texts by their keys
module _ (texts : List (List ℕ)) where
  -- keys are in some order, whatever their fronts are
  pub key_total : IsTotalOrder (by_key texts)
  key_total = then_total (on_total (λ (e : Numbered). e.first) nat_cmp_total)
      (then_total (on_total (λ (e : Numbered). e.second) nat_cmp_total)
      (on_total (ending texts) nat_list_cmp_total))

  -- how many bytes a key tells, and which texts it tells whole
  counted : (e : Numbered) → IsKeyed texts e → e.second % 256 < 13
  counted e keyed = grind (arith, cases_lt)

  pub whole_length : (e : Numbered) → IsKeyed texts e → e.second % 256 < 12
      → length (text_at texts e) ≡ e.second % 256
  whole_length e keyed whole = grind (arith, cases_lt)

  -- of texts with the same first bytes the one whose key is less is less
  second_less : (a b : Numbered) → IsKeyed texts a → IsKeyed texts b → a.first ≡ b.first
      → a.second < b.second → text_cmp (text_at texts a) (text_at texts b) ≡ Less
  second_less a b keyed_a keyed_b same below =
      let x = text_at texts a in
      let y = text_at texts b in
      let few_a = counted a keyed_a in
      let few_b = counted b keyed_b in
      ⊎_elim {C = text_cmp x y ≡ Less}
      (λ before. digits_less 11 x y keyed_a.bytes keyed_b.bytes before)
      (λ from.
      let one : digits 11 x ≡ digits 11 y = omega (
        arith,
        from,
        below,
        same,
        few_a,
        few_b,
        keyed_a.first_is,
        keyed_b.first_is,
        keyed_a.second_is,
        keyed_b.second_is,
      ) in
      let fewer : a.second % 256 < b.second % 256 = omega (
        arith,
        one,
        below,
        same,
        keyed_a.first_is,
        keyed_b.first_is,
        keyed_a.second_is,
        keyed_b.second_is,
      ) in
      let less_a = whole_length a keyed_a (omega (arith, fewer, few_b)) in
      let longer : length x < length y = ⊎_elim {C = length x < length y}
      (λ few. omega (arith, fewer, less_a, keyed_b.short few))
      (λ many. omega (arith, fewer, less_a, few_b, many))
      (cases_lt (length y) 12) in
      prefix_less x y longer (λ i within.
      digits_agree 11 x y keyed_a.bytes keyed_b.bytes one i
      (omega (arith, within, less_a, fewer, few_b))))
      (cases_lt (digits 11 x) (digits 11 y))

  -- texts are one whose fronts are one and tell them whole
  pub whole_same : (a b : Numbered) → IsKeyed texts a → IsKeyed texts b → a.first ≡ b.first
      → a.second ≡ b.second → a.second % 256 < 12 → text_at texts a ≡ text_at texts b
  whole_same a b keyed_a keyed_b same second whole =
      let x = text_at texts a in
      let y = text_at texts b in
      let len_a = whole_length a keyed_a whole in
      let len_b = whole_length b keyed_b (omega (arith, whole, second)) in
      let one : digits 11 x ≡ digits 11 y = omega (
        arith,
        same,
        second,
        keyed_a.first_is,
        keyed_b.first_is,
        keyed_a.second_is,
        keyed_b.second_is,
      ) in
      same_number_lists x y (omega (arith, len_a, len_b, second)) (λ i within.
      digits_agree 11 x y keyed_a.bytes keyed_b.bytes one i
      (omega (arith, within, len_a, whole)))

  -- the front as bytes is the text where it tells it whole
  first_bytes : (e : Numbered) → IsKeyed texts e
      → to_be_bytes w64 e.first ≡ padded 8 0 (text_at texts e)
  unfolding padded
  first_bytes e keyed =
      let x = text_at texts e in
      be_bytes_8 (padded 8 0 x) e.first refl (padded_byte x keyed.bytes 8 0) (omega (
        arith,
        keyed.first_is,
        digits_none x,
        digits_more 0 x,
        digits_more 1 x,
        digits_more 2 x,
        digits_more 3 x,
        digits_more 4 x,
        digits_more 5 x,
        digits_more 6 x,
        digits_more 7 x,
      ))

  second_bytes : (e : Numbered) → IsKeyed texts e
      → to_be_bytes w32 e.second ≡ padded 3 8 (text_at texts e) ++ e.second % 256 ∷ []
  unfolding padded
  second_bytes e keyed =
      let x = text_at texts e in
      let bytes = padded 3 8 x ++ e.second % 256 ∷ [] in
      be_bytes_4 bytes e.second refl (byte_then x keyed.bytes 3 8 (e.second % 256) (omega arith))
      (omega (arith, keyed.second_is, digits_more 8 x, digits_more 9 x, digits_more 10 x))

  pub front_is : (e : Numbered) → IsKeyed texts e → e.second % 256 < 12
      → take (e.second % 256) (take 11 (to_be_bytes w64 e.first ++ to_be_bytes w32 e.second))
      ≡ text_at texts e
  unfolding padded
  front_is e keyed whole =
      let x = text_at texts e in
      let front = take 11 (to_be_bytes w64 e.first ++ to_be_bytes w32 e.second) in
      let is : front ≡ padded 11 0 x =
      λ i. take 11 (first_bytes e keyed i ++ second_bytes e keyed i) in
      let long : length (padded 11 0 x) ≡ 11 = refl in
      ap (take (e.second % 256)) is
      ∙ same_number_lists (take (e.second % 256) (padded 11 0 x)) x
      (omega (
        arith,
        length-take-le (e.second % 256) (padded 11 0 x) (omega (arith, whole, long)),
        whole_length e keyed whole,
      ))
      (λ k within.
      let inside : k < e.second % 256 =
      omega (
        arith,
        within,
        length-take-le (e.second % 256) (padded 11 0 x)
            (omega (arith, whole, long)),
      ) in
      get_or-take (e.second % 256) (padded 11 0 x) k 0 inside
      ∙ padded_at x 11 0 k (omega (arith, inside, whole))
      ∙ ap (λ m. get_or x m 0) (zero-add k))

  ending_none : (e : Numbered) → e.second % 256 < 12 → ending texts e ≡ []
  ending_none e whole = grind (arith, lt-ltb)

  ending_all : (e : Numbered) → 12 ≤ e.second % 256 → ending texts e ≡ text_at texts e
  ending_all e more = grind (arith, le-ltb)

  module _ (a b : Numbered) (keyed_a : IsKeyed texts a) (keyed_b : IsKeyed texts b) where
    abbrev by_text : Ordering
    by_text = text_cmp (text_at texts a) (text_at texts b)

    is_less : (n : ℕ) → digits n (text_at texts a) < digits n (text_at texts b) → by_text ≡ Less
    is_less n below = digits_less n (text_at texts a) (text_at texts b) keyed_a.bytes keyed_b.bytes
        below

    -- whatever comes last, if it compares texts whose fronts are one as they do
    module _ (last : Ordering)
        (tells : a.first ≡ b.first → a.second ≡ b.second → last ≡ by_text) where
      abbrev by_second : Ordering
      by_second = ordering_then (nat_cmp a.second b.second) last

      seconds : a.first ≡ b.first → by_second ≡ by_text
      seconds same = ⊎_elim {C = by_second ≡ by_text}
          (λ below. ap (λ o. ordering_then o last) (less a.second b.second below)
          ∙ sym (second_less a b keyed_a keyed_b same below))
          (λ from. ⊎_elim {C = by_second ≡ by_text}
          (λ above. ap (λ o. ordering_then o last) (greater a.second b.second above)
          ∙ sym (nat_list_cmp_total.antisymm (text_at texts a) (text_at texts b)
          ∙ ap ordering_reverse (second_less b a keyed_b keyed_a (sym same) above)))
          (λ upto. let one : a.second ≡ b.second = omega (arith, from, upto) in
          ap (λ o. ordering_then o last) (equal a.second b.second one) ∙ tells same one)
          (cases_lt b.second a.second))
          (cases_lt a.second b.second)

      firsts : ordering_then (nat_cmp a.first b.first) by_second ≡ by_text
      firsts = ⊎_elim {C = ordering_then (nat_cmp a.first b.first) by_second ≡ by_text}
          (λ below. ap (λ o. ordering_then o by_second) (less a.first b.first below)
          ∙ sym (is_less 8 (omega (arith, below, keyed_a.first_is, keyed_b.first_is))))
          (λ from. ⊎_elim {C = ordering_then (nat_cmp a.first b.first) by_second ≡ by_text}
          (λ above. ap (λ o. ordering_then o by_second) (greater a.first b.first above)
          ∙ sym (nat_list_cmp_total.antisymm (text_at texts a) (text_at texts b)
          ∙ ap ordering_reverse
          (digits_less 8 (text_at texts b) (text_at texts a) keyed_b.bytes keyed_a.bytes
          (omega (arith, above, keyed_a.first_is, keyed_b.first_is)))))
          (λ upto. let same : a.first ≡ b.first = omega (arith, from, upto) in
          ap (λ o. ordering_then o by_second) (equal a.first b.first same) ∙ seconds same)
          (cases_lt b.first a.first))
          (cases_lt a.first b.first)

    endings : a.first ≡ b.first → a.second ≡ b.second
        → text_cmp (ending texts a) (ending texts b) ≡ by_text
    endings same second = ⊎_elim {C = text_cmp (ending texts a) (ending texts b) ≡ by_text}
        (λ whole.
        (λ i. text_cmp (ending_none a whole i) (ending_none b (omega (arith, whole, second)) i))
        ∙ sym (ap (text_cmp (text_at texts a))
        (sym (whole_same a b keyed_a keyed_b same second whole))
        ∙ same_equal (text_at texts a)))
        (λ more. λ i.
        text_cmp (ending_all a more i) (ending_all b (omega (arith, more, second)) i))
        (cases_lt (a.second % 256) 12)

    -- keys compare as their texts
    pub as_texts : by_key texts a b ≡ by_text
    as_texts = firsts (text_cmp (ending texts a) (ending texts b)) endings

    pub as_wholes
        : ordering_then (nat_cmp a.first b.first)
        (ordering_then (nat_cmp a.second b.second) by_text)
        ≡ by_text
    as_wholes = firsts by_text (λ same second. refl)

    -- keys of one text have one front
    pub same_front : text_at texts a ≡ text_at texts b → (a.first ≡ b.first) × (a.second ≡ b.second)
    same_front e = grind (arith, cases_lt)

-- ---- texts by their keys, then by themselves, and then by number
abbrev pub by_whole : Whole → Whole → Ordering
by_whole a b =
    ordering_then (nat_cmp a.first b.first) (ordering_then (nat_cmp a.second b.second)
    (ordering_then (text_cmp a.text.now b.text.now) (nat_cmp a.number b.number)))

never_less : (o p q r : Ordering)
    → is_lt (ordering_then o (ordering_then p (ordering_then q r))) ≡ false
    → is_lt (ordering_then o (ordering_then p q)) ≡ false
never_less Less p q r h = h
never_less Greater p q r h = refl
never_less Equal Less q r h = h
never_less Equal Greater q r h = refl
never_less Equal Equal Less r h = h
never_less Equal Equal Equal r h = refl
never_less Equal Equal Greater r h = refl

-- those in order are of texts in order
pub up_by_text : (texts : List (List ℕ)) (a b : Whole) → IsWhole texts a → IsWhole texts b
    → is_lt (by_whole a b) ≡ false
    → is_lt (text_cmp (text_at texts (key_of a)) (text_at texts (key_of b))) ≡ false
up_by_text texts a b whole_a whole_b up =
    ap is_lt (sym (as_wholes texts (key_of a) (key_of b) whole_a.keyed whole_b.keyed))
    ∙ (λ i. is_lt (ordering_then (nat_cmp a.first b.first)
    (ordering_then (nat_cmp a.second b.second)
    (text_cmp (sym whole_a.text_is i) (sym whole_b.text_is i)))))
    ∙ never_less (nat_cmp a.first b.first) (nat_cmp a.second b.second)
    (text_cmp a.text.now b.text.now) (nat_cmp a.number b.number) up
