-- Flat lists cut into rows.
use Rattle.star_group.proofs.Common.{◌≡◌, ℕ, zero, suc, ◌+◌, ◌*◌, ◌<◌, ◌≤◌, List, [], ◌∷◌, ◌++◌, length, get_or, set, take, drop, ap, sym, ◌∙◌, arith, put_mid, drop-append-le, drop_at, drop-drop, get_or-drop, get_or-take, length-drop, length-take-le, take-append-drop, take-append-le, take_all, take_at, drop-put_mid, take-put_mid, mul-le-mul_right, suc-mul, zero-mul, cut_at}
use Rattle.star_program.specs.Rows.{cut}
use Rattle.std.proofs.lemmas.Grind.{common_steps}

-- the length of more rows
pub rows_long : (w m n total : ℕ) → total ≡ m + n → total * w ≡ m * w + n * w
rows_long w m zero total all =
    let same : total ≡ m = omega (arith, all) in
    omega (arith, ap (λ k. k * w) same, zero-mul w)
rows_long w m (suc n) zero all = absurd (omega (arith, all))
rows_long w m (suc n) (suc total) all =
    omega (arith, rows_long w m n total (omega (arith, all)), suc-mul total w, suc-mul n w)

module _ {T : Type 0} (w : ℕ) where
  enough : (n : ℕ) (ps : List T) → length ps ≡ suc n * w → w ≤ length ps
  enough n ps long = omega (arith, long, suc-mul n w)

  fewer : (n : ℕ) (ps : List T) → length ps ≡ suc n * w → length (drop w ps) ≡ n * w
  fewer n ps long = omega (arith, length-drop w ps, long, suc-mul n w)

  pub cut_wide : (n : ℕ) (ps : List T) (i : ℕ) → length ps ≡ n * w → i < n
      → length (get_or (cut w n ps) i []) ≡ w
  unfolding cut
  cut_wide zero ps i long h = absurd (omega (arith, h))
  cut_wide (suc n) ps zero long h = length-take-le w ps (enough n ps long)
  cut_wide (suc n) ps (suc i) long h = cut_wide n (drop w ps) i (fewer n ps long) (omega (arith, h))

  pub cut_append : (m n total : ℕ) (ps qs : List T) → total ≡ n + m → length ps ≡ n * w
      → cut w total (ps ++ qs) ≡ cut w n ps ++ cut w m qs
  unfolding cut
  cut_append m zero total [] qs all long =
      ap (λ k. cut w k qs) (let same : total ≡ m = omega (arith, all) in same)
  cut_append m zero total (p ∷ ps) qs all long = absurd (omega (arith, long, zero-mul w))
  cut_append m (suc n) zero ps qs all long = absurd (omega (arith, all))
  cut_append m (suc n) (suc total) ps qs all long =
      λ i. take-append-le w ps qs (enough n ps long) i
      ∷ (ap (cut w total) (drop-append-le w ps qs (enough n ps long))
      ∙ cut_append m n total (drop w ps) qs (omega (arith, all)) (fewer n ps long)) i

  pub cut_one : (row : List T) → length row ≡ w → cut w 1 row ≡ row ∷ []
  unfolding cut
  cut_one row wide = ap (λ r. r ∷ []) (take_all w row (omega (arith, wide)))

  -- a row in place of another
  pub cut_set : (n : ℕ) (before old row after : List T) (i : ℕ) → i < n → length before ≡ i * w
      → length old ≡ w → length row ≡ w
      → cut w n (before ++ (row ++ after)) ≡ set (cut w n (before ++ (old ++ after))) i row
  unfolding cut
  cut_set zero before old row after i h first was is = absurd (omega (arith, h))
  cut_set (suc n) [] old row after zero h first was is =
      λ i. take_at row after w is i
      ∷ cut w n ((drop_at row after w is ∙ sym (drop_at old after w was)) i)
  cut_set (suc n) (b ∷ before) old row after zero h first was is =
      absurd (omega (arith, first, zero-mul w))
  cut_set (suc n) before old row after (suc i) h first was is =
      let some = enough i before first in
      let rest = cut_set n (drop w before) old row after i (omega (arith, h)) (fewer i before first)
      was is in
      λ k. (take-append-le w before (row ++ after) some
      ∙ sym (take-append-le w before (old ++ after) some)) k
      ∷ (ap (cut w n) (drop-append-le w before (row ++ after) some) ∙ rest
      ∙ ap (λ ps. set (cut w n ps) i row) (sym (drop-append-le w before (old ++ after) some))) k

  module _ (n i : ℕ) (ps : List T) (h : i < n) (long : length ps ≡ n * w) where
    room : i * w + w ≤ length ps
    room = let most : suc i * w ≤ n * w =
        mul-le-mul_right w (let le : suc i ≤ n = omega (arith, h) in le) in
        omega (arith, most, suc-mul i w, long)

    pub mid_at : (k : ℕ) → k ≡ w → take k (drop (i * w) ps) ≡ get_or (cut w n ps) i []
    mid_at k e = ap (λ m. take m (drop (i * w) ps)) e ∙ sym (cut_at w n ps i h)

    old : List T
    old = take w (drop (i * w) ps)

    after : List T
    after = drop (i * w + w) ps

    pieces : ps ≡ take (i * w) ps ++ (old ++ after)
    unfolding old after
    pieces = sym (take-append-drop (i * w) ps)
        ∙ ap (λ r. take (i * w) ps ++ r)
        (sym (take-append-drop w (drop (i * w) ps))
        ∙ ap (λ r. take w (drop (i * w) ps) ++ r) (drop-drop w (i * w) ps))

    old_wide : length old ≡ w
    unfolding old
    old_wide = length-take-le w (drop (i * w) ps) (omega (arith, length-drop (i * w) ps, room))

    put_pieces : (k : ℕ) (row : List T) → k ≡ w → length row ≡ w
        → put_mid (i * w) k ps row ≡ take (i * w) ps ++ (row ++ after)
    unfolding after
    put_pieces k row e is =
        grind (arith, common_steps, room, put_mid, take-append-drop, take-put_mid, drop-put_mid)

    pub cut_put : (k : ℕ) (row : List T) → k ≡ w → length row ≡ w
        → cut w n (put_mid (i * w) k ps row) ≡ set (cut w n ps) i row
    cut_put k row e is =
        grind (arith, put_pieces, cut_set, old, after, length-take-le, room, old_wide, pieces)

-- ---- a position of a row

pub index_read : {X : Type 0} (w n : ℕ) (items : List X) (number index : ℕ) (d : X) → number < n
    → index < w
    → get_or items (number * w + index) d ≡ get_or (get_or (cut w n items) number []) index d
index_read w n items number index d there within = grind (arith, cut_at, get_or-take, get_or-drop)

-- `n` rows have room for each position of each of them
pub index_within : (w n number index : ℕ) → number < n → index < w → number * w + index < n * w
index_within w n number index there within =
    let rows : (number + 1) * w ≤ n * w = mul-le-mul_right w (omega (arith, there)) in
    omega (arith, rows, within)
