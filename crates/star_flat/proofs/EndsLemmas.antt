-- Ends of texts by the starts of their blocks.
use Rattle.std.{proofs.Common.{◌≡◌, ℕ, ◌+◌, ◌/◌, ◌-◌, ◌^◌, ◌<◌, ◌≤◌, ◌⊎◌, List, [], ◌∷◌, ◌++◌, Some, length, get_or, sym, ap, ◌∙◌, refl, ⊎_elim, arith, zero-add}, proofs.lemmas.List.{ext_get_or, get_or-map, get_or_append_left, length-map, length_push}, proofs.lemmas.Bool.cases_lt, proofs.lemmas.List.FromFn.{get_or-range_with_len, length-range_with_len}, proofs.lemmas.Option.{get_or_from_slice_get, slice_get-get_or, slice_get_within}, specs.List.{All, range_with_len, slice_get}}
use Rattle.star_flat.{specs.Private.Ends.{end_of, ends_of}, proofs.Pushed.pushed_here}

pub length-ends_of : (starts offsets : List ℕ) → length (ends_of starts offsets) ≡ length offsets
unfolding ends_of
length-ends_of starts offsets = grind (arith, length-map, length-range_with_len)

pub end_there : (starts offsets : List ℕ) (index d : ℕ) → index < length offsets
    → get_or (ends_of starts offsets) index d ≡ end_of starts offsets index
unfolding ends_of
end_there starts offsets index d h =
    get_or-map (end_of starts offsets) (range_with_len 0 (length offsets)) index 0 d
    (omega (arith, h, length-range_with_len 0 (length offsets)))
    ∙ ap (end_of starts offsets)
    (get_or-range_with_len 0 (length offsets) index 0 h ∙ zero-add index)

pub end_got : (starts offsets : List ℕ) (index : ℕ) → index < length offsets
    → slice_get (ends_of starts offsets) index ≡ Some (end_of starts offsets index)
end_got starts offsets index h = slice_get-get_or (ends_of starts offsets) index 0
    (omega (arith, h, length-ends_of starts offsets))
    ∙ ap Some (end_there starts offsets index 0 h)

pub no_ends : (starts : List ℕ) → ends_of starts [] ≡ []
unfolding ends_of
no_ends starts = refl

-- ends stay where the starts of their blocks do
pub same_ends : (starts others offsets : List ℕ)
    → ((index : ℕ) → index < length offsets
    → get_or starts (index / 16) 0 ≡ get_or others (index / 16) 0)
    → ends_of starts offsets ≡ ends_of others offsets
same_ends starts others offsets same =
    ext_get_or 0 (ends_of starts offsets) (ends_of others offsets)
    (length-ends_of starts offsets ∙ sym (length-ends_of others offsets))
    (λ k h. let within : k < length offsets = omega (arith, h, length-ends_of starts offsets) in
    end_there starts offsets k 0 within ∙ ap (λ s. s + get_or offsets k 0) (same k within)
    ∙ sym (end_there others offsets k 0 within))

-- one more end
module _ (starts offsets : List ℕ) (offset : ℕ) where
  abbrev more : List ℕ
  more = offsets ++ offset ∷ []

  abbrev last : ℕ
  last = get_or starts (length offsets / 16) 0 + offset

  abbrev pushed : List ℕ
  pushed = ends_of starts offsets ++ last ∷ []

  earlier : (k : ℕ) → k < length offsets → get_or (ends_of starts more) k 0 ≡ get_or pushed k 0
  earlier k before = end_there starts more k 0 (omega (arith, before, length_push offsets offset))
      ∙ ap (λ o. get_or starts (k / 16) 0 + o) (get_or_append_left offsets (offset ∷ []) 0 k before)
      ∙ sym (end_there starts offsets k 0 before)
      ∙ sym (get_or_append_left (ends_of starts offsets) (last ∷ []) 0 k
      (omega (arith, before, length-ends_of starts offsets)))

  here : (k : ℕ) → k < length offsets + 1 → length offsets ≤ k
      → get_or (ends_of starts more) k 0 ≡ get_or pushed k 0
  here k within from =
      let is : k ≡ length offsets = omega (arith, within, from) in
      let at : k ≡ length (ends_of starts offsets) = is ∙ sym (length-ends_of starts offsets) in
      end_there starts more k 0 (omega (arith, within, length_push offsets offset))
      ∙ (λ i. get_or starts (is i / 16) 0 + get_or more (is i) 0)
      ∙ ap (λ o. get_or starts (length offsets / 16) 0 + o)
      (get_or_from_slice_get more (length offsets) offset 0 (pushed_here offsets offset))
      ∙ sym (get_or_from_slice_get pushed (length (ends_of starts offsets)) last 0
      (pushed_here (ends_of starts offsets) last))
      ∙ ap (λ n. get_or pushed n 0) (sym at)

  pub ends_more : ends_of starts more ≡ pushed
  ends_more = ext_get_or 0 (ends_of starts more) pushed
      (length-ends_of starts more ∙ length_push offsets offset
      ∙ ap (λ n. n + 1) (sym (length-ends_of starts offsets))
      ∙ sym (length_push (ends_of starts offsets) last))
      (λ k h. let within : k < length offsets + 1 =
      omega (arith, h, length-ends_of starts more, length_push offsets offset) in
      ⊎_elim {C = get_or (ends_of starts more) k 0 ≡ get_or pushed k 0}
      (earlier k) (here k within) (cases_lt k (length offsets)))

-- ---- what is read
module _ (starts offsets : List ℕ) (bounded : All (λ e. e < 2 ^ 64) (ends_of starts offsets)) where
  pub end_fits : (index offset : ℕ) → slice_get offsets index ≡ Some offset
      → get_or starts (index / 16) 0 + offset < 2 ^ 64
  end_fits index offset at =
      let within = slice_get_within offsets index offset at in
      let there = bounded index 0 (omega (arith, within, length-ends_of starts offsets)) in
      let is = end_there starts offsets index 0 within in
      let same = get_or_from_slice_get offsets index offset 0 at in
      omega (arith, there, is, same)

  pub end_read : (index offset : ℕ) → slice_get offsets index ≡ Some offset
      → slice_get (ends_of starts offsets) index ≡ Some (get_or starts (index / 16) 0 + offset)
  end_read index offset at = end_got starts offsets index (slice_get_within offsets index offset at)
      ∙ ap (λ o. Some (get_or starts (index / 16) 0 + o))
      (get_or_from_slice_get offsets index offset 0 at)

-- ---- the end of a text is no earlier than the start of its block
pub from_upto : (starts offsets : List ℕ) (start from end : ℕ) → start ≤ end
    → All (λ e. e ≤ end) (ends_of starts offsets)
    → (from ≡ start) ⊎ ((0 < length offsets) × (get_or starts ((length offsets - 1) / 16) 0 ≡ from))
    → from ≤ end
from_upto starts offsets start from end h after kept = ⊎_elim {C = from ≤ end}
    (λ own. omega (arith, own, h))
    (λ other. let last : length offsets - 1 < length offsets = omega (arith, other.0) in
    let there = after (length offsets - 1) 0 (omega (arith, last, length-ends_of starts offsets)) in
    let is = end_there starts offsets (length offsets - 1) 0 last in
    let same = other.1 in
    omega (arith, there, is, same))
    kept

-- ---- one more end from the start of its block
module _ (old new offsets : List ℕ) (from end : ℕ)
    (same : (index : ℕ) → index < length offsets
    → get_or new (index / 16) 0 ≡ get_or old (index / 16) 0)
    (found : get_or new (length offsets / 16) 0 ≡ from) (upto : from ≤ end) where
  pub end_pushed : ends_of new (offsets ++ (end - from) ∷ []) ≡ ends_of old offsets ++ end ∷ []
  end_pushed =
      let sum : get_or new (length offsets / 16) 0 + (end - from) ≡ end =
      omega (arith, found, upto) in
      ends_more new offsets (end - from)
      ∙ (λ i. same_ends new old offsets same i ++ sum i ∷ [])
