-- The different ones of texts that are put one by one.
use Rattle.std.{proofs.Common.{◌≡◌, ◌≢◌, ℕ, ◌+◌, ◌-◌, ◌<◌, true, false, cond, List, [], ◌∷◌, ◌++◌, Some, length, get_or, take, refl, sym, ap, ◌∙◌, inl, inr, arith}, proofs.lemmas.Bool.cases_Bool, proofs.lemmas.List.{get_or-take, length_push, length-take-le, take_more}, proofs.lemmas.Option.{slice_get-get_or, slice_get_within, get_or_from_slice_get}, specs.Cmp.Lexicographic.bytes_decides, specs.List.{dedup_from, slice_get}}
use Rattle.star_flat.{specs.Private.Codes.{different, same_text}, proofs.Pushed.pushed_here}

abbrev from : List ℕ → List (List ℕ) → List (List ℕ)
from t ts = dedup_from same_text t ts

-- the last of a text and those after it
abbrev last : List ℕ → List (List ℕ) → List ℕ
last t [] = t
last t (u ∷ us) = last u us

same : (t u : List ℕ) → same_text t u ≡ true → t ≡ u
same t u h = (bytes_decides t u).0 h

itself : (t u : List ℕ) → t ≡ u → same_text t u ≡ true
itself t u h = (bytes_decides t u).1 h

apart : (t u : List ℕ) → (t ≢ u) → same_text t u ≡ false
apart t u differ = grind (arith, cases_Bool, same)

-- ---- one more text, behind some others
again_behind : (t : List ℕ) (ts : List (List ℕ)) (u : List ℕ) → u ≡ last t ts
    → from t (ts ++ u ∷ []) ≡ from t ts
again_behind t [] u is = ap (λ b. cond b (t ∷ []) (t ∷ u ∷ [])) (itself u t is)
again_behind t (v ∷ vs) u is = elim (cases_Bool (same_text v t)) [
  | inl equal ↦
      rw equal (again_behind t vs u (is ∙ ap (λ w. last w vs) (same v t equal)))
  | inr other ↦ rw other (ap (λ ws. t ∷ ws) (again_behind v vs u is))
]

new_behind : (t : List ℕ) (ts : List (List ℕ)) (u : List ℕ) → (u ≢ last t ts)
    → from t (ts ++ u ∷ []) ≡ from t ts ++ u ∷ []
new_behind t [] u differ = ap (λ b. cond b (t ∷ []) (t ∷ u ∷ [])) (apart u t differ)
new_behind t (v ∷ vs) u differ = elim (cases_Bool (same_text v t)) [
  | inl equal ↦
      rw equal (new_behind t vs u
      (λ is. differ (is ∙ ap (λ w. last w vs) (sym (same v t equal)))))
  | inr other ↦ rw other (ap (λ ws. t ∷ ws) (new_behind v vs u differ))
]

-- what is left ends with the last text
ends_with : (t : List ℕ) (ts : List (List ℕ))
    → (before : List (List ℕ)) × (from t ts ≡ before ++ last t ts ∷ [])
ends_with t [] = ([], refl)
ends_with t (v ∷ vs) = elim (cases_Bool (same_text v t)) [
  | inl equal ↦
      let rest = ends_with t vs in
      (rest.0, rw equal (rest.1 ∙ ap (λ w. rest.0 ++ last w vs ∷ []) (sym (same v t equal))))
  | inr other ↦
      let rest = ends_with v vs in (t ∷ rest.0, rw other (ap (λ ws. t ∷ ws) rest.1))
]

last_left : (t : List ℕ) (ts : List (List ℕ))
    → slice_get (from t ts) (length (from t ts) - 1) ≡ Some (last t ts)
last_left t ts =
    let ends = ends_with t ts in
    let count : length (from t ts) - 1 ≡ length ends.0 =
    omega (arith, ap length ends.1, length_push ends.0 (last t ts)) in
    ap (slice_get (from t ts)) count ∙ ap (λ ws. slice_get ws (length ends.0)) ends.1
    ∙ pushed_here ends.0 (last t ts)

last_put : (t : List ℕ) (ts : List (List ℕ)) (u : List ℕ) → last t (ts ++ u ∷ []) ≡ u
last_put t [] u = refl
last_put t (v ∷ vs) u = last_put v vs u

get_last : (t : List ℕ) (ts : List (List ℕ)) (d : List ℕ)
    → get_or (t ∷ ts) (length ts) d ≡ last t ts
get_last t [] d = refl
get_last t (v ∷ vs) d = get_last v vs d

-- the last of the different ones is the text that was put
ends_put : (xs : List (List ℕ)) (u : List ℕ)
    → slice_get (different (xs ++ u ∷ [])) (length (different (xs ++ u ∷ [])) - 1) ≡ Some u
ends_put [] u = last_left u []
ends_put (t ∷ ts) u = last_left t (ts ++ u ∷ []) ∙ ap Some (last_put t ts u)

put_again : (xs : List (List ℕ)) (u : List ℕ) (n : ℕ) → length xs ≡ n + 1 → get_or xs n [] ≡ u
    → different (xs ++ u ∷ []) ≡ different xs
put_again [] u n len is = absurd (omega (arith, len))
put_again (t ∷ ts) u n len is =
    let index : length ts ≡ n = omega (arith, len) in
    again_behind t ts u (sym is ∙ ap (λ k. get_or (t ∷ ts) k []) (sym index) ∙ get_last t ts [])

put_new : (xs : List (List ℕ)) (u : List ℕ) → ((n : ℕ) → length xs ≡ n + 1 → get_or xs n [] ≢ u)
    → different (xs ++ u ∷ []) ≡ different xs ++ u ∷ []
put_new [] u differ = refl
put_new (t ∷ ts) u differ = new_behind t ts u
    (λ is. differ (length ts) (omega arith) (get_last t ts [] ∙ sym is))

-- ---- the text at a position of a list, behind those before it
module _ (texts : List (List ℕ)) (index : ℕ) (text : List ℕ)
    (at : slice_get texts index ≡ Some text) where
  within : index < length texts
  within = slice_get_within texts index text at

  pub one_more : take (index + 1) texts ≡ take index texts ++ text ∷ []
  one_more = take_more texts index [] within
      ∙ ap (λ t. take index texts ++ t ∷ []) (get_or_from_slice_get texts index text [] at)

  count : length (take index texts) ≡ index
  count = let all = within in length-take-le index texts (omega (arith, all))

  -- the text at the position before
  before : (n : ℕ) → length (take index texts) ≡ n + 1
      → (n < length texts) × (index - 1 ≡ n) × (get_or (take index texts) n [] ≡ get_or texts n [])
  before n len = grind (arith, within, count, get_or-take)

  -- a text that the one before equals is not put
  pub different_again : 0 < index → slice_get texts (index - 1) ≡ slice_get texts index
      → different (take (index + 1) texts) ≡ different (take index texts)
  different_again some equal =
      let is = count in
      let len : length (take index texts) ≡ index - 1 + 1 = omega (arith, is, some) in
      let earlier = before (index - 1) len in
      let same_text : get_or (take index texts) (index - 1) [] ≡ text =
      earlier.2 ∙ get_or_from_slice_get texts (index - 1) text [] (equal ∙ at) in
      ap different one_more ∙ put_again (take index texts) text (index - 1) len same_text

  -- and another is put
  pub different_new : ((0 < index) × (slice_get texts (index - 1) ≡ slice_get texts index) → ⊥)
      → different (take (index + 1) texts) ≡ different (take index texts) ++ text ∷ []
  different_new new = ap different one_more
      ∙ put_new (take index texts) text (λ n len is.
      let earlier = before n len in
      let counted = count in
      new (
        omega (arith, len, counted),
        ap (slice_get texts) earlier.1 ∙ slice_get-get_or texts n [] earlier.0
            ∙ ap Some (sym earlier.2 ∙ is) ∙ sym at,
      ))

  -- the text stands last among the different ones
  pub stands_last : (put : List (List ℕ)) → put ≡ different (take (index + 1) texts)
      → slice_get put (length put - 1) ≡ slice_get texts index
  stands_last put is =
      let ends = is ∙ ap different one_more in
      (λ i. slice_get (ends i) (length (ends i) - 1)) ∙ ends_put (take index texts) text ∙ sym at
