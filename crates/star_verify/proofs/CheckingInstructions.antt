-- What an instruction is answered, and what a put leaves.
use Rattle.std.proofs.Common.{◌≡◌, ◌+◌, ◌*◌, ◌<◌, ◌≤◌, ◌⊎◌, ℕ, Bool, List, [], ◌∷◌, ◌++◌, length, Option, Some, None, ⊎_elim, arith, ap, sym, subst, ◌∙◌}
use Rattle.star_verify.proofs.Common.{Aggregate, All, All-get_or, Context, HasKeyShares, HasShares, IsSmall, IsTally, IsTallyAt, Parts, Plain, Put, Reason, Share, Tally, World, after_op, at_position, eqb_tells, get_or-map, group_at, if◌then◌else◌, key_share, known_share, ltb-false, ltb-true, map, numbers_known, option_or, put_share, slice_index_or}
use Rattle.star_safety.specs.Ranges as ranges

-- ---- the first of two reasons

pub first_found : (at : ℕ) (found rest : Option Reason) (r : Reason) → found ≡ Some r
    → at_position at (option_or found rest) ≡ Some (at, r)
first_found at found rest r e = ap (λ o. at_position at (option_or o rest)) e

pub second_found : (at : ℕ) (found rest : Option Reason) (r : Reason) → found ≡ None
    → rest ≡ Some r → at_position at (option_or found rest) ≡ Some (at, r)
second_found at found rest r e f = λ i. at_position at (option_or (e i) (f i))

-- ---- the tallies after a put

apart : (h g a n : ℕ) → ((h ≡ g) → ⊥) → a < 8 → n ≤ 8
    → (8 * h + a < 8 * g) ⊎ (8 * g + n ≤ 8 * h + a)
apart h g a n other small few = grind (arith, ltb-true, ltb-false)

module _ (w : World) (parts : Parts) (x : Context) (old new : List Tally) (g met : ℕ)
    (ks vs values : List ℕ) (gs : List Aggregate) (table : ranges.AllKnown) where
  pub put_shares : All IsSmall parts.groups → gs ≡ (group_at parts g).aggregates → values ≡ vs
      → table ≡ x.known → x.met ≡ met → g < length parts.groups → HasShares parts old x
      → ((a : ℕ) (ss : List Share) → a < length gs → IsTallyAt old (8 * g + a) ss
      → IsTallyAt new (8 * g + a)
      (known_share met (slice_index_or (numbers_known gs table values) a None) ∷ ss))
      → ((p : ℕ) (t : Tally) → (p < 8 * g) ⊎ (8 * g + length gs ≤ p)
      → slice_index_or new p t ≡ slice_index_or old p t)
      → HasShares parts new (after_op w parts x (Put g ks vs))
  put_shares small is same known often there had contribute leave h lt a below t = ⊎_elim
      (λ p. let share = put_share parts x g vs a in
      let in_g : a < length (group_at parts g).aggregates =
      subst (λ n. a < length (group_at parts n).aggregates) p.1 below in
      let one : known_share met (slice_index_or (numbers_known gs table values) a None) ≡ share =
      λ i. known_share (sym often i)
      (slice_index_or (numbers_known (is i) (known i) (same i)) a None) in
      let now : IsTallyAt new (8 * g + a) (share ∷ x.so_far g a) =
      subst (λ s. IsTallyAt new (8 * g + a) (s ∷ x.so_far g a)) one
      (contribute a (x.so_far g a) (subst (λ l. a < length l) (sym is) in_g)
      (had g there a in_g)) in
      subst (λ (b : Bool). IsTally (slice_index_or new (8 * h + a) t)
      ((if b then share ∷ [] else []) ++ x.so_far h a)) (sym p.0)
      (subst (λ n. IsTally (slice_index_or new (8 * n + a) t) (share ∷ x.so_far n a)) (sym p.1)
      (now t)))
      (λ p. let share = put_share parts x g vs a in
      let few = (All-get_or IsSmall parts.groups h
      (record { shape = Plain; keys = []; aggregates = [] }) lt small).aggregates in
      let many = (All-get_or IsSmall parts.groups g
      (record { shape = Plain; keys = []; aggregates = [] }) there small).aggregates in
      let kept = leave (8 * h + a) t
      (apart h g a (length gs) p.1 (omega (arith, below, few))
      (omega (arith, many, ap length is))) in
      subst (λ (b : Bool). IsTally (slice_index_or new (8 * h + a) t)
      ((if b then share ∷ [] else []) ++ x.so_far h a)) (sym p.0)
      (subst (λ tally. IsTally tally (x.so_far h a)) (sym kept) (had h lt a below t)))
      (eqb_tells h g)

-- what a put gives the keys of its group
pub put_key_shares : (w : World) (parts : Parts) (x : Context) (old new : List Tally) (g met : ℕ)
    (ks vs keys : List ℕ) (table : ranges.AllKnown) → All IsSmall parts.groups → keys ≡ ks
    → table ≡ x.known → x.met ≡ met → g < length parts.groups
    → length ks ≡ length (group_at parts g).keys → HasKeyShares parts old x
    → ((k : ℕ) (ss : List Share) → k < length keys → IsTallyAt old (8 * g + k) ss
    → IsTallyAt new (8 * g + k) (known_share met (slice_index_or (map table keys) k None) ∷ ss))
    → ((p : ℕ) (t : Tally) → (p < 8 * g) ⊎ (8 * g + length keys ≤ p)
    → slice_index_or new p t ≡ slice_index_or old p t)
    → HasKeyShares parts new (after_op w parts x (Put g ks vs))
put_key_shares w parts x old new g met ks vs keys table small same known often there counted had
    contribute leave h lt k below t = ⊎_elim
    (λ p. let share = key_share x ks k in
    let in_g : k < length ks =
    omega (arith, counted, ap (λ n. length (group_at parts n).keys) p.1, below) in
    let in_keys : k < length keys = omega (arith, in_g, ap length same) in
    let one : known_share met (slice_index_or (map table keys) k None) ≡ share =
    ap (known_share met) (get_or-map table keys k 0 None in_keys)
    ∙ (λ i. known_share (sym often i) (known i (slice_index_or (same i) k 0))) in
    let now : IsTallyAt new (8 * g + k) (share ∷ x.keys_so_far g k) =
    subst (λ s. IsTallyAt new (8 * g + k) (s ∷ x.keys_so_far g k)) one
    (contribute k (x.keys_so_far g k) in_keys (had g there k (omega (arith, counted, in_g)))) in
    subst (λ (b : Bool). IsTally (slice_index_or new (8 * h + k) t)
    ((if b then share ∷ [] else []) ++ x.keys_so_far h k)) (sym p.0)
    (subst (λ n. IsTally (slice_index_or new (8 * n + k) t) (share ∷ x.keys_so_far n k)) (sym p.1)
    (now t)))
    (λ p. let share = key_share x ks k in
    let few = (All-get_or IsSmall parts.groups h
    (record { shape = Plain; keys = []; aggregates = [] }) lt small).keys in
    let many = (All-get_or IsSmall parts.groups g
    (record { shape = Plain; keys = []; aggregates = [] }) there small).keys in
    let kept = leave (8 * h + k) t
    (apart h g k (length keys) p.1 (omega (arith, below, few))
    (omega (arith, many, counted, ap length same))) in
    subst (λ (b : Bool). IsTally (slice_index_or new (8 * h + k) t)
    ((if b then share ∷ [] else []) ++ x.keys_so_far h k)) (sym p.0)
    (subst (λ tally. IsTally tally (x.keys_so_far h k)) (sym kept) (had h lt k below t)))
    (eqb_tells h g)
