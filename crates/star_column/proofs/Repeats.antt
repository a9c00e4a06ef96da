-- Indexes that are kept as numbers in words, and what stands there.
use Rattle.std.{proofs.Common.{◌≡◌, ℕ, ℤ, ◌<◌, List, [], ◌∷◌, length, get_or, map, sym, ap, ◌∙◌, subst}, proofs.lemmas.List.Elements.{All-cons, All-head, All-nil, All-tail}, proofs.lemmas.Simd.map-map, specs.Int.RustNames.unsigned_abs, specs.List.All}
use Rattle.star_flat.specs.Repeated.{indexes_in}

module _ {W : Type 0} (number : W → ℤ) (words : List W) (rows : List ℤ) (ns : List ℕ)
    (read : map number words ≡ rows) where
  pub words_within : All (λ p. p < length ns) (indexes_in rows)
      → All (λ w. unsigned_abs (number w) < length ns) words
  words_within within =
      from_indexes words
      (subst (λ zs. All (λ p. p < length ns) (indexes_in zs)) (sym read) within)
    where
      from_indexes : (ws : List W) → All (λ p. p < length ns) (indexes_in (map number ws))
          → All (λ w. unsigned_abs (number w) < length ns) ws
      from_indexes [] all = All-nil (λ w. unsigned_abs (number w) < length ns)
      from_indexes (w ∷ ws) all =
          let p = unsigned_abs (number w) in
          let ps = indexes_in (map number ws) in
          All-cons (λ v. unsigned_abs (number v) < length ns) w ws
          (All-head (λ q. q < length ns) p ps all)
          (from_indexes ws (All-tail (λ q. q < length ns) p ps all))

  pub words_read : (found : List ℕ) → found ≡ map (λ w. get_or ns (unsigned_abs (number w)) 0) words
      → found ≡ map (λ p. get_or ns p 0) (indexes_in rows)
  words_read found is =
      is ∙ sym (map-map (λ z. get_or ns (unsigned_abs z) 0) number words)
      ∙ ap (map (λ z. get_or ns (unsigned_abs z) 0)) read
      ∙ sym (map-map (λ p. get_or ns p 0) unsigned_abs rows)
