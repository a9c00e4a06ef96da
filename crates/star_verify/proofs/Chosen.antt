-- The elements that a test picks, one after another.
use Rattle.std.proofs.Common.{◌≡◌, ◌<◌, ◌+◌, ℕ, Bool, true, false, List, ◌∷◌, length, map, drop, get_or, cond, ap, sym, ◌∙◌, add-one}
use Rattle.star_verify.proofs.Common.{drop-cons, filter}

module _ {X Y : Type 0} (p : X → Bool) (f : X → Y) (xs : List X) (i : ℕ) (d : X) where
  next : i < length xs → map f (filter p (drop i xs))
      ≡ map f (cond (p (get_or xs i d)) (get_or xs i d ∷ filter p (drop (i + 1) xs))
      (filter p (drop (i + 1) xs)))
  next lt = ap (λ ys. map f (filter p ys)) (drop-cons xs i d lt)
      ∙ ap (λ n. map f (filter p (get_or xs i d ∷ drop n xs))) (sym (add-one i))

  pub picked : i < length xs → p (get_or xs i d) ≡ true
      → map f (filter p (drop i xs)) ≡ f (get_or xs i d) ∷ map f (filter p (drop (i + 1) xs))
  picked lt e = next lt ∙ ap
      (λ b. map f (cond b (get_or xs i d ∷ filter p (drop (i + 1) xs))
      (filter p (drop (i + 1) xs)))) e

  pub left_out : i < length xs → p (get_or xs i d) ≡ false
      → map f (filter p (drop i xs)) ≡ map f (filter p (drop (i + 1) xs))
  left_out lt e = next lt ∙ ap
      (λ b. map f (cond b (get_or xs i d ∷ filter p (drop (i + 1) xs))
      (filter p (drop (i + 1) xs)))) e
