-- Lists whose elements all differ.
use Rattle.std.{proofs.Common.{◌≡◌, ◌≢◌, ℤ, suc, List, [], ◌∷◌, AllPairs, map, ap, arith, get_or}, proofs.lemmas.Bool.{and_from, and_parts}, proofs.lemmas.Bool.Decides.Decides-int_eq, proofs.lemmas.List.Elements.All-map, proofs.lemmas.List.Kept.AllPairs-cons, proofs.lemmas.Map.Made.AllPairs-from_IsDistinct, specs.Bool.Decides, specs.List.IsDistinct, specs.Ordering.int_eq}
use Rattle.star_catalogue.specs.Private.Keys.{same_pair}

-- a function that keeps elements apart
pub apart-map : {X Y : Type 0} (f : X → Y) → ((a b : X) → f a ≡ f b → a ≡ b)
    → (xs : List X) → AllPairs (λ a b. a ≢ b) xs → AllPairs (λ a b. a ≢ b) (map f xs)
apart-map f keeps [] h = λ i j d before within. absurd (omega arith)
apart-map f keeps (x ∷ xs) h =
    AllPairs-cons (λ a b. a ≢ b) (f x) (map f xs)
    (All-map (λ y. f x ≢ y) f xs
    (λ k d within e. h 0 (suc k) d (omega arith) (omega arith) (keeps x (get_or xs k d) e)))
    (apart-map f keeps xs (λ i j d before within. h (suc i) (suc j) d (omega arith) (omega arith)))

pub numbers_apart : (xs : List ℤ) → IsDistinct int_eq xs → AllPairs (λ a b. a ≢ b) xs
numbers_apart xs h = AllPairs-from_IsDistinct Decides-int_eq xs h

same_pair_decides : (a b : ℤ × ℤ) → Decides (same_pair a b) (a ≡ b)
same_pair_decides a b = (
  λ e. let parts =
      and_parts (int_eq a.0 b.0)
      (int_eq a.1 b.1) e in λ i.
      ((Decides-int_eq a.0 b.0).0 parts.0 i, (Decides-int_eq a.1 b.1).0 parts.1 i),
  λ e. and_from (int_eq a.0 b.0) (int_eq a.1 b.1)
      ((Decides-int_eq a.0 b.0).1 (ap (λ (p : ℤ × ℤ). p.0) e))
      ((Decides-int_eq a.1 b.1).1 (ap (λ (p : ℤ × ℤ). p.1) e)),
)

pub pairs_apart : (xs : List (ℤ × ℤ)) → IsDistinct same_pair xs → AllPairs (λ a b. a ≢ b) xs
pairs_apart xs h = AllPairs-from_IsDistinct same_pair_decides xs h
