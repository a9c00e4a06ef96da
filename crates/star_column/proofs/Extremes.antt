-- The numbers of a column lie between its bounds.
use Rattle.std.{proofs.Common.{◌≡◌, ◌≤ℤ◌, ℤ, List, false, map, arith}, proofs.Math.ListN.get_or-map, proofs.lemmas.List.length-map, proofs.lemmas.Cmp.int_ranked, proofs.lemmas.List.Elements.{All-map, All-weaker}, specs.List.{All, Contains}, specs.Ordering.{int_cmp, is_gt, is_lt}, specs.declared.cmp.Ordering.Ordering}
use Rattle.star_common.proofs.Members.{contains_mapped}
use Rattle.star_schema.{specs.Bounds.{least, greatest}, proofs.Extremes.{least_below, greatest_above, greatest_is, least_is}}
use Rattle.star_interval.specs.Range.{Range, Holds}

pub all_between : (r : Range) (zs : List ℤ) → r.low ≡ least zs → r.high ≡ greatest zs
    → All (Holds r) zs
all_between r zs low high k d h = record {
  from = rw low (least_below zs k d h);
  to = rw high (greatest_above zs k d h);
}

pub words_between : {S : Type 0} (number : S → ℤ) (r : Range) (words : List S)
    → r.low ≡ least (map number words) → r.high ≡ greatest (map number words)
    → All (λ w. Holds r (number w)) words
words_between number r words low high k d h =
    rw (get_or-map number words k d) at
    (all_between r (map number words) low high k (number d)
    (omega (arith, h, length-map words number)))

not_less : (a b : ℤ) → is_lt (int_cmp a b) ≡ false → b ≤ℤ a
not_less a b h = grind (arith, int_ranked)

not_greater : (a b : ℤ) → is_gt (int_cmp a b) ≡ false → a ≤ℤ b
not_greater a b h = grind (arith, int_ranked)

-- the least and the greatest of some words, which compare as their numbers
module _ {S : Type 0} (cmp : S → S → Ordering) (number : S → ℤ)
    (in_order : (a b : S) → cmp a b ≡ int_cmp (number a) (number b)) (words : List S) (w : S)
    (one : Contains words w) where
  pub least_word : All (λ other. is_lt (cmp other w) ≡ false) words
      → number w ≡ least (map number words)
  least_word below =
      least_is (map number words) (number w)
      (All-map (λ (n : ℤ). number w ≤ℤ n) number words
      (All-weaker (λ (other : S). is_lt (cmp other w) ≡ false)
      (λ (other : S). number w ≤ℤ number other)
      (λ other h. not_less (number other) (number w) (rw in_order at h)) words below))
      (contains_mapped number words w one)

  pub greatest_word : All (λ other. is_gt (cmp other w) ≡ false) words
      → number w ≡ greatest (map number words)
  greatest_word above =
      greatest_is (map number words) (number w)
      (All-map (λ (n : ℤ). n ≤ℤ number w) number words
      (All-weaker (λ (other : S). is_gt (cmp other w) ≡ false)
      (λ (other : S). number other ≤ℤ number w)
      (λ other h. not_greater (number other) (number w) (rw in_order at h)) words above))
      (contains_mapped number words w one)
