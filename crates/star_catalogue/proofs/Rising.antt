-- Pairs of numbers that rise.
use Rattle.std.{proofs.Common.{◌≡◌, ◌≢◌, ◌+◌, ◌-◌, ◌<◌, ◌≤◌, ◌⊎◌, ℕ, ℤ, List, AllPairs, Some, get_or, length, sym, ap, ◌∙◌, inl, inr, arith}, proofs.lemmas.Cmp.{int_cmp_total, on_total, then_total}, proofs.lemmas.Map.Keys.{Less-from_sorted, sorted_from_all_adjacent}, proofs.lemmas.Option.slice_get-get_or, specs.Cmp.IsTotalOrder, specs.List.slice_get, specs.Ordering.ordering_reverse, specs.declared.cmp.Ordering.TheVariants.Less}
use Rattle.star_catalogue.specs.Private.Keys.{pair_cmp}

-- each pair before a position is greater than the pair before it
pub record RiseBefore (index : ℕ) (pairs : List (ℤ × ℤ)) : Type 0 where
  pub rise : (k : ℕ) (a b : ℤ × ℤ) → k + 1 < index → slice_get pairs k ≡ Some a
      → slice_get pairs (k + 1) ≡ Some b → pair_cmp a b ≡ Less

pair_total : IsTotalOrder pair_cmp
pair_total =
    then_total (on_total (λ (p : ℤ × ℤ). p.0) int_cmp_total)
    (on_total (λ (p : ℤ × ℤ). p.1) int_cmp_total)

not_below_itself : (a : ℤ × ℤ) → pair_cmp a a ≡ Less → ⊥
not_below_itself a e = let turned : Less ≡ ordering_reverse Less =
    sym e ∙ pair_total.antisymm a a ∙ ap ordering_reverse e in cc turned

below_or_at : (k index : ℕ) → k + 1 < index + 1 → (k + 1 < index) ⊎ (k + 1 ≡ index)
below_or_at k index h = search arith

pub rise_more : (index : ℕ) (pairs : List (ℤ × ℤ)) (before here : ℤ × ℤ) → RiseBefore index pairs
    → (1 ≤ index → slice_get pairs (index - 1) ≡ Some before) → slice_get pairs index ≡ Some here
    → pair_cmp before here ≡ Less → RiseBefore (index + 1) pairs
rise_more index pairs before here h at_before at_here less =
    record {
      rise = λ k a b below at_a at_b. elim (below_or_at k index below) [
        | inl earlier ↦ h.rise k a b earlier at_a at_b
        | inr last ↦
            let same_before : index - 1 ≡ k = omega arith in
            let is_a : before ≡ a = cc (rw same_before at (at_before (omega arith))) in
            let is_b : here ≡ b = cc (rw (← last) at at_here) in
            rw (← is_a, ← is_b) less
      ];
    }

pub rising_apart : (index : ℕ) (pairs : List (ℤ × ℤ)) → RiseBefore index pairs
    → length pairs ≤ index → AllPairs (λ a b. a ≢ b) pairs
rising_apart index pairs h all = λ i j d before within e.
    let sorted =
    sorted_from_all_adjacent pair_total pairs d
    (λ k next. h.rise k (get_or pairs k d) (get_or pairs (k + 1) d) (omega arith)
    (slice_get-get_or pairs k d (omega arith)) (slice_get-get_or pairs (k + 1) d next)) in
    let less = Less-from_sorted pair_cmp pairs i j d sorted before within in
    not_below_itself (get_or pairs i d) (ap (pair_cmp (get_or pairs i d)) e ∙ less)
