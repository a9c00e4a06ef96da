-- The search by halves for the end of the front of a list that passes a test.
use Rattle.std.{proofs.Common.{◌≡◌, ℕ, ◌+◌, ◌<◌, ◌≤◌, Bool, true, false, List, Some, length, get_or, count_by, sym, ap, ◌∙◌, arith, nat_lt, ⊎_elim, true≢false}, proofs.lemmas.Bool.cases_lt, proofs.lemmas.List.Sums.count_by-le-length, proofs.lemmas.Option.get_or_from_slice_get, specs.List.slice_get, specs.List.Sorted.IsPartitionedBy}
use Rattle.star_schema.proofs.Fronts.{fails_from, nat_lt-count_by}

-- the elements before `low` pass, and those from `high` on fail
pub record Found {X : Type 0} (p : X → Bool) (xs : List X) (low high : ℕ) : Type 0 where
  pub order : low ≤ high
  pub within : high ≤ length xs
  pub passes : (k : ℕ) (d : X) → k < low → p (get_or xs k d) ≡ true
  pub fails : (k : ℕ) (d : X) → high ≤ k → k < length xs → p (get_or xs k d) ≡ false

module _ {X : Type 0} (p : X → Bool) (xs : List X) where
  -- the test at a position, of the element that was read there
  pub test_at : (i : ℕ) (x : X) (b : Bool) → slice_get xs i ≡ Some x → p x ≡ b
      → (d : X) → p (get_or xs i d) ≡ b
  test_at i x b read e d = ap p (get_or_from_slice_get xs i x d read) ∙ e

  pub found_above : (low high mid : ℕ) → IsPartitionedBy p xs → Found p xs low high → mid < high
      → ((d : X) → p (get_or xs mid d) ≡ true) → Found p xs (mid + 1) high
  found_above low high mid parts f h e = record {
    order = omega arith;
    within = f.within;
    passes = λ k d b. parts k mid d (omega arith) (omega (arith, f.within)) (e d);
    fails = f.fails;
  }

  pub found_below : (low high mid : ℕ) → IsPartitionedBy p xs → Found p xs low high → low ≤ mid
      → mid < high → ((d : X) → p (get_or xs mid d) ≡ false) → Found p xs low mid
  found_below low high mid parts f l h e = record {
    order = l;
    within = omega (arith, f.within);
    passes = f.passes;
    fails = λ k d from within. fails_from p xs d parts mid k from within (e d);
  }

  pub found_end : (low high : ℕ) (d : X) → IsPartitionedBy p xs → Found p xs low high → high ≤ low
      → low ≡ count_by p xs
  found_end low high d parts f h =
      let count = count_by p xs in
      let few = count_by-le-length p xs in
      let upto : count ≤ low = ⊎_elim {C = count ≤ low}
      (λ more. let within : low < length xs = omega (arith, few, more) in
      let passes : true ≡ p (get_or xs low d) =
      sym (the_test low count more) ∙ nat_lt-count_by p xs low d parts within in
      absurd (true≢false (passes ∙ f.fails low d h within)))
      (λ upto. upto) (cases_lt low count) in
      let from : low ≤ count = ⊎_elim {C = low ≤ count}
      (λ fewer. let within : count < length xs = omega (arith, fewer, f.order, f.within) in
      let fails : nat_lt count count ≡ p (get_or xs count d) =
      nat_lt-count_by p xs count d parts within in
      absurd (true≢false (sym (f.passes count d fewer) ∙ sym fails ∙ not_below count)))
      (λ from. from) (cases_lt count low) in
      omega (arith, upto, from)
    where
      the_test : (m n : ℕ) → m < n → nat_lt m n ≡ true
      the_test m n h = grind arith

      not_below : (n : ℕ) → nat_lt n n ≡ false
      not_below n = grind arith
