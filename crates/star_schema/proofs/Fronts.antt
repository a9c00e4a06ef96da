-- The front of a list that passes a test.
use Rattle.std.{proofs.Common.{◌≡◌, ℕ, suc, ◌+◌, ◌<◌, ◌≤◌, Bool, true, false, cond, List, [], ◌∷◌, length, get_or, count_by, refl, sym, ap, ◌∙◌, arith, nat_lt, ⊎_elim, true≢false}, specs.List.prefix_len, specs.List.Sorted.IsPartitionedBy, proofs.lemmas.Bool.cases_lt, proofs.lemmas.List.Sums.{sum_by-cons, prefix_len_passes, prefix_len_stops, prefix_len-le-length}}

-- where those that pass a test come first, they are the longest front that passes
module _ {X : Type 0} (p : X → Bool) where
  pub fails_from : (xs : List X) (d : X) → IsPartitionedBy p xs → (i j : ℕ) → i ≤ j → j < length xs
      → p (get_or xs i d) ≡ false → p (get_or xs j d) ≡ false
  fails_from xs d parts i j h l e = go (p (get_or xs j d)) refl
    where
      go : (b : Bool) → p (get_or xs j d) ≡ b → p (get_or xs j d) ≡ false
      go true passes = absurd (true≢false (sym (parts i j d h l passes) ∙ e))
      go false fails = fails

  IsPartitionedBy-tail : (x : X) (xs : List X) → IsPartitionedBy p (x ∷ xs) → IsPartitionedBy p xs
  IsPartitionedBy-tail x xs parts i j d h l e =
      parts (suc i) (suc j) d (omega arith) (omega arith) e

  count_by-partitioned : (xs : List X) → IsPartitionedBy p xs → count_by p xs ≡ prefix_len p xs
  count_by-partitioned [] parts = refl
  count_by-partitioned (x ∷ xs) parts =
      go (p x) refl (count_by-partitioned xs (IsPartitionedBy-tail x xs parts))
    where
      go : (b : Bool) → p x ≡ b → count_by p xs ≡ prefix_len p xs
          → count_by p (x ∷ xs) ≡ cond (p x) (1 + prefix_len p xs) 0
      go true passes ih = sum_by-cons (λ y. cond (p y) 1 0) x xs ∙ rw passes (ap (λ n. 1 + n) ih)
      go false fails ih =
          let none : prefix_len p xs ≡ 0 = ⊎_elim {C = prefix_len p xs ≡ 0}
          (λ some. absurd
          (true≢false (sym
          (parts 0 1 x (omega arith) (let few = prefix_len-le-length p xs in omega (arith, some))
          (prefix_len_passes p xs 0 x some)) ∙ fails)))
          (λ zero. omega (arith, zero)) (cases_lt 0 (prefix_len p xs)) in
          sum_by-cons (λ y. cond (p y) 1 0) x xs ∙ rw fails (omega (arith, ih, none))

  -- a position is in that front where the element there passes
  pub nat_lt-count_by : (xs : List X) (n : ℕ) (d : X) → IsPartitionedBy p xs → n < length xs
      → nat_lt n (count_by p xs) ≡ p (get_or xs n d)
  nat_lt-count_by xs n d parts h = rw (count_by-partitioned xs parts) (go (p (get_or xs n d)) refl)
    where
      go : (b : Bool) → p (get_or xs n d) ≡ b → nat_lt n (prefix_len p xs) ≡ p (get_or xs n d)
      go true passes =
          let within : n < prefix_len p xs = ⊎_elim {C = n < prefix_len p xs} (λ below. below)
          (λ above. let short : prefix_len p xs < length xs = omega (arith, above) in
          absurd (true≢false
          (sym (parts (prefix_len p xs) n d above h passes) ∙ prefix_len_stops p xs d short)))
          (cases_lt n (prefix_len p xs)) in
          rw passes (grind arith)
      go false fails =
          let past : prefix_len p xs ≤ n =
          ⊎_elim {C = prefix_len p xs ≤ n}
          (λ below. absurd (true≢false (sym (prefix_len_passes p xs n d below) ∙ fails)))
          (λ above. above) (cases_lt n (prefix_len p xs)) in
          rw fails (grind arith)
