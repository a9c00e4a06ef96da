-- What is known of a key, a column or a table, after one more entry.
use Rattle.std.{proofs.Common.{◌≡◌, ◌⊎◌, ℕ, ◌+◌, ◌≤◌, ◌<◌, Bool, true, false, List, [], ◌∷◌, ◌++◌, Option, Some, None, refl, sym, ◌∙◌, arith}, specs.Prelude.{nat_eq, if◌then◌else◌}, specs.Option.option_or, proofs.lemmas.Bool.{cond-true, cond-false, eq-eqb, ne_eqb}, proofs.lemmas.Option.same_Some, proofs.lemmas.Grind.common_steps}
use Rattle.star_program.specs.Values.{with_entry}
use Rattle.star_compile_laws.specs.Compiled.{register_in}

abbrev pub one_if : Bool → ℕ
one_if b = if b then 1 else 0

-- ---- registers

-- a new entry is found, and hides none of a register below it
pub entry_same : {V : Type 0} (entries : ℕ → Option V) (r : ℕ) (v : V)
    → with_entry entries r v r ≡ Some v
entry_same entries r v = cond-true (nat_eq r r) (Some v) (entries r) (eq-eqb r r refl)

pub entry_other : {V : Type 0} (entries : ℕ → Option V) (r q : ℕ) (v : V) → q < r
    → with_entry entries r v q ≡ entries q
entry_other entries r q v h =
    cond-false (nat_eq q r) (Some v) (entries q) (ne_eqb q r (omega arith))

-- ---- keys

-- what it was before, or else the new one
pub entry_after : {K : Type 0} (same : K → K → Bool) (es : List (K × ℕ)) (k : K) (n : ℕ) (q : K)
    → register_in same (es ++ (k, n) ∷ []) q
    ≡ option_or (register_in same es q) (if same q k then Some n else None)
entry_after same [] k n q = refl
entry_after same (x ∷ es) k n q = grind (arith, common_steps, entry_after same es k n q)

-- a key that has a register had it before, or is the one that got the last
old_or_new : (o : Option ℕ) (b : Bool) (n r : ℕ)
    → option_or o (if b then Some n else None) ≡ Some r → (o ≡ Some r) ⊎ ((b ≡ true) × (n ≡ r))
old_or_new it b n r e = grind (arith, common_steps, same_Some)

pub entry_split : {K : Type 0} (same : K → K → Bool) (es : List (K × ℕ)) (k : K) (n : ℕ) (q : K)
    (r : ℕ) → register_in same (es ++ (k, n) ∷ []) q ≡ Some r
    → (register_in same es q ≡ Some r) ⊎ ((same q k ≡ true) × (n ≡ r))
entry_split same es k n q r e =
    old_or_new (register_in same es q) (same q k) n r (sym (entry_after same es k n q) ∙ e)

-- what is said of each key's register is said of the new key's register too
pub entry_added : {K : Type 0} (same : K → K → Bool) (is : (q k : K) → same q k ≡ true → q ≡ k)
    (es : List (K × ℕ)) (k : K) (n : ℕ) (Says : K → ℕ → Type 0) → Says k n
    → ((q : K) (r : ℕ) → register_in same es q ≡ Some r → Says q r) → (q : K) (r : ℕ)
    → register_in same (es ++ (k, n) ∷ []) q ≡ Some r → Says q r
entry_added same is es k n it new old q r e = grind (arith, common_steps, entry_split)

-- ---- how often something may still be looked for

unfoldable pub missing : Option ℕ → ℕ
missing None = 1
missing (Some r) = 0

falls : (b : Bool) (n : ℕ) (o : Option ℕ) → (b ≡ true → o ≡ None)
    → one_if b + missing (option_or o (if b then Some n else None)) ≤ missing o
unfolding missing
falls true n None h = omega arith
falls true n (Some r) h = let e = h refl in absurd (cc)
falls false n None h = omega arith
falls false n (Some r) h = omega arith

-- once less after a first time, and no more often otherwise
pub entry_falls : {K : Type 0} (same : K → K → Bool) (is : (q k : K) → same q k ≡ true → q ≡ k)
    (es : List (K × ℕ)) (k : K) (n : ℕ) → register_in same es k ≡ None → (q : K)
    → one_if (same q k) + missing (register_in same (es ++ (k, n) ∷ []) q)
    ≤ missing (register_in same es q)
entry_falls same is es k n none q = grind (arith, common_steps, entry_after, falls)
