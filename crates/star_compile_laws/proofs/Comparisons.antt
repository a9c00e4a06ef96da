-- Comparisons of numbers and of positions say what comparisons of values do.
use Rattle.std.{proofs.Common.{◌≡◌, ℕ, Bool, List, refl, sym, ap, ◌∙◌, arith, cond}, proofs.lemmas.Int.ints, proofs.lemmas.Grind.common_steps, specs.Prelude.{ℤ, pos, ◌+ℤ◌, ◌&&◌, not, nat_lt}, specs.Ordering.{int_cmp, nat_cmp, is_eq, is_ne, is_lt, is_le, is_gt, is_ge, ordering_reverse}, specs.declared.cmp.Ordering.Ordering, specs.declared.cmp.Ordering.TheVariants.{Less, Equal, Greater}, specs.Cmp.Lexicographic.{slice_cmp, nat_list_cmp_total}, specs.Cmp.int_cmp_total}

pub lt_by : (a b : Bool) → is_lt (cond a Less (cond b Greater Equal)) ≡ a
lt_by it b = grind (arith, common_steps)

-- two tests of an order agree where they do at each of the three
at_each : (p q : Ordering → Bool) → p Less ≡ q Less → p Equal ≡ q Equal → p Greater ≡ q Greater
    → (o : Ordering) → p o ≡ q o
at_each p q less equal greater it = grind (arith, common_steps)

-- the other way round
pub lt_turned : (o : Ordering) → is_lt (ordering_reverse o) ≡ is_gt o
lt_turned = at_each _ _ refl refl refl

pub le_turned : (o : Ordering) → is_le (ordering_reverse o) ≡ is_ge o
le_turned = at_each _ _ refl refl refl

pub le_not_lt : (o : Ordering) → is_le (ordering_reverse o) ≡ not (is_lt o)
le_not_lt = at_each _ _ refl refl refl

pub gt_not_le : (o : Ordering) → not (is_le o) ≡ is_gt o
gt_not_le = at_each _ _ refl refl refl

pub ge_not_lt : (o : Ordering) → not (is_lt o) ≡ is_ge o
ge_not_lt = at_each _ _ refl refl refl

pub eq_both : (o : Ordering) → not (is_lt o) && is_le o ≡ is_eq o
eq_both = at_each _ _ refl refl refl

pub ne_is : (o : Ordering) → not (is_eq o) ≡ is_ne o
ne_is = at_each _ _ refl refl refl

pub number_gt : (x a : ℤ) → is_lt (int_cmp a x) ≡ is_gt (int_cmp x a)
number_gt x a = ap is_lt (int_cmp_total.antisymm a x) ∙ lt_turned (int_cmp x a)

pub number_ge : (x a : ℤ) → is_le (int_cmp a x) ≡ is_ge (int_cmp x a)
number_ge x a = ap is_le (int_cmp_total.antisymm a x) ∙ le_turned (int_cmp x a)

-- below one more is at most
pub number_upto : (x b : ℤ) → is_lt (int_cmp x (b +ℤ pos 1)) ≡ is_le (int_cmp x b)
number_upto x b = grind (arith, common_steps, ints, lt_by, le_not_lt)

-- ---- positions
pub place_lt : (m n : ℕ) → is_lt (int_cmp (pos m) (pos n)) ≡ nat_lt m n
place_lt m n = lt_by (nat_lt m n) (nat_lt n m)

pub place_le : (m n : ℕ) → is_le (int_cmp (pos n) (pos m)) ≡ not (nat_lt m n)
place_le m n = grind (arith, common_steps, le_not_lt, place_lt)

-- ---- codes

nat_lt_by : (a b : Bool) → is_lt (cond a Less (cond b Equal Greater)) ≡ a
nat_lt_by it b = grind (arith, common_steps)

eq_neither : (o : Ordering) → is_eq o ≡ not (is_lt o) && not (is_lt (ordering_reverse o))
eq_neither = at_each _ _ refl refl refl

pub nat_eq_by : (m n : ℕ) → is_eq (nat_cmp m n) ≡ not (nat_lt m n) && not (nat_lt n m)
nat_eq_by m n = grind (arith, common_steps, eq_neither, nat_lt_by)

pub text_eq_by : (v u : List ℕ) → is_eq (slice_cmp nat_cmp v u) ≡ not
    (is_lt (slice_cmp nat_cmp v u)) && not (is_lt (slice_cmp nat_cmp u v))
text_eq_by v u =
    eq_neither (slice_cmp nat_cmp v u) ∙ ap (λ o. not (is_lt (slice_cmp nat_cmp v u)) && not
    (is_lt o)) (sym (nat_list_cmp_total.antisymm u v))

-- codes are equal where their texts are
pub code_eq : (m n : ℕ) (v u : List ℕ) → nat_lt m n ≡ is_lt (slice_cmp nat_cmp v u)
    → nat_lt n m ≡ is_lt (slice_cmp nat_cmp u v)
    → is_eq (slice_cmp nat_cmp v u) ≡ is_eq (nat_cmp m n)
code_eq m n v u p q = text_eq_by v u ∙ sym (nat_eq_by m n ∙ λ i. not (p i) && not (q i))
