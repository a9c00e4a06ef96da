-- WHERE, on a query's own tree, says of a row what the joins and the other conjuncts of the plan
-- say.
use Rattle.std.proofs.Common.{◌≡◌, ◌∙◌, Bool, true, false, ◌&&◌, ◌||◌, not as negated, inl, inr, List, [], ◌∷◌, ◌++◌, Option, Some, None, option_map, refl, sym, ap, arith}
use Rattle.std.{specs.List.AllByRecursion, specs.Prelude.pos, specs.Option.{option_map_or, option_to_list}, specs.Ordering.{is_eq, ordering_reverse}, specs.declared.cmp.Ordering.Ordering, specs.declared.cmp.Ordering.TheVariants.{Less, Equal, Greater}, proofs.lemmas.Grind.flat_map-append, proofs.lemmas.List.Folds.list_all-append}
use Rattle.star_schema.specs.{declared.column.ColumnId.ColumnId, Order.value_cmp, Tables.Value, Tables.Number}
use Rattle.star_query.specs.Tree as tree
use Rattle.star_query.specs.Tree.{Comparison, Condition, Name, Test, or, and, not, test, compare, between}
use Rattle.star_report.proofs.OneOrder.{value_turned}
use Rattle.star_plan.{specs.declared.tree.Join.Join, specs.Joins.{Pair, is_foreign, join_by, join_of, joins_of, pairs_of, where_pairs}, specs.Names.column_at, specs.Meaning.{Joined, all_hold, holds, joined_value}, specs.Resolved.{conjuncts_of, resolved_condition, resolved_test, where_conjuncts}, proofs.Known.{each_left, each_right}, proofs.Options.{both_gave, first_or_second, mapped_gave}, proofs.Related.condition_related}
use Rattle.star_plan.specs.Meaning as plan
use Rattle.star_query_meaning.{specs.Rows.{is_true, test_is_true, value_named, where_is_true}, proofs.Choices.{all_joined, is_joined_by}}

-- ---- names

abbrev value_if : Option ColumnId → Joined → Value
value_if o row = option_map_or (λ c. joined_value c row) o (Number (pos 0))

pub named : (n : Name) (c : ColumnId) (row : Joined) → column_at n ≡ Some c
    → value_named n row ≡ joined_value c row
named n c row e = ap (λ o. value_if o row) e

-- ---- conditions in which no two columns are compared

test_same : (row : Joined) (t : Test) (c : Comparison ColumnId Value) → resolved_test t ≡ Some c
    → test_is_true row t ≡ plan.comparison_holds (λ d. joined_value d row) (λ v. v) c
test_same row it c e = grind (arith, mapped_gave, named)

condition_same : (q : Condition Test) (x : plan.RowCondition) (row : Joined)
    → resolved_condition q ≡ Some x → is_true q row ≡ holds x row
condition_same q x row = condition_related (λ a b. a ≡ b) (test_is_true row)
    (plan.comparison_holds (λ d. joined_value d row) (λ v. v)) negated ◌||◌ ◌&&◌ (test_same row)
    (λ a b h. ap negated h) (λ a b c d l r. cc) (λ a b c d l r. cc) q x

no_pairs : (q : Condition Test) (x : plan.RowCondition) (b : Bool) → resolved_condition q ≡ Some x
    → pairs_of b q ≡ []
no_pairs (tree.or a d) x b e =
    let g = both_gave or (resolved_condition a) (resolved_condition d) x e in
    λ i. no_pairs a g.left false g.first i ++ no_pairs d g.right false g.second i
no_pairs (tree.and a d) x b e =
    let g = both_gave and (resolved_condition a) (resolved_condition d) x e in
    λ i. no_pairs a g.left b g.first i ++ no_pairs d g.right b g.second i
no_pairs (tree.not a) x b e = let g = mapped_gave not (resolved_condition a) x e in
    no_pairs a g.0 false g.1
no_pairs (tree.test (tree.pair m n)) x b e = absurd (cc)
no_pairs (tree.test (tree.comparison (tree.compare n s l))) x b e = refl
no_pairs (tree.test (tree.comparison (tree.between n from upto))) x b e = refl

-- ---- comparisons of two columns

eq_turned : (o : Ordering) → is_eq (ordering_reverse o) ≡ is_eq o
eq_turned Less = refl
eq_turned Equal = refl
eq_turned Greater = refl

same_either_way : (x y : Value) → is_eq (value_cmp x y) ≡ is_eq (value_cmp y x)
same_either_way x y = ap is_eq (value_turned x y) ∙ eq_turned (value_cmp y x)

pub join_made : (f k : ColumnId) (j : Join) → join_by f k ≡ Some j
    → record { foreign = f; key = k } ≡ j
join_made f k j e = go (is_foreign f k) refl e
  where
    go : (b : Bool) → is_foreign f k ≡ b → join_by f k ≡ Some j
        → record { foreign = f; key = k } ≡ j
    go true h e = let found : Some (record { foreign = f; key = k }) ≡ Some j = rw h at e in cc
    go false h e = absurd (let none : None ≡ Some j = rw h at e in cc)

join_same : (m n : Option ColumnId) (j : Join) (row : Joined) → join_of m n ≡ Some j
    → is_eq (value_cmp (value_if m row) (value_if n row)) ≡ is_joined_by row j
join_same None n j row e = absurd (cc)
join_same (Some a) None j row e = absurd (cc)
join_same (Some a) (Some b) j row e =
    elim (first_or_second (join_by a b) (join_by b a) j e) [
      | inl first ↦ ap (is_joined_by row) (join_made a b j first)
      | inr second ↦ same_either_way (joined_value a row) (joined_value b row)
          ∙ ap (is_joined_by row) (join_made b a j second)
    ]

-- ---- conjuncts

-- each comparison of two columns is a join
abbrev pub AreJoins : List Pair → Type 0
AreJoins ps = AllByRecursion (λ p. (j : Join) × (p.join ≡ Some j)) ps

ands_crossed : (a b c d : Bool) → ((a && b) && (c && d)) ≡ ((a && c) && (b && d))
ands_crossed it b c d = grind arith

and_true : (b : Bool) → b ≡ (b && true)
and_true true = refl
and_true false = refl

-- a condition that is one conjunct
lone_same : (q : Condition Test) (xs : List plan.RowCondition) (row : Joined)
    → option_map (λ x. x ∷ []) (resolved_condition q) ≡ Some xs
    → is_true q row ≡ (all_joined (joins_of (pairs_of true q)) row && all_hold xs row)
lone_same q xs row e =
    let g = mapped_gave (λ x. x ∷ []) (resolved_condition q) xs e in
    condition_same q g.0 row g.1 ∙ and_true (holds g.0 row)
    ∙ (λ i. all_joined (joins_of (sym (no_pairs q g.0 true g.1) i)) row && all_hold (g.2 i) row)

conjuncts_same : (q : Condition Test) (xs : List plan.RowCondition) (row : Joined)
    → conjuncts_of q ≡ Some xs → AreJoins (pairs_of true q)
    → is_true q row ≡ (all_joined (joins_of (pairs_of true q)) row && all_hold xs row)
conjuncts_same (tree.and a b) xs row e all =
    let g = both_gave (λ ys zs. ys ++ zs) (conjuncts_of a) (conjuncts_of b) xs e in
    let ps = pairs_of true a in
    let qs = pairs_of true b in
    let left = conjuncts_same a g.left row g.first (each_left _ ps qs all) in
    let right = conjuncts_same b g.right row g.second (each_right _ ps qs all) in
    let joins : all_joined (joins_of (ps ++ qs)) row
    ≡ (all_joined (joins_of ps) row && all_joined (joins_of qs) row) =
    ap (λ js. all_joined js row) (flat_map-append (λ (p : Pair). option_to_list p.join) ps qs)
    ∙ list_all-append (is_joined_by row) (joins_of ps) (joins_of qs) in
    let others : all_hold xs row ≡ (all_hold g.left row && all_hold g.right row) =
    ap (λ cs. all_hold cs row) (sym g.made) ∙ list_all-append (λ c. holds c row) g.left g.right in
    (λ i. left i && right i)
    ∙ ands_crossed (all_joined (joins_of ps) row) (all_hold g.left row)
    (all_joined (joins_of qs) row) (all_hold g.right row)
    ∙ (λ i. sym joins i && sym others i)
conjuncts_same (tree.test (tree.pair m n)) xs row e all =
    grind (arith, join_same, and_true, is_joined_by, all_joined)
conjuncts_same (tree.or a b) xs row e all = lone_same (tree.or a b) xs row e
conjuncts_same (tree.not a) xs row e all = lone_same (tree.not a) xs row e
conjuncts_same (tree.test (tree.comparison (tree.compare n s l))) xs row e all =
    lone_same (tree.test (tree.comparison (tree.compare n s l))) xs row e
conjuncts_same (tree.test (tree.comparison (tree.between n from upto))) xs row e all =
    lone_same (tree.test (tree.comparison (tree.between n from upto))) xs row e

pub where_same : (o : Option (Condition Test)) (xs : List plan.RowCondition) (row : Joined)
    → where_conjuncts o ≡ Some xs → AreJoins (where_pairs o)
    → where_is_true o row ≡ (all_joined (joins_of (where_pairs o)) row && all_hold xs row)
where_same None xs row e all = let none : [] ≡ xs = cc in ap (λ cs. all_hold cs row) none
where_same (Some q) xs row e all = conjuncts_same q xs row e all
