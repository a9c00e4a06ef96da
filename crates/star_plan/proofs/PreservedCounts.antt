-- The counts of a plan are those of its query.
use Rattle.std.{proofs.Common.{◌≡◌, ◌∙◌, sym, ap, subst, ℕ, ◌+◌, ◌<◌, ◌≤◌, true, List, [], ◌∷◌, ◌++◌, Option, Some, None, length, option_map, arith, refl}, specs.List.{list_all, sum_by}, specs.Option.option_or, proofs.lemmas.Bool.{and_from, lt-ltb}, proofs.lemmas.List.Quantifiers.position-Some, proofs.lemmas.List.Sums.{sum_by-append, sum_by-cons}, proofs.lemmas.Grind.common_steps}
use Rattle.star_schema.specs.declared.{column.ColumnId.ColumnId, group.GroupColumn.GroupColumn}
use Rattle.star_schema.specs.declared.group.GroupColumn.TheVariants as group
use Rattle.star_schema.specs.declared.group.SortKey as sorted
use Rattle.star_query.specs.Tree as tree
use Rattle.star_query.specs.{Tree.{Item, Name, SortKey, Expression, column, or, and, not, test, compare, between, Measure}, Limits.{comparisons_of, measure_operands, operands_of}}
use Rattle.star_query.specs.Limits as asked
use Rattle.star_plan.{specs.Meaning.RowCondition, specs.Naming.{names_from, aggregate_column, key_column, resolved_key}, specs.Sound.is_group_column, specs.Private.Stages.resolved_measures, specs.Resolved.{conjuncts_of, items_from, option_all, resolved_condition, resolved_expression, resolved_measure, where_conjuncts}, proofs.Options.{both_gave, first_or_second, mapped_gave}, proofs.Related.{condition_related, expression_related}}

abbrev sorted_by : GroupColumn → SortKey → sorted.SortKey
sorted_by c k = record { column = c; direction = k.direction }

-- ---- expressions and conditions

expression_operands : (e : Expression Name) (x : Expression ColumnId)
    → resolved_expression e ≡ Some x → operands_of x ≡ asked.operands_of e
expression_operands e x h =
    sym (expression_related (λ a b. a ≡ b) (λ n. 1) (λ c. 1) (λ z. 1) (λ op. ◌+◌) (λ n c h. refl)
    (λ k. refl) (λ op a b c d l r. cc) e x h)

resolved_operands : (m : tree.Measure tree.Name) (x : Measure ColumnId)
    → resolved_measure m ≡ Some x → measure_operands x ≡ asked.measure_operands m
resolved_operands it x e = grind (arith, mapped_gave, expression_operands)

condition_comparisons : (q : tree.Condition tree.Test) (x : RowCondition)
    → resolved_condition q ≡ Some x → comparisons_of x ≡ asked.comparisons_of q
condition_comparisons q x h =
    sym (condition_related (λ a b. a ≡ b) (λ t. 1) (λ c. 1) (λ n. n + 1) ◌+◌ ◌+◌ (λ t c h. refl)
    (λ a b h. ap (λ n. n + 1) h) (λ a b c d l r. cc) (λ a b c d l r. cc) q x h)

lone_comparisons : (q : tree.Condition tree.Test) (xs : List RowCondition)
    → option_map (λ x. x ∷ []) (resolved_condition q) ≡ Some xs
    → sum_by comparisons_of xs ≤ asked.comparisons_of q
lone_comparisons q xs e = grind (arith, mapped_gave, condition_comparisons)

conjuncts_comparisons : (q : tree.Condition tree.Test) (xs : List RowCondition)
    → conjuncts_of q ≡ Some xs → sum_by comparisons_of xs ≤ asked.comparisons_of q
conjuncts_comparisons (tree.and a b) xs e =
    let g = both_gave (λ ys zs. ys ++ zs) (conjuncts_of a) (conjuncts_of b) xs e in
    subst (λ ys. sum_by comparisons_of ys ≤ asked.comparisons_of (tree.and a b)) g.made
    (omega (
      arith,
      sum_by-append comparisons_of g.left g.right,
      conjuncts_comparisons a g.left g.first,
      conjuncts_comparisons b g.right g.second,
    ))
conjuncts_comparisons (tree.test (tree.pair m n)) xs e =
    let none : [] ≡ xs = cc in subst (λ ys. sum_by comparisons_of ys ≤ 1) none (omega arith)
conjuncts_comparisons (tree.or a b) xs e = lone_comparisons (tree.or a b) xs e
conjuncts_comparisons (tree.not a) xs e = lone_comparisons (tree.not a) xs e
conjuncts_comparisons (tree.test (tree.comparison (tree.compare n s l))) xs e =
    lone_comparisons (tree.test (tree.comparison (tree.compare n s l))) xs e
conjuncts_comparisons (tree.test (tree.comparison (tree.between n from upto))) xs e =
    lone_comparisons (tree.test (tree.comparison (tree.between n from upto))) xs e

pub where_comparisons : (o : Option (tree.Condition tree.Test)) (xs : List RowCondition)
    → where_conjuncts o ≡ Some xs → sum_by comparisons_of xs ≤ asked.where_comparisons (o)
where_comparisons None xs e = let none : [] ≡ xs = cc in
    subst (λ ys. sum_by comparisons_of ys ≤ 0) none (omega arith)
where_comparisons (Some q) xs e = conjuncts_comparisons q xs e

-- ---- aggregates

pub measures_counted : (is' : List Item) (ms : List (Measure ColumnId))
    → resolved_measures is' ≡ Some ms → length ms ≡ sum_by asked.aggregates_in is'
measures_counted [] ms e = let none : [] ≡ ms = cc in ap length (sym none)
measures_counted (tree.plain n ∷ is') ms e =
    omega (arith, measures_counted is' ms e, sum_by-cons asked.aggregates_in (tree.plain n) is')
measures_counted (tree.aggregate a ∷ is') ms e =
    let g = both_gave (λ m ms'. m ∷ ms') (resolved_measure a.measure) (resolved_measures is') ms
    e in
    ap length (sym g.made) ∙ omega (
      arith,
      measures_counted is' g.right g.second,
      sum_by-cons asked.aggregates_in (tree.aggregate a) is',
    )

pub operands_counted : (is' : List Item) (ms : List (Measure ColumnId))
    → resolved_measures is' ≡ Some ms → sum_by measure_operands ms ≡ sum_by asked.item_operands is'
operands_counted [] ms e = let none : [] ≡ ms = cc in ap (sum_by measure_operands) (sym none)
operands_counted (tree.plain n ∷ is') ms e =
    omega (arith, operands_counted is' ms e, sum_by-cons asked.item_operands (tree.plain n) is')
operands_counted (tree.aggregate a ∷ is') ms e =
    let g = both_gave (λ m ms'. m ∷ ms') (resolved_measure a.measure) (resolved_measures is') ms
    e in
    ap (sum_by measure_operands) (sym g.made)
    ∙ omega (
      arith,
      sum_by-cons measure_operands g.left g.right,
      resolved_operands a.measure g.left g.first,
      operands_counted is' g.right g.second,
      sum_by-cons asked.item_operands (tree.aggregate a) is',
    )

pub names_counted : (number : ℕ) (is' : List Item)
    → length (names_from number is') ≡ sum_by asked.aggregates_in is'
names_counted number [] = refl
names_counted number (tree.plain n ∷ is') =
    omega (arith, names_counted number is', sum_by-cons asked.aggregates_in (tree.plain n) is')
names_counted number (tree.aggregate a ∷ is') =
    grind (arith, common_steps, names_counted (number + 1) is', sum_by-cons)

-- ---- groups, items and the order

pub all_counted : {A B : Type 0} (f : A → Option B) (xs : List A) (ys : List B)
    → option_all f xs ≡ Some ys → length ys ≡ length xs
all_counted f [] ys e = let none : [] ≡ ys = cc in ap length (sym none)
all_counted f (x ∷ xs) ys e =
    let g = both_gave (λ z zs. z ∷ zs) (f x) (option_all f xs) ys e in
    ap length (sym g.made) ∙ omega (arith, all_counted f xs g.right g.second)

pub items_counted : (groups : List Name) (before : ℕ) (is' : List Item) (cs : List GroupColumn)
    → items_from groups before is' ≡ Some cs → length cs ≡ length is'
items_counted groups before [] cs e = let none : [] ≡ cs = cc in ap length (sym none)
items_counted groups before (tree.plain n ∷ is') cs e =
    let g = both_gave (λ c cs'. c ∷ cs') (key_column groups n.text) (items_from groups before is')
    cs e in
    ap length (sym g.made) ∙ omega (arith, items_counted groups before is' g.right g.second)
items_counted groups before (tree.aggregate a ∷ is') cs e =
    let g = both_gave (λ c cs'. c ∷ cs') (Some (group.Aggregate before))
    (items_from groups (before + 1) is') cs e in
    ap length (sym g.made) ∙ omega (arith, items_counted groups (before + 1) is' g.right g.second)

key_there : (groups : List Name) (text : List ℕ) (c : GroupColumn) (most : ℕ)
    → key_column groups text ≡ Some c → is_group_column (length groups) most c ≡ true
key_there groups text c most e = grind (arith, mapped_gave, lt-ltb, position-Some)

aggregate_there : (keys : ℕ) (names : List (List ℕ)) (text : List ℕ) (c : GroupColumn)
    → aggregate_column names text ≡ Some c → is_group_column keys (length names) c ≡ true
aggregate_there keys names text c e = grind (arith, mapped_gave, position-Some, lt-ltb)

pub items_there : (groups : List Name) (before most : ℕ) (is' : List Item) (cs : List GroupColumn)
    → before + sum_by asked.aggregates_in is' ≤ most → items_from groups before is' ≡ Some cs
    → list_all (is_group_column (length groups) most) cs ≡ true
items_there groups before most [] cs few e = let none : [] ≡ cs = cc in
    subst (λ ds. list_all (is_group_column (length groups) most) ds ≡ true) none refl
items_there groups before most (tree.plain n ∷ is') cs few e =
    let g = both_gave (λ c cs'. c ∷ cs') (key_column groups n.text) (items_from groups before is')
    cs e in
    subst (λ ds. list_all (is_group_column (length groups) most) ds ≡ true) g.made
    (and_from _ _ (key_there groups n.text g.left most g.first)
    (items_there groups before most is' g.right
    (omega (arith, few, sum_by-cons asked.aggregates_in (tree.plain n) is')) g.second))
items_there groups before most (tree.aggregate a ∷ is') cs few e =
    let g = both_gave (λ c cs'. c ∷ cs') (Some (group.Aggregate before))
    (items_from groups (before + 1) is') cs e in
    let here : group.Aggregate before ≡ g.left = (let first = g.first in cc) in
    let below : before < most =
    omega (arith, few, sum_by-cons asked.aggregates_in (tree.aggregate a) is') in
    subst (λ ds. list_all (is_group_column (length groups) most) ds ≡ true) g.made
    (and_from _ _ (subst (λ d. is_group_column (length groups) most d ≡ true) here
    (lt-ltb _ _ below))
    (items_there groups (before + 1) most is' g.right
    (omega (arith, few, sum_by-cons asked.aggregates_in (tree.aggregate a) is')) g.second))

sort_there : (groups : List Name) (names : List (List ℕ)) (text : List ℕ) (c : GroupColumn)
    → option_or (key_column groups text) (aggregate_column names text) ≡ Some c
    → is_group_column (length groups) (length names) c ≡ true
sort_there groups names text c e = grind (arith, first_or_second, key_there, aggregate_there)

pub sorts_there : (groups : List Name) (names : List (List ℕ)) (ks : List SortKey)
    (ss : List sorted.SortKey) → option_all (resolved_key groups names) ks ≡ Some ss
    → list_all (λ s. is_group_column (length groups) (length names) s.column) ss ≡ true
sorts_there groups names [] ss e = let none : [] ≡ ss = cc in
    subst (λ ts. list_all (λ s. is_group_column (length groups) (length names) s.column) ts ≡ true)
    none refl
sorts_there groups names (k ∷ ks) ss e =
    let g = both_gave (λ z zs. z ∷ zs) (resolved_key groups names k)
    (option_all (resolved_key groups names) ks) ss e in
    let c = mapped_gave (λ (d : GroupColumn). sorted_by d k)
    (option_or (key_column groups k.name.text) (aggregate_column names k.name.text)) g.left
    g.first in
    subst (λ ts. list_all (λ s. is_group_column (length groups) (length names) s.column) ts ≡ true)
    g.made
    (and_from _ _ (subst (λ s. is_group_column (length groups) (length names) s.column ≡ true) c.2
    (sort_there groups names k.name.text c.0 c.1))
    (sorts_there groups names ks g.right g.second))
