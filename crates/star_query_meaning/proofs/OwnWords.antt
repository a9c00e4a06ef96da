-- What a query answers by its own words is what its plan answers.
use Rattle.std.{proofs.Common.{◌≡◌, ◌∙◌, ℕ, ◌+◌, true, arith, get_or, List, [], ◌∷◌, ◌++◌, length, map, sym, ap, subst}, specs.Prelude.filter, specs.List.AllByRecursion, specs.List.Sorted.IsPermutation, proofs.lemmas.List.Sorted.{IsPermutation-map, IsPermutation-sym}}
use Rattle.star_schema.specs.{declared.table.TableId.TheVariants.Lineorder, Groups.AreGroups, Groups.Entry, Groups.GroupRow, Order.AreInOrder, Order.value_cmp, Schema.table_of, Tables.Value}
use Rattle.star_query.specs.Tree.{Tree}
use Rattle.star_plan.{specs.Joins.{joins_of, where_pairs}, specs.Meaning.{Plan, Tables, all_hold, joined_rows}, specs.Names.column_at, specs.Resolved.IsResolved, specs.Uses.where_uses, specs.Private.Stages.{groups_uses, items_uses}, specs.WellNamed.{IsWellNamed, is_in_from}, proofs.Conditions.no_fault, proofs.Known.{each_left, each_right}, proofs.PreservedCounts.all_counted, proofs.PreservedJoins.where_foreign, proofs.Whole.parts}
use Rattle.star_plan.specs.Meaning as plan
use Rattle.star_program.specs.{declared.outcome.Cell.Cell, RowCells.cell_of}
use Rattle.star_query_meaning.{specs.Answers.{IsAnswer, IsPlanAnswer, shown_name}, specs.Shows.{item_columns, item_names, sorts_of}, specs.Rows.{query_entry, measures_of, product, selected, tables_of}, proofs.Choices.{IsStar, all_joined, dimensions_apart, dimensions_of, filter_both, is_star, joined_product, no_fact_among, product_reordered}, proofs.GroupOrders.groups_reordered, proofs.OwnConditions.where_same, proofs.OwnTables.{from_tables, named_apart, where_named}, proofs.Reorderings.filter_reordered, proofs.OwnShows.{columns_same, functions_same, keys_same, names_same, sorts_same, values_same}}

module _ (ts : Tables) (t : Tree) (p : Plan) (named : IsWellNamed t)
    (resolved : IsResolved t p) where
  -- the rows by the query's own words are those of the plan, in some order
  pub selected_reordered : IsPermutation (selected ts t) (plan.plan_rows ts p)
  selected_reordered =
      let js = joins_of (where_pairs t.condition) in
      let cs = p.conjuncts in
      let there = parts t (no_fault t named) in
      let from = tables_of t.tables in
      let star : IsStar js = is_star js (where_foreign t.condition) there.named.apart in
      let scope : AllByRecursion (λ u. is_in_from t.tables u.column ≡ true)
      (where_uses t.condition) =
      each_left _ (where_uses t.condition) (groups_uses t.grouping.columns)
      (each_right _ (items_uses t.items)
      (where_uses t.condition ++ groups_uses t.grouping.columns) named.scope) in
      let tables : IsPermutation from (Lineorder ∷ dimensions_of js) =
      from_tables t.tables js named.tables named.tables_once named.fact there.named.reach
      (where_named t.tables t.condition scope) (no_fact_among js star, dimensions_apart js star) in
      let choices : IsPermutation (product ts from) (product ts (Lineorder ∷ dimensions_of js)) =
      product_reordered ts from (Lineorder ∷ dimensions_of js)
      (named_apart t.tables named.tables named.tables_once) tables in
      let permuted : IsPermutation (filter (all_hold cs) (filter (all_joined js) (product ts from)))
      (filter (all_hold cs) (filter (all_joined js)
      (product ts (Lineorder ∷ dimensions_of js)))) =
      filter_reordered (all_hold cs) (filter (all_joined js) (product ts from))
      (filter (all_joined js) (product ts (Lineorder ∷ dimensions_of js)))
      (filter_reordered (all_joined js) (product ts from)
      (product ts (Lineorder ∷ dimensions_of js)) choices) in
      let left : selected ts t ≡ filter (all_hold cs) (filter (all_joined js) (product ts from)) =
      (λ i. filter (λ row. where_same t.condition cs row resolved.conjuncts there.named.pairs i)
      (product ts from)) ∙ filter_both (all_joined js) (all_hold cs) (product ts from) in
      let right : filter (all_hold cs)
      (filter (all_joined js) (product ts (Lineorder ∷ dimensions_of js)))
      ≡ plan.plan_rows ts p =
      ap (filter (all_hold cs)) (joined_product ts js star)
      ∙ ap (λ qs. filter (all_hold cs) (joined_rows ts qs)) (sym resolved.joins) in
      subst (λ rows. IsPermutation rows (plan.plan_rows ts p)) (sym left)
      (subst (IsPermutation (filter (all_hold cs) (filter (all_joined js) (product ts from))))
      right permuted)

  -- where FROM names lineorder first, and then the dimensions in the order of their joins, they
  -- come in the plan's order
  pub selected_in_order : tables_of t.tables ≡ Lineorder ∷ map (λ j. table_of j.key) p.joins
      → selected ts t ≡ plan.plan_rows ts p
  selected_in_order from =
      let js = joins_of (where_pairs t.condition) in
      let cs = p.conjuncts in
      let there = parts t (no_fault t named) in
      let star : IsStar js = is_star js (where_foreign t.condition) there.named.apart in
      let tables : tables_of t.tables ≡ Lineorder ∷ dimensions_of js =
      from ∙ ap (λ qs. Lineorder ∷ dimensions_of qs) resolved.joins in
      (λ i. filter (λ row. where_same t.condition cs row resolved.conjuncts there.named.pairs i)
      (product ts (tables i)))
      ∙ filter_both (all_joined js) (all_hold cs) (product ts (Lineorder ∷ dimensions_of js))
      ∙ ap (filter (all_hold cs)) (joined_product ts js star)
      ∙ ap (λ qs. filter (all_hold cs) (joined_rows ts qs)) (sym resolved.joins)

  -- and so are what they add to their groups
  pub entries_reordered : IsPermutation (map (query_entry t) (selected ts t))
      (map (plan.entry_of p) (plan.plan_rows ts p))
  entries_reordered =
      let same : map (query_entry t) (selected ts t) ≡ map (plan.entry_of p) (selected ts t) =
      λ i. map (λ row. record {
        keys = keys_same t.grouping.columns p.keys row resolved.keys i;
        values = values_same t.items p.measures row resolved.measures i;
      }) (selected ts t) in
      subst (λ es. IsPermutation es (map (plan.entry_of p) (plan.plan_rows ts p))) (sym same)
      (IsPermutation-map (plan.entry_of p) (selected ts t) (plan.plan_rows ts p) selected_reordered)

  pub count_same : length t.grouping.columns ≡ length p.keys
  count_same = sym (all_counted column_at t.grouping.columns p.keys resolved.keys)

  -- groups by the query's own words, and by the plan
  pub own_groups : (entries : List (Entry Value)) (groups : List (GroupRow Value))
      → AreGroups value_cmp t.grouping.shape (length t.grouping.columns)
      (map plan.aggregate_of (measures_of t.items)) entries groups
      ≡ AreGroups value_cmp p.shape (length p.keys) (map plan.aggregate_of p.measures) entries
      groups
  own_groups entries groups =
      λ i. AreGroups value_cmp (sym resolved.shape i) (count_same i)
      (functions_same t.items p.measures resolved.measures i) entries groups

  heads : item_names t.items ≡ map (shown_name p) p.items
  heads = names_same t.grouping.columns p 0 t.items p.items resolved.keys resolved.items
      (λ k. let here : 0 + k ≡ k = omega arith in
      ap (λ j. get_or p.names j []) here ∙ ap (λ names. get_or names k []) resolved.names)

  shown : item_columns t ≡ p.items
  shown = columns_same t.grouping.columns 0 t.items p.items resolved.items

  order : sorts_of t ≡ p.sorts
  order = sorts_same t t.keys p.sorts resolved.sorts

  pub plan_answer : (names : List (List ℕ)) (rows : List (List Cell)) → IsAnswer ts t names rows
      → IsPlanAnswer ts p names rows
  plan_answer names rows a =
      record {
        headed = a.headed ∙ heads;
        groups = a.groups;
        each_group =
            groups_reordered value_cmp p.shape (length p.keys) (map plan.aggregate_of p.measures)
            (map (query_entry t) (selected ts t)) (map (plan.entry_of p) (plan.plan_rows ts p))
            a.groups entries_reordered
            (subst (λ (X : Type 0). X) (own_groups (map (query_entry t) (selected ts t)) a.groups)
            a.each_group);
        in_order = subst (λ sorts. AreInOrder value_cmp sorts a.groups) order a.in_order;
        cells = a.cells ∙ ap (λ columns. map (λ group. map (cell_of group) columns) a.groups) shown;
      }

  pub own_answer : (names : List (List ℕ)) (rows : List (List Cell)) → IsPlanAnswer ts p names rows
      → IsAnswer ts t names rows
  own_answer names rows a =
      record {
        headed = a.headed ∙ sym heads;
        groups = a.groups;
        each_group = subst (λ (X : Type 0). X)
            (sym (own_groups (map (query_entry t) (selected ts t)) a.groups))
            (groups_reordered value_cmp p.shape (length p.keys) (map plan.aggregate_of p.measures)
            (map (plan.entry_of p) (plan.plan_rows ts p)) (map (query_entry t) (selected ts t))
            a.groups
            (IsPermutation-sym (map (query_entry t) (selected ts t))
            (map (plan.entry_of p) (plan.plan_rows ts p)) entries_reordered) a.each_group);
        in_order = subst (λ sorts. AreInOrder value_cmp sorts a.groups) (sym order) a.in_order;
        cells = a.cells ∙ ap (λ columns. map (λ group. map (cell_of group) columns) a.groups)
            (sym shown);
      }
