-- The plan of a well named query within the limits is sound and within the limits.
use Rattle.std.{proofs.Common.{◌≡◌, ◌∙◌, sym, ap, subst, ◌+◌, ◌<◌, ◌≤◌, ◌^◌, true, List, [], ◌∷◌, Option, Some, None, length, arith}, specs.List.{list_all, sum_by}, proofs.lemmas.List.Sums.sum_by-cons}
use Rattle.star_plan.{proofs.Conditions.some_there, proofs.Whole.{conjuncts_there, keys_there, measures_there, parts}, proofs.PreservedJoins.{at_most_four, where_foreign}, proofs.PreservedSpelling.{measures_spelled, names_spelled, where_spelled}, specs.Joins.{is_foreign, joins_of, where_pairs}, specs.Meaning.Plan, specs.Names.column_at, specs.Naming.{aggregate_names, resolved_key}, specs.Faults.plan_fault, specs.Resolved.IsResolved, specs.Limits.IsPlanWithinLimits, specs.Spelled.IsSpelledPlan, specs.Sound.{are_distinct, condition_is_sound, in_scope, is_group_column, measure_is_sound, IsSoundPlan}, proofs.PreservedCounts.{all_counted, items_counted, items_there, measures_counted, names_counted, operands_counted, sorts_there, where_comparisons}}
use Rattle.star_schema.specs.Schema.{table_of}
use Rattle.star_query.specs.Tree as tree
use Rattle.star_query.specs.{Tree.Tree, Spelled.is_name}
use Rattle.star_query.specs.Limits as asked
use Rattle.star_query.specs.Spelled as spelled

pub same_some : {A : Type 0} (o : Option A) (x y : A) → o ≡ Some x → o ≡ Some y → x ≡ y
same_some o x y e f = cc

-- each item has at most one aggregate
few_aggregates : (is' : List tree.Item) → sum_by asked.aggregates_in is' ≤ length is'
few_aggregates [] = omega arith
few_aggregates (tree.plain n ∷ is') =
    omega (arith, few_aggregates is', sum_by-cons asked.aggregates_in (tree.plain n) is')
few_aggregates (tree.aggregate a ∷ is') =
    omega (arith, few_aggregates is', sum_by-cons asked.aggregates_in (tree.aggregate a) is')

pub preserved_within : (t : Tree) (p : Plan) → asked.IsQueryWithinLimits t → plan_fault t ≡ None
    → IsResolved t p → IsPlanWithinLimits p
preserved_within t p few named resolved =
    let there = parts t named in
    let conditions = where_comparisons t.condition p.conjuncts resolved.conjuncts in
    let groups = all_counted column_at t.grouping.columns p.keys resolved.keys in
    let measures = measures_counted t.items p.measures resolved.measures in
    let operands = operands_counted t.items p.measures resolved.measures in
    let items = items_counted t.grouping.columns 0 t.items p.items resolved.items in
    let sorts = all_counted (resolved_key t.grouping.columns (aggregate_names t.items)) t.keys
    p.sorts resolved.sorts in
    record {
      joins = subst (λ js. length js ≤ 4) (sym resolved.joins)
          (at_most_four (joins_of (where_pairs t.condition)) (where_foreign t.condition)
          there.named.apart);
      comparisons = omega (arith, conditions, few.comparisons);
      keys = omega (arith, groups, few.columns);
      measures = omega (arith, measures, few.aggregates);
      operands = omega (arith, operands, few.operands);
      items = omega (arith, items, few.items);
      sorts = omega (arith, sorts, few.keys);
    }

pub preserved_sound : (t : Tree) (p : Plan) → plan_fault t ≡ None → IsResolved t p → IsSoundPlan p
preserved_sound t p named resolved =
    let there = parts t named in
    let js = joins_of (where_pairs t.condition) in
    let conjuncts = conjuncts_there t there.named in
    let keys = keys_there t there.named in
    let measures = measures_there t there.named in
    let keys_many : length p.keys ≡ length t.grouping.columns =
    all_counted column_at t.grouping.columns p.keys resolved.keys in
    let measures_many : length p.measures ≡ sum_by asked.aggregates_in t.items =
    measures_counted t.items p.measures resolved.measures in
    let names_many : length (aggregate_names t.items) ≡ sum_by asked.aggregates_in t.items =
    names_counted 1 t.items in
    let names_same : length (aggregate_names t.items) ≡ length p.measures =
    names_many ∙ sym measures_many in
    record {
      joins = subst (λ qs. list_all (λ j. is_foreign j.foreign j.key) qs ≡ true)
          (sym resolved.joins) (where_foreign t.condition);
      distinct = subst (λ qs. are_distinct qs ≡ true) (sym resolved.joins) there.named.apart;
      conjuncts =
          subst (λ qs. list_all (condition_is_sound qs) p.conjuncts ≡ true) (sym resolved.joins)
          (subst (λ cs. list_all (condition_is_sound js) cs ≡ true)
          (same_some _ conjuncts.0 p.conjuncts conjuncts.1 resolved.conjuncts) conjuncts.2);
      keys =
          subst (λ qs. list_all (λ c. in_scope qs (table_of c)) p.keys ≡ true) (sym resolved.joins)
          (subst (λ cs. list_all (λ c. in_scope js (table_of c)) cs ≡ true)
          (same_some _ keys.0 p.keys keys.1 resolved.keys) keys.2);
      measures =
          subst (λ qs. list_all (measure_is_sound qs) p.measures ≡ true) (sym resolved.joins)
          (subst (λ ms. list_all (measure_is_sound js) ms ≡ true)
          (same_some _ measures.0 p.measures measures.1 resolved.measures) measures.2);
      names = ap length resolved.names ∙ names_same;
      items =
          subst (λ n. list_all (is_group_column n (length p.measures)) p.items ≡ true)
          (sym keys_many)
          (items_there t.grouping.columns 0 (length p.measures) t.items p.items (omega arith)
          resolved.items);
      shown =
          omega (
            arith,
            some_there (aggregate_names t.items) there.some,
            few_aggregates t.items,
            items_counted t.grouping.columns 0 t.items p.items resolved.items,
          );
      sorts =
          subst (λ n. list_all (λ s. is_group_column n (length p.measures) s.column) p.sorts ≡ true)
          (sym keys_many)
          (subst (λ n. list_all (λ s. is_group_column (length t.grouping.columns) n s.column)
          p.sorts ≡ true) names_same
          (sorts_there t.grouping.columns (aggregate_names t.items) t.keys p.sorts resolved.sorts));
    }

pub preserved_spelled : (t : Tree) (p : Plan) → asked.IsQueryWithinLimits t
    → spelled.IsSpelledQuery t → IsResolved t p → IsSpelledPlan p
preserved_spelled t p few good resolved =
    let short : 1 + length t.items < 2 ^ 64 = omega (arith, few.items) in
    record {
      names = ap (list_all is_name) resolved.names ∙ names_spelled 1 t.items short good.items;
      conjuncts = where_spelled t.condition p.conjuncts resolved.conjuncts good.condition;
      measures = measures_spelled t.items p.measures resolved.measures good.items;
    }
