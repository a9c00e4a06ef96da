-- The trees of the code, without their addresses in memory.
use Rattle.std.specs.Prelude.{map, option_map}
use Rattle.star_query.specs.declared.tree.{Name.Name, Literal.Literal, Expression.Expression, Comparison.Comparison, Comparison.TheVariants.{Compare, Between}, Condition.Condition, Condition.TheVariants.{Or', And', Not', Test}, Measure.Measure, Measure.TheVariants.{Fold, Count}, Aggregate.Aggregate, Item.Item, Grouping.Grouping, SortKey.SortKey, Tree.Tree, Expression.TheVariants.{Column, Number, Add', Sub', Mul'}}
use Rattle.star_query.specs.declared.tree.Literal.TheVariants as literals
use Rattle.star_query.specs.declared.tree.Test as of_test
use Rattle.star_query.specs.declared.tree.Test.TheVariants as tests
use Rattle.star_query.specs.declared.tree.Item.TheVariants as items
use Rattle.star_schema.specs.Tables as tables
use Rattle.star_query.specs.Tree as tree

abbrev pub name_view : Name → tree.Name
name_view n = record { text = n.text.items; offset = n.offset }

abbrev pub literal_view : Literal → tables.Value
literal_view (literals.Number x) = tables.Number x
literal_view (literals.Text t) = tables.Text t.items

-- an expression whose columns are seen so
abbrev pub expression_by : {C D : Type 0} → (C → D) → Expression C → tree.Expression D
expression_by seen (Column c) = tree.column (seen c)
expression_by seen (Number x) = tree.constant x
expression_by seen (Add' p a q b) = tree.add (expression_by seen a) (expression_by seen b)
expression_by seen (Sub' p a q b) = tree.sub (expression_by seen a) (expression_by seen b)
expression_by seen (Mul' p a q b) = tree.mul (expression_by seen a) (expression_by seen b)

abbrev pub expression_view : Expression Name → tree.Expression tree.Name
expression_view e = expression_by name_view e

-- a comparison whose column and literals are seen so
abbrev pub comparison_by : {C D V : Type 0} → (C → D) → (Literal → V) → Comparison C → tree.Comparison D V
comparison_by seen valued (Compare c q l) = tree.compare (seen c) q (valued l)
comparison_by seen valued (Between c l m) = tree.between (seen c) (valued l) (valued m)

abbrev pub test_view : of_test.Test → tree.Test
test_view (tests.Pair n m) = tree.pair (name_view n) (name_view m)
test_view (tests.Comparison c) = tree.comparison (comparison_by name_view literal_view c)

-- a condition whose tests are seen so
abbrev pub condition_by : {T U : Type 0} → (T → U) → Condition T → tree.Condition U
condition_by seen (Or' p a q b) = tree.or (condition_by seen a) (condition_by seen b)
condition_by seen (And' p a q b) = tree.and (condition_by seen a) (condition_by seen b)
condition_by seen (Not' p a) = tree.not (condition_by seen a)
condition_by seen (Test t) = tree.test (seen t)

abbrev pub condition_view : Condition of_test.Test → tree.Condition tree.Test
condition_view c = condition_by test_view c

-- a measure whose columns are seen so
abbrev pub measure_by : {C D : Type 0} → (C → D) → Measure C → tree.Measure D
measure_by seen (Fold f e) = tree.fold f (expression_by seen e)
measure_by seen Count = tree.count

abbrev pub measure_view : Measure Name → tree.Measure tree.Name
measure_view m = measure_by name_view m

abbrev pub aggregate_view : Aggregate → tree.Aggregate
aggregate_view a = record { measure = measure_view a.measure; offset = a.offset; name = option_map name_view a.name }

abbrev pub item_view : Item → tree.Item
item_view (items.Column n) = tree.plain (name_view n)
item_view (items.Aggregate a) = tree.aggregate (aggregate_view a)

abbrev pub grouping_view : Grouping → tree.Grouping
grouping_view g = record { shape = g.shape; columns = map name_view g.columns.items }

abbrev pub sort_key_view : SortKey → tree.SortKey
sort_key_view k = record { name = name_view k.name; direction = k.direction }

abbrev pub tree_view : Tree → tree.Tree
tree_view t =
    record {
      items = map item_view t.items.items;
      tables = map name_view t.tables.items;
      condition = option_map condition_view t.condition;
      grouping = grouping_view t.grouping;
      keys = map sort_key_view t.keys.items;
    }
