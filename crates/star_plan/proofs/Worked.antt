-- Parts of queries with their names resolved; joins among comparisons; names of aggregates; and the
-- columns that a query names.
use Rattle.std.{proofs.Common.{◌≡◌, ℕ, List, [], ◌∷◌, true, false, Option, Some, None, map, pos, refl}, specs.Prelude.{◌+◌, codes}, specs.Fmt.digits}
use Rattle.star_common.proofs.Tables.{Gives, Gives2}
use Rattle.star_schema.specs.{declared.column.ColumnId.TheVariants.{CCustkey, DDatekey, LoCustkey, LoDiscount, LoOrderdate, LoTax}, declared.column.ColumnId.ColumnId, declared.group.GroupColumn.TheVariants.{Key, Aggregate}, declared.group.Shape.TheVariants.Plain, Schema.column_of, Tables.{Number, Text, Value}}
use Rattle.star_query.specs.{Tree.{Comparison, Condition, Expression, Item, Name, Test, add, aggregate, and, between, column, compare, comparison, constant, count, fold, mul, not, or, pair, plain, sub, test}, declared.token.Fold.TheVariants.{Max, Min, Sum}, declared.token.Relation.TheVariants.Equal}
use Rattle.star_plan.specs.{Joins.{Pair, pairs_of, where_pairs}, Names.column_called, Naming.{aggregate_names, default_name, function_word}, Uses.{test_uses, uses_of}, Private.Stages.{any_use, item_column}, Resolved.{conjuncts_of, option_both, resolved_condition, resolved_expression}}

-- a name, and where it stands
abbrev called : List ℕ → ℕ → Name
called word at = record { text = word; offset = at }

-- ---- expressions and conditions

abbrev tax : Expression Name
tax = column (called (codes "lo_tax") 4)

abbrev two : Expression Name
two = constant (pos 2)

both_or_none : Gives2 (option_both ◌+◌)
    ((Some 2, Some 3, Some 5) ∷ (Some 2, None, None) ∷ (None, Some 3, None) ∷ [])
    × Gives resolved_expression (
    (add tax two, Some (add (column LoTax) (constant (pos 2))))
    ∷ (sub tax two, Some (sub (column LoTax) (constant (pos 2))))
    ∷ (mul tax two, Some (mul (column LoTax) (constant (pos 2))))
    ∷ (add (column (called (codes "lo_taxes") 4)) two, None) ∷ [])
unfolding column_of column_called
both_or_none = (refl, refl)

abbrev taxed : Condition Test
taxed = test (comparison (compare (called (codes "lo_tax") 60) Equal (Number (pos 2))))

abbrev discounted : Condition Test
discounted =
    test (comparison (between (called (codes "lo_discount") 9) (Number (pos 1)) (Number (pos 3))))

abbrev by_date : Condition Test
by_date = test (pair (called (codes "lo_orderdate") 3) (called (codes "d_datekey") 18))

abbrev by_customer : Condition Test
by_customer = test (pair (called (codes "c_custkey") 32) (called (codes "lo_custkey") 44))

abbrev of_tax : Condition (Comparison ColumnId Value)
of_tax = test (compare LoTax Equal (Number (pos 2)))

abbrev of_discount : Condition (Comparison ColumnId Value)
of_discount = test (between LoDiscount (Number (pos 1)) (Number (pos 3)))

-- two compared columns are no conjunct, and none of a condition within OR
conditions : Gives resolved_condition ((or taxed discounted, Some (or of_tax of_discount))
    ∷ (and taxed discounted, Some (and of_tax of_discount)) ∷ (not taxed, Some (not of_tax)) ∷ [])
    × Gives conjuncts_of ((and taxed (and by_date discounted), Some (of_tax ∷ of_discount ∷ []))
    ∷ (by_date, Some []) ∷ (or taxed by_date, None) ∷ [])
unfolding column_of column_called
conditions = (refl, refl)

-- ---- joins are reached through AND alone, from the left, and through OR or NOT none is

abbrev dated : Pair
dated = record { join = Some (record { foreign = LoOrderdate; key = DDatekey }); at = 3 }

abbrev of_a_customer : Pair
of_a_customer = record { join = Some (record { foreign = LoCustkey; key = CCustkey }); at = 32 }

abbrev none : ℕ → Pair
none at = record { join = None; at = at }

joined : Gives where_pairs ((
  Some (and (and by_date taxed) by_customer),
  dated ∷ of_a_customer
      ∷ [],
) ∷ (Some (or by_date (and taxed by_customer)), none 3 ∷ none 32 ∷ [])
    ∷ (Some (and by_date (not by_customer)), dated ∷ none 32 ∷ []) ∷ (None, []) ∷ [])
    × (pairs_of false by_date ≡ none 3 ∷ [])
unfolding column_of column_called
joined = (refl, refl)

-- ---- items: a group column by its position, and an aggregate by how many come before it; names
-- are numbered from 1, one with a name of its own among them

abbrev counted : ℕ → Option Name → Item
counted at name = aggregate (record { measure = count; offset = at; name = name })

abbrev groups : List Name
groups = called (codes "lo_quantity") 40 ∷ called (codes "lo_tax") 53 ∷ []

items : Gives (item_column groups 3) (
    (plain (called (codes "lo_tax") 7), Some (Key 1)) ∷ (counted 15 None, Some (Aggregate 3))
    ∷ (plain (called (codes "lo_discount") 7), None) ∷ [])
    × Gives function_word (
    (count, codes "count") ∷ (fold Sum tax, codes "sum") ∷ (fold Min tax, codes "min")
    ∷ (fold Max tax, codes "max") ∷ [])
    × (default_name count 12 ≡ codes "count12")
    × (aggregate_names (counted 7 None ∷ plain (called (codes "lo_tax") 17)
    ∷ counted 25 (Some (called (codes "n") 30)) ∷ counted 33 None ∷ [])
    ≡ codes "count1" ∷ codes "n" ∷ codes "count3" ∷ [])
unfolding function_word digits
items = (refl, refl, refl, refl)

-- ---- columns that are named, and whether they are of the kind asked for; one alone is of any kind

abbrev equal : Value → Name → Test
equal literal n = comparison (compare n Equal literal)

abbrev within : Value → Value → Name → Test
within from upto n = comparison (between n from upto)

abbrev one : Value
one = Number (pos 1)

uses : Gives (λ word. (any_use (called word 3)).fits)
    ((codes "lo_tax", true) ∷ (codes "lo_shipmode", true) ∷ [])
    × Gives2 (λ word of_name. map (λ u. u.fits) (test_uses (of_name (called word 3)))) (
    (codes "lo_tax", equal one, true ∷ []) ∷ (codes "lo_tax", equal (Text (codes "1")), false ∷ [])
    ∷ (codes "lo_tax", within one one, true ∷ [])
    ∷ (codes "lo_tax", within one (Text (codes "2")), false ∷ [])
    ∷ (codes "lo_tax", within (Text (codes "1")) one, false ∷ [])
    ∷ (codes "lo_shipmode", equal one, false ∷ [])
    ∷ (codes "lo_shipmode", equal (Text (codes "1")), true ∷ []) ∷ [])
unfolding column_of column_called
uses = (refl, refl)

-- select lo_tax, count(*) from lineorder where lo_tax = 2 and lo_orderdate = d_datekey group by
-- lo_tax
indexes : map (λ u. u.at) (uses_of (record {
  items = plain (called (codes "lo_tax") 7) ∷ counted 15 None ∷ [];
  tables = called (codes "lineorder") 29 ∷ [];
  condition = Some (and taxed by_date);
  grouping = record { shape = Plain; columns = called (codes "lo_tax") 95 ∷ [] };
  keys = [];
})) ≡ 7 ∷ 60 ∷ 3 ∷ 18 ∷ 95 ∷ []
indexes = refl
