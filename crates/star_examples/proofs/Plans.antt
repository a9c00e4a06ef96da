-- What every plan keeps, and when it fits the sample.
use Rattle.std.{proofs.Common.{◌≡◌, ◌≤◌, ◌^◌, ℕ, ℤ, Bool, true, false, List, [], ◌∷◌, Some, None, length, pos, refl}, specs.Prelude.{IsTrue, codes, neg_ℤ, replicate, sum_by}, specs.List.list_all}
use Rattle.star_common.proofs.Tables.{Gives, Gives2}
use Rattle.star_schema.specs.{declared.column.ColumnId.TheVariants.{CCustkey, DDatekey, DYear, LoDiscount, LoExtendedprice, LoLinenumber, LoOrderdate, LoOrderkey, LoQuantity, LoRevenue, LoShipmode, LoSupplycost, LoTax, PBrand1, PSize}, declared.table.Key.TheVariants.Two, declared.table.TableId.TheVariants.{Customer, Date, Part, Lineorder}, declared.column.ColumnId.ColumnId, Schema.{position_of, table_of}, Tables.{Number, Text}, declared.group.GroupColumn.TheVariants.Key, declared.group.GroupColumn.TheVariants.Aggregate, Bounds.greatest as greatest_number, Bounds.least as least_number, Bounds.numbers_at, Columns.bounds_in, Records.pieces, Schema.column_of, Schema.columns_of}
use Rattle.star_interval.specs.Range.{Range, is_i64, only}
use Rattle.star_query.specs.{Leaves.is_so, Tree.{Expression, Name, Tree, add, and, column, constant, count, mul, not, or, sub, test}, declared.token.Relation.TheVariants.Equal, Limits.{comparisons_of, measure_operands, operands_of}, Spelled.{has_few_digits, is_name, is_printable_text}}
use Rattle.star_plan.specs.{Sound.{IsSoundPlan, are_distinct, condition_is_sound, expression_is_sound, in_scope, is_group_column, measure_is_sound}, declared.tree.Join.Join, Fits.{Fits, expression_range, measure_fits, nodes_fit}, Joins.{is_foreign, is_joined, is_lone_key, joins}, Limits.IsPlanWithinLimits, Meaning.{Plan, RowCondition, value_in, value_number}, Names.{column_called, is_of}, Spelled.{IsSpelledPlan, condition_is_spelled, expression_is_spelled, measure_is_spelled}}
use Rattle.star_query_meaning.specs.{Fitting.FitsTables, Fitting.PlanFitsTables, Fitting.range_named, Rows.measures_of}
use Rattle.star_compile_laws.proofs.PlanWords.{compare, between, summed, least, greatest}
use Rattle.star_examples.proofs.Sample.{number, text, sample, by_order, by_commit, cost, discount, of_part, revenue, tax}
use Rattle.star_schema.specs.declared.column.Kind.TheVariants as kind

-- ---- sound: date is joined, and part isn't; texts are no numbers

abbrev dated : List Join
dated = by_order ∷ []

abbrev good : RowCondition
good = compare DYear Equal (number 1993)

abbrev unjoined : RowCondition
unjoined = compare PBrand1 Equal (text (codes "MFGR#12"))

abbrev mode : Expression ColumnId
mode = column LoShipmode

conditions_sound : Gives (condition_is_sound dated) (
    (good, true) ∷ (unjoined, false) ∷ (compare DYear Equal (text (codes "1993")), false)
    ∷ (compare LoShipmode Equal (number 1), false)
    ∷ (compare LoShipmode Equal (text (codes "AIR")), true)
    ∷ (between DYear (number 1) (number 2), true) ∷ (between DYear (text []) (number 2), false)
    ∷ (between DYear (number 1) (text []), false) ∷ (between PSize (number 1) (number 2), false)
    ∷ (or good good, true) ∷ (or unjoined good, false) ∷ (or good unjoined, false)
    ∷ (and good good, true) ∷ (and unjoined good, false) ∷ (and good unjoined, false)
    ∷ (not good, true) ∷ (not unjoined, false) ∷ [])
    × Gives (in_scope dated) ((Lineorder, true) ∷ (Date, true) ∷ (Part, false) ∷ [])
unfolding column_of
conditions_sound = (refl, refl)

-- `or`, `and` and `not` inside one another
nested_conditions : Gives (is_so (λ (b : Bool). b)) (
    (or (and (test true) (test false)) (test false), false)
    ∷ (or (test false) (and (test true) (test false)), false)
    ∷ (and (or (test true) (test false)) (test true), true)
    ∷ (and (test true) (or (test false) (test true)), true)
    ∷ (not (or (test true) (test false)), false) ∷ [])
nested_conditions = refl

measures_sound : Gives (expression_is_sound dated)
    ((tax, true) ∷ (column DYear, true) ∷ (mode, false) ∷ (column PSize, false)
    ∷ (constant (pos 1), true) ∷ (add tax tax, true) ∷ (add mode tax, false) ∷ (add tax mode, false)
    ∷ (sub mode tax, false) ∷ (sub tax mode, false) ∷ (mul mode tax, false) ∷ (mul tax mode, false)
    ∷ []) × Gives (measure_is_sound dated)
    ((count, true) ∷ (summed tax, true) ∷ (summed mode, false) ∷ (least mode, false)
    ∷ (greatest mode, false) ∷ [])
unfolding column_of
measures_sound = (refl, refl)

joins_sound : Gives are_distinct ((dated, true) ∷ (by_order ∷ of_part ∷ [], true)
    ∷ (by_order ∷ by_commit ∷ [], false) ∷ (by_order ∷ of_part ∷ by_commit ∷ [], false) ∷ [])
    × Gives2 is_foreign ((LoOrderdate, DDatekey, true) ∷ (LoOrderdate, CCustkey, false)
    ∷ (LoOrderdate, DYear, false) ∷ (LoTax, DDatekey, false) ∷ (DDatekey, LoOrderdate, false) ∷ [])
    × Gives (is_group_column 2 3)
    ((Key 1, true) ∷ (Key 2, false) ∷ (Aggregate 2, true) ∷ (Aggregate 3, false) ∷ [])
unfolding column_of
joins_sound = (refl, refl, refl)

-- ---- joins: neither of two columns that are a key together is one by itself; two columns that
-- make no join join no table

pairs : (at : _) → (is_lone_key LoOrderkey (Two LoOrderkey LoLinenumber) ≡ false)
    × (joins Date None ≡ false)
    × Gives (is_joined (record { join = None; at = at }
    ∷ record { join = Some (record { foreign = LoOrderdate; key = DDatekey }); at = at } ∷ []))
    ((Date, true) ∷ (Customer, false) ∷ [])
unfolding column_of
pairs at = (refl, refl, refl)

-- a name that is no column's has no wrong kind; a value that a row hasn't, and the number of a
-- text, are 0
defaults : Gives (λ k. is_of k None) ((kind.Number, true) ∷ (kind.Text, true) ∷ [])
    × (value_in DYear [] ≡ Number (pos 0)) × (value_number (Text (codes "7")) ≡ pos 0)
unfolding column_of position_of
defaults = (refl, refl, refl)

-- ---- limits, and how words are spelled: 18 digits and not 19, from the space to the tilde

counted : Gives comparisons_of ((good, 1) ∷ (between DYear (number 1) (number 2), 1)
    ∷ (not good, 2) ∷ (or good (not good), 3) ∷ (and (not good) (and good good), 4) ∷ [])
    × Gives operands_of ((tax, 1) ∷ (constant (pos 1), 1) ∷ (add tax tax, 2)
    ∷ (sub tax (add tax tax), 3) ∷ (mul (sub tax tax) (mul tax tax), 4) ∷ [])
    × Gives measure_operands ((count, 0) ∷ (summed (add tax tax), 2) ∷ (least tax, 1)
    ∷ (greatest tax, 1) ∷ [])
counted = (refl, refl, refl)

words_spelled : Gives is_name (
    (codes "a_1", true) ∷ (codes "_", true) ∷ (replicate 64 97, true) ∷ ([], false)
    ∷ (codes "1a", false) ∷ (codes "a-b", false) ∷ (codes "a b", false) ∷ (replicate 65 97, false)
    ∷ [])
    × Gives has_few_digits (
    (pos 0, true) ∷ (pos 999999999999999999, true) ∷ (neg_ℤ (pos 999999999999999999), true)
    ∷ (pos 1000000000000000000, false) ∷ (neg_ℤ (pos 1000000000000000000), false) ∷ [])
    × Gives is_printable_text (
    ([], true) ∷ (32 ∷ 126 ∷ [], true) ∷ (97 ∷ 31 ∷ [], false) ∷ (127 ∷ [], false) ∷ (9 ∷ [], false)
    ∷ [])
unfolding is_name has_few_digits is_printable_text
words_spelled = (refl, refl, refl)

abbrev bad : RowCondition
bad = compare LoShipmode Equal (text (10 ∷ []))

abbrev one : Expression ColumnId
one = constant (pos 1)

abbrev long : Expression ColumnId
long = constant (pos 1000000000000000000)

plans_spelled : Gives condition_is_spelled ((good, true)
    ∷ (compare LoTax Equal (number 1000000000000000000), false) ∷ (bad, false)
    ∷ (or good bad, false) ∷ (or bad good, false) ∷ (or good good, true) ∷ (and good bad, false)
    ∷ (and bad good, false) ∷ (and good good, true) ∷ (not bad, false) ∷ (not good, true)
    ∷ (between LoTax (number 1) (number 2), true)
    ∷ (between LoTax (number 1) (number 1000000000000000000), false)
    ∷ (between LoTax (number 1000000000000000000) (number 1), false) ∷ [])
    × Gives expression_is_spelled ((column LoTax, true) ∷ (one, true) ∷ (long, false)
    ∷ (add one one, true) ∷ (add one long, false) ∷ (add long one, false) ∷ (sub one long, false)
    ∷ (sub long one, false) ∷ (mul one long, false) ∷ (mul long one, false) ∷ [])
    × Gives measure_is_spelled ((count, true) ∷ (summed one, true) ∷ (summed long, false)
    ∷ (least long, false) ∷ (greatest long, false) ∷ [])
unfolding has_few_digits is_printable_text
plans_spelled = (refl, refl, refl)

-- what a plan keeps; that plans keep it, each plan of a query shows
module _ (p : Plan) where
  sound : IsSoundPlan p → (list_all (λ j. is_foreign j.foreign j.key) p.joins ≡ true)
      × (are_distinct p.joins ≡ true) × (list_all (condition_is_sound p.joins) p.conjuncts ≡ true)
      × (list_all (λ c. in_scope p.joins (table_of c)) p.keys ≡ true)
      × (list_all (measure_is_sound p.joins) p.measures ≡ true)
      × (length p.names ≡ length p.measures)
      × (list_all (is_group_column (length p.keys) (length p.measures)) p.items ≡ true)
      × (1 ≤ length p.items)
      × (list_all (λ s. is_group_column (length p.keys) (length p.measures) s.column) p.sorts
      ≡ true)
  sound s =
      (s.joins, s.distinct, s.conjuncts, s.keys, s.measures, s.names, s.items, s.shown, s.sorts)

  within : IsPlanWithinLimits p → (length p.joins ≤ 4)
      × (sum_by comparisons_of p.conjuncts ≤ 256) × (length p.keys ≤ 6) × (length p.measures ≤ 8)
      × (sum_by measure_operands p.measures ≤ 512) × (length p.items ≤ 16) × (length p.sorts ≤ 16)
  within w = (w.joins, w.comparisons, w.keys, w.measures, w.operands, w.items, w.sorts)

  spelled : IsSpelledPlan p → (list_all is_name p.names ≡ true)
      × (list_all condition_is_spelled p.conjuncts ≡ true)
      × (list_all measure_is_spelled p.measures ≡ true)
  spelled s = (s.names, s.conjuncts, s.measures)

  fits : (rows most : ℕ) (bounds : ColumnId → Range) → Fits rows most bounds p
      → (rows ≤ most) × IsTrue (list_all (measure_fits bounds) p.measures)
  fits rows most bounds f = (f.visits, f.nodes)

  fits_tables : (most : ℕ) → PlanFitsTables most sample p ≡ Fits 5 most (bounds_in sample) p
  fits_tables most = refl

query_fits : (most : ℕ) (q : Tree) → FitsTables most sample q
    → (5 ≤ most) × (list_all (measure_fits (range_named sample)) (measures_of q.items) ≡ true)
query_fits most q f = (f.visits, f.nodes)

-- ---- ranges: the ends of a product are of unlike ends, and a column that is read twice may have a
-- square below 0

abbrev bounds : ColumnId → Range
bounds LoRevenue = record { low = pos 495; high = pos 3000 }
bounds LoSupplycost = record { low = pos 100; high = pos 1200 }
bounds LoTax = record { low = neg_ℤ (pos 3); high = pos 4 }
bounds LoDiscount = record { low = neg_ℤ (pos 2); high = pos 5 }
bounds LoQuantity = only (pos (2 ^ 31))
bounds LoExtendedprice = only (pos (2 ^ 32))
bounds _ = only (pos 0)

abbrev minus : ℕ → Expression ColumnId
minus n = constant (neg_ℤ (pos n))

abbrev from_to : ℤ → ℤ → Range
from_to low high = record { low = low; high = high }

-- 2^63, a number too great
abbrev product : Expression ColumnId
product = mul (column LoQuantity) (column LoExtendedprice)

ranges : Gives (expression_range bounds) (
    (revenue, from_to (pos 495) (pos 3000)) ∷ (minus 7, from_to (neg_ℤ (pos 7)) (neg_ℤ (pos 7)))
    ∷ (add revenue tax, from_to (pos 492) (pos 3004))
    ∷ (sub revenue cost, from_to (neg_ℤ (pos 705)) (pos 2900))
    ∷ (mul tax discount, from_to (neg_ℤ (pos 15)) (pos 20))
    ∷ (mul tax tax, from_to (neg_ℤ (pos 12)) (pos 16))
    ∷ (sub (mul tax discount) (add cost (minus 100)), from_to (neg_ℤ (pos 1115)) (pos 20))
    ∷ (add product (minus 1), only (pos 9223372036854775807)) ∷ [])
ranges = refl

-- each operator at the greatest number, and one more; and at the least, and one less; and where the
-- whole fits, and a product in it doesn't
abbrev half : ℤ
half = pos (2 ^ 62)

nodes : Gives (nodes_fit bounds) (
    (add (constant half) (constant (pos 4611686018427387903)), true)
    ∷ (add (constant half) (constant half), false)
    ∷ (sub (constant (neg_ℤ half)) (constant half), true)
    ∷ (sub (constant (neg_ℤ half)) (constant (pos 4611686018427387905)), false)
    ∷ (mul (column LoQuantity) (minus 4294967296), true) ∷ (product, false)
    ∷ (constant (neg_ℤ (pos 9223372036854775808)), true)
    ∷ (constant (neg_ℤ (pos 9223372036854775809)), false)
    ∷ (add product (minus 1), false) ∷ (add (minus 1) product, false)
    ∷ (sub product (constant (pos 1)), false) ∷ (sub (constant (pos 0)) product, false)
    ∷ (mul product (constant (pos 0)), false) ∷ (mul (constant (pos 0)) product, false) ∷ [])
    × Gives (λ z. nodes_fit (λ c. only z) tax)
    ((pos 9223372036854775807, true) ∷ (pos 9223372036854775808, false) ∷ [])
    × Gives (measure_fits bounds) (
    (count, true) ∷ (summed product, false) ∷ (least product, false) ∷ (greatest product, false)
    ∷ (summed revenue, true) ∷ (least revenue, true) ∷ (greatest revenue, true) ∷ [])
unfolding is_i64
nodes = (refl, refl, refl)

abbrev called : List ℕ → Name
called word = record { text = word; offset = 0 }

-- no line has this profit or that: each end is of two lines
bounds_of_the_sample : Gives (bounds_in sample) (
    (LoExtendedprice, from_to (pos 500) (pos 3000)) ∷ (LoDiscount, from_to (pos 0) (pos 10))
    ∷ (DYear, from_to (pos 1993) (pos 1997)) ∷ (PSize, from_to (pos 1) (pos 21)) ∷ [])
    × (expression_range (bounds_in sample) (sub revenue cost)
    ≡ from_to (neg_ℤ (pos 705)) (pos 2900))
    × Gives (λ word. range_named sample (called word)) (
    (codes "lo_discount", from_to (pos 0) (pos 10)) ∷ (codes "d_year", from_to (pos 1993) (pos 1997))
    ∷ (codes "discount", from_to (pos 0) (pos 0)) ∷ [])
unfolding column_of columns_of position_of pieces greatest_number least_number numbers_at
    column_called
bounds_of_the_sample = (refl, refl, refl)
