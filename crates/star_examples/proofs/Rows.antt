-- Which rows a condition holds of, and which rows a query selects, by its own words; what they add
-- to their groups.
use Rattle.std.{proofs.Common.{◌≡◌, ℕ, Bool, true, false, List, [], ◌∷◌, Some, refl}, specs.Prelude.{pos, neg_ℤ, codes, map}}
use Rattle.star_common.proofs.Tables.{Gives, Gives2}
use Rattle.star_schema.specs.{declared.table.TableId.TheVariants.{Date, Lineorder, Supplier}, declared.column.ColumnId.ColumnId, declared.column.ColumnId.TheVariants.{DYear, LoQuantity, LoShipmode, SSuppkey}, declared.group.Shape.TheVariants.Plain, declared.group.Aggregate.TheVariants.{Count, Sum, Min, Max}, Records.pieces, Schema.{column_of, columns_of, position_of, table_name}, Tables.{Value, row_of}}
use Rattle.star_query.specs.{declared.token.Relation.TheVariants.{Equal, Unequal, Less, AtMost, Greater, AtLeast}, Tree.{Condition, Name, Test, Tree, add, and, constant, count, mul, not, or, sub}}
use Rattle.star_plan.specs.{Meaning.{Joined, RowCondition, aggregate_of, holds, joined_value, measured, number_with, only_row}, Names.{column_called, table_called}}
use Rattle.star_query_meaning.specs.Rows.{is_true, product, selected, tables_of, value_named}
use Rattle.star_compile_laws.proofs.PlanWords.{compare, between, summed, least, greatest}
use Rattle.star_examples.proofs.Sample.{number, below_zero, text, sample, revenue, cost, discount}
use Rattle.star_schema.specs.Tables as of_table
use Rattle.star_examples.proofs.QueryTests as words

-- ---- which rows a condition holds of

-- a line of lineorder with this quantity and this mode
abbrev line : Value → Value → Joined
line quantity mode =
    only_row Lineorder
    (number 1 ∷ number 1 ∷ number 1 ∷ number 1 ∷ number 2 ∷ number 19930210 ∷ text (codes "2-HIGH")
    ∷ text (codes "0") ∷ quantity ∷ number 1000 ∷ number 3000
    ∷ number 2 ∷ number 980 ∷ number 600 ∷ number 2 ∷ number 19940105 ∷ mode ∷ [])

-- for which of these quantities, or modes, a condition holds
abbrev of_quantities : List Value → RowCondition → List Bool
of_quantities values c = map (λ v. holds c (line v (text (codes "MAIL")))) values

abbrev of_modes : List (List ℕ) → RowCondition → List Bool
of_modes modes c = map (λ m. holds c (line (number 10) (text m))) modes

-- at less, equal and greater; and of texts by their bytes: one that goes on is greater, as is a
-- small letter
relations : Gives (λ s. of_quantities (number 9 ∷ number 10 ∷ number 11 ∷ [])
    (compare LoQuantity s (number 10))) (
    (Equal, false ∷ true ∷ false ∷ []) ∷ (Unequal, true ∷ false ∷ true ∷ [])
    ∷ (Less, true ∷ false ∷ false ∷ []) ∷ (AtMost, true ∷ true ∷ false ∷ [])
    ∷ (Greater, false ∷ false ∷ true ∷ []) ∷ (AtLeast, false ∷ true ∷ true ∷ []) ∷ [])
    × Gives (λ s. of_modes (codes "RAI" ∷ codes "RAIL" ∷ codes "RAIL2" ∷ codes "R" ∷ codes "SHIP"
    ∷ codes "Rail" ∷ []) (compare LoShipmode s (text (codes "RAIL")))) (
    (Equal, false ∷ true ∷ false ∷ false ∷ false ∷ false ∷ [])
    ∷ (Unequal, true ∷ false ∷ true ∷ true ∷ true ∷ true ∷ [])
    ∷ (Less, true ∷ false ∷ false ∷ true ∷ false ∷ false ∷ [])
    ∷ (AtMost, true ∷ true ∷ false ∷ true ∷ false ∷ false ∷ [])
    ∷ (Greater, false ∷ false ∷ true ∷ false ∷ true ∷ true ∷ [])
    ∷ (AtLeast, false ∷ true ∷ true ∷ false ∷ true ∷ true ∷ []) ∷ [])
unfolding column_of position_of
relations = (refl, refl)

-- below 0 by value, digits as bytes; between two with both, and nothing from the greater to the
-- lesser
ends : Gives2 of_quantities ((
  below_zero 11 ∷ below_zero 10 ∷ below_zero 9 ∷ number 0 ∷ number 11 ∷ [],
  compare LoQuantity Less (below_zero 10),
  true ∷ false ∷ false ∷ false ∷ false ∷ [],
)
    ∷ (
      number 0 ∷ number 1 ∷ number 2 ∷ number 3 ∷ number 4 ∷ [],
      between LoQuantity (number 1) (number 3),
      false ∷ true ∷ true ∷ true ∷ false ∷ [],
    )
    ∷ (
      number 0 ∷ number 1 ∷ number 2 ∷ number 3 ∷ number 4 ∷ [],
      between LoQuantity (number 3) (number 1),
      false ∷ false ∷ false ∷ false ∷ false ∷ [],
    ) ∷ [])
    × Gives2 of_modes (
    (codes "10" ∷ codes "9" ∷ [], compare LoShipmode Less (text (codes "9")), true ∷ false ∷ [])
    ∷ (
      codes "MFGR#222" ∷ codes "MFGR#2221" ∷ codes "MFGR#2224" ∷ codes "MFGR#2228"
          ∷ codes "MFGR#22280" ∷ [],
      between LoShipmode (text (codes "MFGR#2221")) (text (codes "MFGR#2228")),
      false ∷ true ∷ true ∷ true ∷ false ∷ [],
    ) ∷ [])
unfolding column_of position_of
ends = (refl, refl)

abbrev yes : RowCondition
yes = compare LoQuantity Equal (number 10)

abbrev never : RowCondition
never = compare LoQuantity Equal (number 11)

conditions : Gives (λ c. holds c (line (number 10) (text (codes "MAIL")))) (
    (or yes yes, true) ∷ (or yes never, true) ∷ (or never yes, true) ∷ (or never never, false)
    ∷ (and yes yes, true) ∷ (and yes never, false) ∷ (and never yes, false)
    ∷ (and never never, false) ∷ (not yes, false) ∷ (not never, true) ∷ (not (not yes), true) ∷ [])
unfolding column_of position_of
conditions = refl

-- ---- expressions and aggregates, of a line with the revenue 980, the cost 600 and the discount 2

abbrev mail : Joined
mail = only_row Lineorder
    (row_of Lineorder (codes "1|1|1|1|2|19930210|2-HIGH|0|10|1000|3000|2|980|600|2|19940105|MAIL|"))

expressions : Gives (number_with (λ c. joined_value c mail)) (
    (revenue, pos 980) ∷ (constant (neg_ℤ (pos 3)), neg_ℤ (pos 3)) ∷ (add revenue cost, pos 1580)
    ∷ (sub revenue cost, pos 380) ∷ (sub cost revenue, neg_ℤ (pos 380))
    ∷ (mul revenue cost, pos 588000) ∷ (mul (constant (neg_ℤ (pos 3))) discount, neg_ℤ (pos 6))
    ∷ (sub (sub revenue cost) discount, pos 378) ∷ (sub revenue (sub cost discount), pos 382)
    ∷ (mul (add revenue cost) discount, pos 3160) ∷ [])
    × Gives (measured (λ c. joined_value c mail)) (
    (count, pos 1) ∷ (summed revenue, pos 980) ∷ (least cost, pos 600)
    ∷ (greatest (sub revenue cost), pos 380) ∷ [])
    × Gives (aggregate_of {C = ColumnId})
    ((count, Count) ∷ (summed cost, Sum) ∷ (least cost, Min) ∷ (greatest cost, Max) ∷ [])
unfolding column_of columns_of position_of pieces
expressions = (refl, refl, refl)

-- ---- by a query's own words: the product of FROM's tables, every row of the first with every row
-- of the second, filtered by WHERE; the rows of a plan are the same by a law

abbrev seen : List ColumnId → List Joined → List (List Value)
seen columns rows = map (λ row. map (λ c. joined_value c row) columns) rows

abbrev n : ℕ → ℕ → List Value
n a b = number a ∷ number b ∷ []

abbrev called : List ℕ → Name
called word = record { text = word; offset = 0 }

products : Gives (λ tables. seen (SSuppkey ∷ DYear ∷ []) (product sample tables)) ((
  Supplier ∷ Date ∷ [],
  n 1 1993 ∷ n 1 1994 ∷ n 1 1997 ∷ n 2 1993 ∷ n 2 1994 ∷ n 2 1997 ∷ [],
)
    ∷ (
      Date ∷ Supplier ∷ [],
      n 1 1993 ∷ n 2 1993 ∷ n 1 1994 ∷ n 2 1994 ∷ n 1 1997 ∷ n 2 1997 ∷ [],
    ) ∷ [])
    × (tables_of (called (codes "supplier") ∷ called (codes "date") ∷ []) ≡ Supplier ∷ Date ∷ [])
unfolding column_of columns_of position_of pieces table_called table_name
products = (refl, refl)

abbrev asked : Condition Test → Tree
asked condition = record {
  items = [];
  tables = called (codes "lineorder") ∷ called (codes "supplier") ∷ [];
  condition = Some condition;
  grouping = record { shape = Plain; columns = [] };
  keys = [];
}

abbrev supplied : Condition Test
supplied = words.pair (called (codes "lo_suppkey")) (called (codes "s_suppkey"))

-- more than 20 pieces: three of the five lines
abbrev many : Condition Test
many = words.compare (called (codes "lo_quantity")) Greater (of_table.Number (pos 20))

-- with no comparison of two columns each line is there with each supplier; such a comparison is one
-- of WHERE's conditions like another
filtered : Gives (λ c. seen (LoQuantity ∷ SSuppkey ∷ []) (selected sample (asked c))) (
    (many, n 30 1 ∷ n 30 2 ∷ n 24 1 ∷ n 24 2 ∷ n 50 1 ∷ n 50 2 ∷ [])
    ∷ (and supplied many, n 30 1 ∷ n 24 2 ∷ n 50 2 ∷ [])
    ∷ (
      and many (words.pair (called (codes "s_suppkey")) (called (codes "lo_suppkey"))),
      n 30 1 ∷ n 24 2 ∷ n 50 2 ∷ [],
    )
    ∷ (and (not supplied) many, n 30 2 ∷ n 24 1 ∷ n 50 1 ∷ [])
    ∷ (or supplied (not many), n 10 1 ∷ n 10 2 ∷ n 30 1 ∷ n 24 2 ∷ n 50 2 ∷ n 1 1 ∷ n 1 2 ∷ [])
    ∷ [])
unfolding column_of columns_of position_of pieces column_called table_called table_name
filtered = refl

abbrev discounted : ℕ → ℕ → Bool
discounted from upto = is_true (words.between (called (codes "lo_discount")) (of_table.Number (pos from))
    (of_table.Number (pos upto))) mail

abbrev of_mode : List ℕ → List ℕ → Bool
of_mode from upto = is_true (words.between (called (codes "lo_shipmode")) (of_table.Text from)
    (of_table.Text upto)) mail

-- both ends, below and above them, and an end that is above the other
betweens : Gives2 discounted (
    (2, 2, true) ∷ (1, 2, true) ∷ (2, 3, true) ∷ (3, 4, false) ∷ (0, 1, false) ∷ (3, 1, false) ∷ [])
    × Gives2 of_mode (
    (codes "MAIL", codes "MAIL", true) ∷ (codes "A", codes "MAIL", true)
    ∷ (codes "MAIL", codes "Z", true) ∷ (codes "MAILS", codes "Z", false)
    ∷ (codes "A", codes "MAI", false) ∷ [])
    × (value_named (called (codes "discount")) mail ≡ of_table.Number (pos 0))
    × (measured (λ w. value_named w mail) count ≡ pos 1)
unfolding column_of columns_of position_of pieces column_called
betweens = (refl, refl, refl, refl)
