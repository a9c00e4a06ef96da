-- The columns of each table, in order, and which of them hold numbers, as lines with bars.
use Rattle.std.{proofs.Common.{◌≡◌, ℕ, Bool, true, false, List, [], ◌∷◌, refl}, specs.Prelude.{codes, filter, map}}
use Rattle.star_schema.specs.{declared.table.TableId.TheVariants.{Customer, Date, Lineorder, Part, Supplier}, Schema.{column_name, column_of, columns_of, kind_of, table_name}, declared.column.Kind.Kind, declared.column.TheConstants.COLUMNS, declared.table.TableId.TableId, Records.{fields_of, pieces}}
use Rattle.star_schema.specs.declared.column.Kind.TheVariants as kind

abbrev holds_numbers : Kind → Bool
holds_numbers kind.Number = true
holds_numbers kind.Text = false

-- the columns of a table, and those of them that hold numbers
abbrev HasColumns : TableId → (all numbers : List ℕ) → Type 0
HasColumns t all numbers = (map column_name (columns_of t) ≡ fields_of all)
    × (map column_name (filter (λ c. holds_numbers (kind_of c)) (columns_of t)) ≡ fields_of numbers)

the_tables : map table_name (Date ∷ Customer ∷ Supplier ∷ Part ∷ Lineorder ∷ [])
    ≡ fields_of (codes "date|customer|supplier|part|lineorder")
unfolding table_name pieces
the_tables = refl

-- the order of all columns, which a report of bounds and a refusal list them in
all_columns : map column_name COLUMNS
    ≡ fields_of
    (codes
    "d_datekey|d_date|d_dayofweek|d_month|d_year|d_yearmonthnum|d_yearmonth|d_daynuminweek|d_daynuminmonth|d_daynuminyear|d_monthnuminyear|d_weeknuminyear|d_sellingseason|d_lastdayinweekfl|d_lastdayinmonthfl|d_holidayfl|d_weekdayfl|c_custkey|c_name|c_address|c_city|c_nation|c_region|c_phone|c_mktsegment|s_suppkey|s_name|s_address|s_city|s_nation|s_region|s_phone|p_partkey|p_name|p_mfgr|p_category|p_brand1|p_color|p_type|p_size|p_container|lo_orderkey|lo_linenumber|lo_custkey|lo_partkey|lo_suppkey|lo_orderdate|lo_orderpriority|lo_shippriority|lo_quantity|lo_extendedprice|lo_ordtotalprice|lo_discount|lo_revenue|lo_supplycost|lo_tax|lo_commitdate|lo_shipmode")
unfolding pieces column_of
all_columns = refl

their_columns :
    HasColumns Date
    (codes
    "d_datekey|d_date|d_dayofweek|d_month|d_year|d_yearmonthnum|d_yearmonth|d_daynuminweek|d_daynuminmonth|d_daynuminyear|d_monthnuminyear|d_weeknuminyear|d_sellingseason|d_lastdayinweekfl|d_lastdayinmonthfl|d_holidayfl|d_weekdayfl")
    (codes
    "d_datekey|d_year|d_yearmonthnum|d_daynuminweek|d_daynuminmonth|d_daynuminyear|d_monthnuminyear|d_weeknuminyear|d_lastdayinweekfl|d_lastdayinmonthfl|d_holidayfl|d_weekdayfl")
    × HasColumns Customer
    (codes "c_custkey|c_name|c_address|c_city|c_nation|c_region|c_phone|c_mktsegment")
    (codes "c_custkey")
    × HasColumns Supplier (codes "s_suppkey|s_name|s_address|s_city|s_nation|s_region|s_phone")
    (codes "s_suppkey")
    × HasColumns Part
    (codes "p_partkey|p_name|p_mfgr|p_category|p_brand1|p_color|p_type|p_size|p_container")
    (codes "p_partkey|p_size")
    × HasColumns Lineorder
    (codes
    "lo_orderkey|lo_linenumber|lo_custkey|lo_partkey|lo_suppkey|lo_orderdate|lo_orderpriority|lo_shippriority|lo_quantity|lo_extendedprice|lo_ordtotalprice|lo_discount|lo_revenue|lo_supplycost|lo_tax|lo_commitdate|lo_shipmode")
    (codes
    "lo_orderkey|lo_linenumber|lo_custkey|lo_partkey|lo_suppkey|lo_orderdate|lo_quantity|lo_extendedprice|lo_ordtotalprice|lo_discount|lo_revenue|lo_supplycost|lo_tax|lo_commitdate")
unfolding pieces columns_of column_of
their_columns = ((refl, refl), (refl, refl), (refl, refl), (refl, refl), (refl, refl))
