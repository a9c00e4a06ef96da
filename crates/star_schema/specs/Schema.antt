-- The five tables, their columns and keys (Star Schema Benchmark, revision 3; the lists of columns
-- are this project's profile).
use Rattle.std.specs.Prelude.{ℕ, List, Bool, true, false, Option, Some, None, codes, filter, length, map, take}
use denote.Enum.Declared.{tag_of}
use Rattle.star_schema.specs.{declared.table.TableId.TableId, declared.table.Key.Key, declared.table.Key.TheVariants.{One, Two}, declared.column.Kind.Kind, declared.column.ColumnId.ColumnId, declared.column.TheConstants.COLUMNS, declared.column.ColumnId.TheVariants.{DDatekey, DDate, DDayofweek, DMonth, DYear, DYearmonthnum, DYearmonth, DDaynuminweek, DDaynuminmonth, DDaynuminyear, DMonthnuminyear, DWeeknuminyear, DSellingseason, DLastdayinweekfl, DLastdayinmonthfl, DHolidayfl, DWeekdayfl, CCustkey, CName, CAddress, CCity, CNation, CRegion, CPhone, CMktsegment, SSuppkey, SName, SAddress, SCity, SNation, SRegion, SPhone, PPartkey, PName, PMfgr, PCategory, PBrand1, PColor, PType, PSize, PContainer, LoOrderkey, LoLinenumber, LoCustkey, LoPartkey, LoSuppkey, LoOrderdate, LoOrderpriority, LoShippriority, LoQuantity, LoExtendedprice, LoOrdtotalprice, LoDiscount, LoRevenue, LoSupplycost, LoTax, LoCommitdate, LoShipmode}, contracts.column.ColumnId.the_type}
use Rattle.star_schema.specs.declared.table.TableId.TheVariants as table
use Rattle.star_schema.specs.declared.column.Kind.TheVariants as kind

unfoldable pub table_name : TableId → List ℕ
table_name table.Date = codes "date"
table_name table.Customer = codes "customer"
table_name table.Supplier = codes "supplier"
table_name table.Part = codes "part"
table_name table.Lineorder = codes "lineorder"

-- a column of the schema: its name, its table, the type of its values, and the table whose key it
-- refers to
pub record Column : Type 0 where
  pub name : List ℕ
  pub table : TableId
  pub kind : Kind
  pub references : Option TableId

abbrev pub number : List ℕ → TableId → Column
number n t = record { name = n; table = t; kind = kind.Number; references = None }

abbrev pub text : List ℕ → TableId → Column
text n t = record { name = n; table = t; kind = kind.Text; references = None }

abbrev pub referring : List ℕ → TableId → TableId → Column
referring n t u = record { name = n; table = t; kind = kind.Number; references = Some u }

unfoldable pub column_of : ColumnId → Column
column_of DDatekey = number (codes "d_datekey") table.Date
column_of DDate = text (codes "d_date") table.Date
column_of DDayofweek = text (codes "d_dayofweek") table.Date
column_of DMonth = text (codes "d_month") table.Date
column_of DYear = number (codes "d_year") table.Date
column_of DYearmonthnum = number (codes "d_yearmonthnum") table.Date
column_of DYearmonth = text (codes "d_yearmonth") table.Date
column_of DDaynuminweek = number (codes "d_daynuminweek") table.Date
column_of DDaynuminmonth = number (codes "d_daynuminmonth") table.Date
column_of DDaynuminyear = number (codes "d_daynuminyear") table.Date
column_of DMonthnuminyear = number (codes "d_monthnuminyear") table.Date
column_of DWeeknuminyear = number (codes "d_weeknuminyear") table.Date
column_of DSellingseason = text (codes "d_sellingseason") table.Date
column_of DLastdayinweekfl = number (codes "d_lastdayinweekfl") table.Date
column_of DLastdayinmonthfl = number (codes "d_lastdayinmonthfl") table.Date
column_of DHolidayfl = number (codes "d_holidayfl") table.Date
column_of DWeekdayfl = number (codes "d_weekdayfl") table.Date
column_of CCustkey = number (codes "c_custkey") table.Customer
column_of CName = text (codes "c_name") table.Customer
column_of CAddress = text (codes "c_address") table.Customer
column_of CCity = text (codes "c_city") table.Customer
column_of CNation = text (codes "c_nation") table.Customer
column_of CRegion = text (codes "c_region") table.Customer
column_of CPhone = text (codes "c_phone") table.Customer
column_of CMktsegment = text (codes "c_mktsegment") table.Customer
column_of SSuppkey = number (codes "s_suppkey") table.Supplier
column_of SName = text (codes "s_name") table.Supplier
column_of SAddress = text (codes "s_address") table.Supplier
column_of SCity = text (codes "s_city") table.Supplier
column_of SNation = text (codes "s_nation") table.Supplier
column_of SRegion = text (codes "s_region") table.Supplier
column_of SPhone = text (codes "s_phone") table.Supplier
column_of PPartkey = number (codes "p_partkey") table.Part
column_of PName = text (codes "p_name") table.Part
column_of PMfgr = text (codes "p_mfgr") table.Part
column_of PCategory = text (codes "p_category") table.Part
column_of PBrand1 = text (codes "p_brand1") table.Part
column_of PColor = text (codes "p_color") table.Part
column_of PType = text (codes "p_type") table.Part
column_of PSize = number (codes "p_size") table.Part
column_of PContainer = text (codes "p_container") table.Part
column_of LoOrderkey = number (codes "lo_orderkey") table.Lineorder
column_of LoLinenumber = number (codes "lo_linenumber") table.Lineorder
column_of LoCustkey = referring (codes "lo_custkey") table.Lineorder table.Customer
column_of LoPartkey = referring (codes "lo_partkey") table.Lineorder table.Part
column_of LoSuppkey = referring (codes "lo_suppkey") table.Lineorder table.Supplier
column_of LoOrderdate = referring (codes "lo_orderdate") table.Lineorder table.Date
column_of LoOrderpriority = text (codes "lo_orderpriority") table.Lineorder
column_of LoShippriority = text (codes "lo_shippriority") table.Lineorder
column_of LoQuantity = number (codes "lo_quantity") table.Lineorder
column_of LoExtendedprice = number (codes "lo_extendedprice") table.Lineorder
column_of LoOrdtotalprice = number (codes "lo_ordtotalprice") table.Lineorder
column_of LoDiscount = number (codes "lo_discount") table.Lineorder
column_of LoRevenue = number (codes "lo_revenue") table.Lineorder
column_of LoSupplycost = number (codes "lo_supplycost") table.Lineorder
column_of LoTax = number (codes "lo_tax") table.Lineorder
column_of LoCommitdate = referring (codes "lo_commitdate") table.Lineorder table.Date
column_of LoShipmode = text (codes "lo_shipmode") table.Lineorder

abbrev pub column_name : ColumnId → List ℕ
column_name c = (column_of c).name

abbrev pub table_of : ColumnId → TableId
table_of c = (column_of c).table

abbrev pub kind_of : ColumnId → Kind
kind_of c = (column_of c).kind

-- the table whose key the column holds, if it is a foreign key
abbrev pub references : ColumnId → Option TableId
references c = (column_of c).references

-- whether two tables are equal
abbrev pub is_table : TableId → TableId → Bool
is_table table.Date table.Date = true
is_table table.Customer table.Customer = true
is_table table.Supplier table.Supplier = true
is_table table.Part table.Part = true
is_table table.Lineorder table.Lineorder = true
is_table _ _ = false

-- the columns of a table, in the order of all columns
unfoldable pub columns_of : TableId → List ColumnId
columns_of t = filter (λ c. is_table t (table_of c)) COLUMNS

abbrev pub width_of : TableId → ℕ
width_of t = length (columns_of t)

-- the types of a table's columns, in order
abbrev pub kinds_of : TableId → List Kind
kinds_of t = map kind_of (columns_of t)

-- the number of columns before this one, over all tables
abbrev pub index_of : ColumnId → ℕ
index_of c = tag_of the_type c

-- the number of columns before this one in its table
unfoldable pub position_of : ColumnId → ℕ
position_of c = length (filter (λ d. is_table (table_of c) (table_of d)) (take (index_of c) COLUMNS))

-- the columns whose values identify a row of a table
abbrev pub key_of : TableId → Key
key_of table.Date = One DDatekey
key_of table.Customer = One CCustkey
key_of table.Supplier = One SSuppkey
key_of table.Part = One PPartkey
key_of table.Lineorder = Two LoOrderkey LoLinenumber
