-- Plans of worked queries.
use Rattle.std.{proofs.Common.{ℕ, List, [], ◌∷◌}, specs.Prelude.{pos, negsuc, codes}}
use Rattle.star_schema.specs.{declared.column.ColumnId.ColumnId, declared.group.Direction.TheVariants.{Ascending, Descending}, declared.group.Shape.TheVariants.{Plain, Cube}, declared.group.GroupColumn.GroupColumn, declared.group.GroupColumn.TheVariants.{Key, Aggregate}, declared.group.SortKey.SortKey, declared.column.ColumnId.TheVariants.{CCity, CCustkey, CNation, CRegion, DDatekey, DMonth, DWeeknuminyear, DYear, DYearmonth, DYearmonthnum, LoCommitdate, LoCustkey, LoDiscount, LoExtendedprice, LoOrderdate, LoPartkey, LoQuantity, LoRevenue, LoShipmode, LoSuppkey, LoSupplycost, LoTax, PBrand1, PCategory, PMfgr, PPartkey, SCity, SNation, SRegion, SSuppkey}, Tables.{Value, Number, Text}}
use Rattle.star_query.specs.{declared.token.Relation.TheVariants.{Equal, Unequal, Less, AtMost, Greater, AtLeast}, Tree.{column, constant, add, sub, mul, or, and, not, count}}
use Rattle.star_plan.specs.{declared.tree.Join.Join, Meaning.Plan, Meaning.RowCondition}
use Rattle.star_compile_laws.proofs.PlanWords.{compare, between, summed, least, greatest}

abbrev number : ℕ → Value
number n = Number (pos n)

-- a column is a text
abbrev equals : ColumnId → List ℕ → RowCondition
equals c text = compare c Equal (Text text)

abbrev by_date : Join
by_date = record { foreign = LoOrderdate; key = DDatekey }

abbrev by_commit : Join
by_commit = record { foreign = LoCommitdate; key = DDatekey }

abbrev by_customer : Join
by_customer = record { foreign = LoCustkey; key = CCustkey }

abbrev by_supplier : Join
by_supplier = record { foreign = LoSuppkey; key = SSuppkey }

abbrev by_part : Join
by_part = record { foreign = LoPartkey; key = PPartkey }

abbrev ascending : GroupColumn → SortKey
ascending c = record { column = c; direction = Ascending }

abbrev descending : GroupColumn → SortKey
descending c = record { column = c; direction = Descending }

-- select sum(lo_extendedprice*lo_discount) as revenue from lineorder, date where lo_orderdate =
--   d_datekey and d_year = 1993 and lo_discount between 1 and 3 and lo_quantity < 25
abbrev pub q11 : Plan
q11 = record {
  joins = by_date ∷ [];
  conjuncts = compare DYear Equal (number 1993)
      ∷ between LoDiscount (number 1) (number 3)
      ∷ compare LoQuantity Less (number 25) ∷ [];
  shape = Plain;
  keys = [];
  measures = summed (mul (column LoExtendedprice) (column LoDiscount)) ∷ [];
  names = codes "revenue" ∷ [];
  items = Aggregate 0 ∷ [];
  sorts = [];
}

-- select sum(lo_extendedprice*lo_discount) as revenue from lineorder, date where lo_orderdate =
--   d_datekey and d_yearmonthnum = 199401 and lo_discount between 4 and 6 and lo_quantity
--   between 26 and 35
abbrev pub q12 : Plan
q12 = record q11 {
  conjuncts = compare DYearmonthnum Equal (number 199401)
      ∷ between LoDiscount (number 4) (number 6)
      ∷ between LoQuantity (number 26) (number 35) ∷ [];
}

-- select sum(lo_extendedprice*lo_discount) as revenue from lineorder, date where lo_orderdate =
--   d_datekey and d_weeknuminyear = 6 and d_year = 1994 and lo_discount between 5 and 7 and
--   lo_quantity between 26 and 35
abbrev pub q13 : Plan
q13 = record q11 {
  conjuncts = compare DWeeknuminyear Equal (number 6)
      ∷ compare DYear Equal (number 1994)
      ∷ between LoDiscount (number 5) (number 7)
      ∷ between LoQuantity (number 26) (number 35) ∷ [];
}

-- select sum(lo_revenue), d_year, p_brand1 from lineorder, date, part, supplier where
--   lo_orderdate = d_datekey and lo_partkey = p_partkey and lo_suppkey = s_suppkey and
--   p_category = 'MFGR#12' and s_region = 'AMERICA' group by d_year, p_brand1 order by d_year,
--   p_brand1
abbrev pub q21 : Plan
q21 = record {
  joins = by_date ∷ by_part ∷ by_supplier ∷ [];
  conjuncts = equals PCategory (codes "MFGR#12") ∷ equals SRegion (codes "AMERICA") ∷ [];
  shape = Plain;
  keys = DYear ∷ PBrand1 ∷ [];
  measures = summed (column LoRevenue) ∷ [];
  names = codes "sum1" ∷ [];
  items = Aggregate 0 ∷ Key 0 ∷ Key 1 ∷ [];
  sorts = ascending (Key 0) ∷ ascending (Key 1) ∷ [];
}

-- select sum(lo_revenue), d_year, p_brand1 from lineorder, date, part, supplier where
--   lo_orderdate = d_datekey and lo_partkey = p_partkey and lo_suppkey = s_suppkey and p_brand1
--   between 'MFGR#2221' and 'MFGR#2228' and s_region = 'ASIA' group by d_year, p_brand1 order
--   by d_year, p_brand1
abbrev pub q22 : Plan
q22 = record q21 {
  conjuncts = between PBrand1 (Text (codes "MFGR#2221")) (Text (codes "MFGR#2228"))
      ∷ equals SRegion (codes "ASIA") ∷ [];
}

-- select sum(lo_revenue), d_year, p_brand1 from lineorder, date, part, supplier where
--   lo_orderdate = d_datekey and lo_partkey = p_partkey and lo_suppkey = s_suppkey and p_brand1
--   = 'MFGR#2221' and s_region = 'EUROPE' group by d_year, p_brand1 order by d_year, p_brand1
abbrev pub q23 : Plan
q23 = record q21 {
  conjuncts = equals PBrand1 (codes "MFGR#2221") ∷ equals SRegion (codes "EUROPE") ∷ [];
}

-- select c_nation, s_nation, d_year, sum(lo_revenue) as revenue from customer, lineorder,
--   supplier, date where lo_custkey = c_custkey and lo_suppkey = s_suppkey and lo_orderdate =
--   d_datekey and c_region = 'ASIA' and s_region = 'ASIA' and d_year >= 1992 and d_year <= 1997
--   group by c_nation, s_nation, d_year order by d_year asc, revenue desc
abbrev pub q31 : Plan
q31 = record {
  joins = by_customer ∷ by_supplier ∷ by_date ∷ [];
  conjuncts = equals CRegion (codes "ASIA")
      ∷ equals SRegion (codes "ASIA")
      ∷ compare DYear AtLeast (number 1992)
      ∷ compare DYear AtMost (number 1997) ∷ [];
  shape = Plain;
  keys = CNation ∷ SNation ∷ DYear ∷ [];
  measures = summed (column LoRevenue) ∷ [];
  names = codes "revenue" ∷ [];
  items = Key 0 ∷ Key 1 ∷ Key 2 ∷ Aggregate 0 ∷ [];
  sorts = ascending (Key 2) ∷ descending (Aggregate 0) ∷ [];
}

-- select c_city, s_city, d_year, sum(lo_revenue) as revenue from customer, lineorder, supplier,
--   date where lo_custkey = c_custkey and lo_suppkey = s_suppkey and lo_orderdate = d_datekey
--   and c_nation = 'UNITED STATES' and s_nation = 'UNITED STATES' and d_year >= 1992 and d_year
--   <= 1997 group by c_city, s_city, d_year order by d_year asc, revenue desc
abbrev pub q32 : Plan
q32 = record q31 {
  conjuncts = equals CNation (codes "UNITED STATES")
      ∷ equals SNation (codes "UNITED STATES")
      ∷ compare DYear AtLeast (number 1992)
      ∷ compare DYear AtMost (number 1997) ∷ [];
  keys = CCity ∷ SCity ∷ DYear ∷ [];
}

-- select c_city, s_city, d_year, sum(lo_revenue) as revenue from customer, lineorder, supplier,
--   date where lo_custkey = c_custkey and lo_suppkey = s_suppkey and lo_orderdate = d_datekey
--   and (c_city = 'UNITED KI1' or c_city = 'UNITED KI5') and (s_city = 'UNITED KI1' or s_city =
--   'UNITED KI5') and d_year >= 1992 and d_year <= 1997 group by c_city, s_city, d_year order
--   by d_year asc, revenue desc
abbrev pub q33 : Plan
q33 = record q32 {
  conjuncts = or (equals CCity (codes "UNITED KI1")) (equals CCity (codes "UNITED KI5"))
      ∷ or (equals SCity (codes "UNITED KI1")) (equals SCity (codes "UNITED KI5"))
      ∷ compare DYear AtLeast (number 1992)
      ∷ compare DYear AtMost (number 1997) ∷ [];
}

-- select c_city, s_city, d_year, sum(lo_revenue) as revenue from customer, lineorder, supplier,
--   date where lo_custkey = c_custkey and lo_suppkey = s_suppkey and lo_orderdate = d_datekey
--   and (c_city = 'UNITED KI1' or c_city = 'UNITED KI5') and (s_city = 'UNITED KI1' or s_city =
--   'UNITED KI5') and d_yearmonth = 'Dec1997' group by c_city, s_city, d_year order by d_year
--   asc, revenue desc
abbrev pub q34 : Plan
q34 = record q32 {
  conjuncts = or (equals CCity (codes "UNITED KI1")) (equals CCity (codes "UNITED KI5"))
      ∷ or (equals SCity (codes "UNITED KI1")) (equals SCity (codes "UNITED KI5"))
      ∷ equals DYearmonth (codes "Dec1997") ∷ [];
}

-- select d_year, c_nation, sum(lo_revenue - lo_supplycost) as profit from date, customer,
--   supplier, part, lineorder where lo_custkey = c_custkey and lo_suppkey = s_suppkey and
--   lo_partkey = p_partkey and lo_orderdate = d_datekey and c_region = 'AMERICA' and s_region =
--   'AMERICA' and (p_mfgr = 'MFGR#1' or p_mfgr = 'MFGR#2') group by d_year, c_nation order by
--   d_year, c_nation
abbrev pub q41 : Plan
q41 = record {
  joins = by_customer ∷ by_supplier ∷ by_part ∷ by_date ∷ [];
  conjuncts = equals CRegion (codes "AMERICA")
      ∷ equals SRegion (codes "AMERICA")
      ∷ or (equals PMfgr (codes "MFGR#1")) (equals PMfgr (codes "MFGR#2")) ∷ [];
  shape = Plain;
  keys = DYear ∷ CNation ∷ [];
  measures = summed (sub (column LoRevenue) (column LoSupplycost)) ∷ [];
  names = codes "profit" ∷ [];
  items = Key 0 ∷ Key 1 ∷ Aggregate 0 ∷ [];
  sorts = ascending (Key 0) ∷ ascending (Key 1) ∷ [];
}

-- select d_year, s_nation, p_category, sum(lo_revenue - lo_supplycost) as profit from date,
--   customer, supplier, part, lineorder where lo_custkey = c_custkey and lo_suppkey = s_suppkey
--   and lo_partkey = p_partkey and lo_orderdate = d_datekey and c_region = 'AMERICA' and
--   s_region = 'AMERICA' and (d_year = 1997 or d_year = 1998) and (p_mfgr = 'MFGR#1' or p_mfgr
--   = 'MFGR#2') group by d_year, s_nation, p_category order by d_year, s_nation, p_category
abbrev pub q42 : Plan
q42 = record q41 {
  conjuncts = equals CRegion (codes "AMERICA")
      ∷ equals SRegion (codes "AMERICA")
      ∷ or (compare DYear Equal (number 1997)) (compare DYear Equal (number 1998))
      ∷ or (equals PMfgr (codes "MFGR#1")) (equals PMfgr (codes "MFGR#2")) ∷ [];
  keys = DYear ∷ SNation ∷ PCategory ∷ [];
  items = Key 0 ∷ Key 1 ∷ Key 2 ∷ Aggregate 0 ∷ [];
  sorts = ascending (Key 0) ∷ ascending (Key 1) ∷ ascending (Key 2) ∷ [];
}

-- select d_year, s_city, p_brand1, sum(lo_revenue - lo_supplycost) as profit from date,
--   customer, supplier, part, lineorder where lo_custkey = c_custkey and lo_suppkey = s_suppkey
--   and lo_partkey = p_partkey and lo_orderdate = d_datekey and c_region = 'AMERICA' and
--   s_nation = 'UNITED STATES' and (d_year = 1997 or d_year = 1998) and p_category = 'MFGR#14'
--   group by d_year, s_city, p_brand1 order by d_year, s_city, p_brand1
abbrev pub q43 : Plan
q43 = record q42 {
  conjuncts = equals CRegion (codes "AMERICA")
      ∷ equals SNation (codes "UNITED STATES")
      ∷ or (compare DYear Equal (number 1997)) (compare DYear Equal (number 1998))
      ∷ equals PCategory (codes "MFGR#14") ∷ [];
  keys = DYear ∷ SCity ∷ PBrand1 ∷ [];
}

-- select d_year, c_nation, sum(lo_revenue - lo_supplycost) as profit, count(*) as lines from
--   lineorder, customer, date, part where lo_custkey = c_custkey and lo_orderdate = d_datekey
--   and lo_partkey = p_partkey and (c_region = 'ASIA' or not p_mfgr <= 'MFGR#2') and d_year
--   between 1992 and 1997 group by cube (d_year, c_nation) order by profit desc, d_year
abbrev pub profits : Plan
profits = record {
  joins = by_customer ∷ by_date ∷ by_part ∷ [];
  conjuncts = or (equals CRegion (codes "ASIA"))
      (not (compare PMfgr AtMost (Text (codes "MFGR#2"))))
      ∷ between DYear (number 1992) (number 1997) ∷ [];
  shape = Cube;
  keys = DYear ∷ CNation ∷ [];
  measures = summed (sub (column LoRevenue) (column LoSupplycost)) ∷ count ∷ [];
  names = codes "profit" ∷ codes "lines" ∷ [];
  items = Key 0 ∷ Key 1 ∷ Aggregate 0 ∷ Aggregate 1 ∷ [];
  sorts = descending (Aggregate 0) ∷ ascending (Key 0) ∷ [];
}

-- select lo_shipmode, min(lo_tax + -2 * lo_discount) as lowest, max(lo_revenue), count(*) from
--   lineorder, customer, supplier, date where lo_commitdate = d_datekey and c_custkey =
--   lo_custkey and lo_suppkey = s_suppkey and lo_commitdate <> 19940105 and (lo_shipmode <>
--   'AIR' and lo_tax > 1 or d_year < 1995 and d_month >= 'M') and lo_tax >= 2 and s_city >
--   'O''B' and s_city < 'U' and d_month between 'A' and 'M' group by lo_shipmode order by
--   lo_shipmode desc
abbrev pub others : Plan
others = record {
  joins = by_commit ∷ by_customer ∷ by_supplier ∷ [];
  conjuncts = compare LoCommitdate Unequal (number 19940105)
      ∷ or
      (and (compare LoShipmode Unequal (Text (codes "AIR"))) (compare LoTax Greater (number 1)))
      (and (compare DYear Less (number 1995)) (compare DMonth AtLeast (Text (codes "M"))))
      ∷ compare LoTax AtLeast (number 2)
      ∷ compare SCity Greater (Text (codes "O'B"))
      ∷ compare SCity Less (Text (codes "U"))
      ∷ between DMonth (Text (codes "A")) (Text (codes "M")) ∷ [];
  shape = Plain;
  keys = LoShipmode ∷ [];
  measures = least (add (column LoTax) (mul (constant (negsuc 1)) (column LoDiscount)))
      ∷ greatest (column LoRevenue)
      ∷ count ∷ [];
  names = codes "lowest" ∷ codes "max2" ∷ codes "count3" ∷ [];
  items = Key 0 ∷ Aggregate 0 ∷ Aggregate 1 ∷ Aggregate 2 ∷ [];
  sorts = descending (Key 0) ∷ [];
}
