-- A small star: five lines of orders, and what they refer to; and the joins and columns that worked
-- queries over it name.
use Rattle.std.{proofs.Common.{ℕ, List, [], ◌∷◌, ◌++◌, drop, take}, specs.Prelude.{pos, neg_ℤ, codes, flat_map, map}}
use Rattle.star_schema.specs.{declared.table.TableId.TheVariants.{Date, Customer, Supplier, Part, Lineorder}, declared.column.ColumnId.TheVariants.{DDatekey, PPartkey, LoPartkey, LoOrderdate, LoCommitdate, LoRevenue, LoSupplycost, LoTax, LoDiscount}, declared.table.TableId.TableId, Database.{Database, TableTexts}, Tables.{Value, Number, Text, row_of}, declared.column.ColumnId.ColumnId}
use Rattle.star_plan.specs.{declared.tree.Join.Join, Meaning.Tables}
use Rattle.star_query.specs.Tree.{Expression, column}

abbrev pub number : ℕ → Value
number n = Number (pos n)

abbrev pub below_zero : ℕ → Value
below_zero n = Number (neg_ℤ (pos n))

abbrev pub text : List ℕ → Value
text bytes = Text bytes

-- the records of each table
abbrev pub records : TableId → List (List ℕ)
records Date =
    codes "19930210|February 10, 1993|Wednesday|February|1993|199302|Feb1993|4|10|41|2|6|Winter|0|0|0|1|"
    ∷ codes "19940105|January 5, 1994|Wednesday|January|1994|199401|Jan1994|4|5|5|1|1|Winter|0|0|0|1|"
    ∷ codes "19971215|December 15, 1997|Monday|December|1997|199712|Dec1997|2|15|349|12|50|Christmas|0|0|0|1|"
    ∷ []
records Customer =
    codes "1|Customer#000000001|a1|UNITED KI1|UNITED KINGDOM|EUROPE|33-111-111-1111|BUILDING|"
    ∷ codes "2|Customer#000000002|a2|CHINA    3|CHINA|ASIA|28-222-222-2222|MACHINERY|"
    ∷ codes "3|Customer#000000003|a3|UNITED ST0|UNITED STATES|AMERICA|34-333-333-3333|AUTOMOBILE|"
    ∷ []
records Supplier =
    codes "1|Supplier#000000001|b1|UNITED KI5|UNITED KINGDOM|EUROPE|33-444-444-4444|"
    ∷ codes "2|Supplier#000000002|b2|UNITED ST4|UNITED STATES|AMERICA|34-555-555-5555|"
    ∷ []
records Part =
    codes "1|lace spring|MFGR#1|MFGR#12|MFGR#121|lace|SMALL PLATED TIN|7|JUMBO PKG|"
    ∷ codes "2|rose cream|MFGR#2|MFGR#22|MFGR#2221|rose|LARGE BRUSHED TIN|1|LG CASE|"
    ∷ codes "3|mint blue|MFGR#1|MFGR#14|MFGR#1440|mint|PROMO PLATED TIN|21|SM BOX|"
    ∷ []
records Lineorder =
    codes "1|1|1|1|2|19930210|2-HIGH|0|10|1000|3000|2|980|600|2|19940105|MAIL|"
    ∷ codes "1|2|1|2|1|19930210|2-HIGH|0|30|2000|3000|3|1940|1200|0|19940105|RAIL|"
    ∷ codes "2|1|2|1|2|19940105|5-LOW|0|24|500|500|1|495|700|4|19940105|SHIP|"
    ∷ codes "3|1|3|3|2|19971215|1-URGENT|0|50|3000|3700|0|3000|1000|8|19971215|TRUCK|"
    ∷ codes "3|2|1|2|1|19971215|1-URGENT|0|1|700|3700|10|630|100|1|19971215|AIR|"
    ∷ []

abbrev pub sample : Tables
sample t = map (row_of t) (records t)

-- ---- joins

abbrev pub by_order : Join
by_order = record { foreign = LoOrderdate; key = DDatekey }

abbrev pub by_commit : Join
by_commit = record { foreign = LoCommitdate; key = DDatekey }

abbrev pub of_part : Join
of_part = record { foreign = LoPartkey; key = PPartkey }

-- ---- expressions

abbrev pub revenue : Expression ColumnId
revenue = column LoRevenue

abbrev pub cost : Expression ColumnId
cost = column LoSupplycost

abbrev pub tax : Expression ColumnId
tax = column LoTax

abbrev pub discount : Expression ColumnId
discount = column LoDiscount

abbrev pub five : Database
five = record {
  date = sample Date;
  customer = sample Customer;
  supplier = sample Supplier;
  part = sample Part;
  lineorder = sample Lineorder;
}

-- the five files of the sample, lineorder's in two parts
abbrev pub lines : List (List ℕ) → List ℕ
lines records = flat_map (λ line. line ++ 10 ∷ []) records

abbrev pub sample_texts : TableTexts
sample_texts Lineorder = lines (take 2 (records Lineorder)) ∷ lines (drop 2 (records Lineorder))
    ∷ []
sample_texts t = lines (records t) ∷ []
