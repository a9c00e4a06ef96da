-- Which fault of a query's text comes first, and which of its names: the rows that no case shows.
use Rattle.std.{proofs.Common.{◌≡◌, ◌<◌, ℕ, zero, suc, List, [], ◌∷◌, ◌++◌, Option, Some, None, arith, length, refl}, specs.Prelude.{codes, replicate}, specs.Fmt.digits, specs.List.AllByRecursion}
use Rattle.star_common.{specs.First.first_answer, proofs.Tables.each_row}
use Rattle.star_schema.specs.Schema.{column_of, table_name}
use Rattle.star_query.{specs.declared.fault.QueryFault.TheVariants.{TooLong, BadCharacter, BadNumber, Unexpected, TooDeep, TooMany}, specs.declared.fault.QueryFault.QueryFault, specs.Private.Cut.{cut_from, reserved, reserved_words}, specs.Derives.{IsFirstQueryFault, Means}, specs.Symbols.spelling, specs.Tree.Tree, proofs.TextResults.{Says, TextResult, fault, holds, means, nothing, text_result}}
use Rattle.star_plan.specs.{declared.fault.PlanFault.TheVariants.{UnknownName, TableNotNamed, JoinTwice, NotAKeyPair, WrongKind, NotGrouped, UnknownOrderKey, DuplicateAlias}, declared.fault.PlanFault.PlanFault, Faults.plan_fault, Names.{column_called, has_name, table_called}, Naming.{function_word, has_text}}

-- ---- what is computed of a text holds of it

-- a text that means some query has no fault
abbrev HasFault : List ℕ → Option QueryFault → Type 0
HasFault bytes None = (tree : Tree) × Means bytes tree
HasFault bytes (Some f) = IsFirstQueryFault bytes f

abbrev HasNames : List ℕ → Option PlanFault → Type 0
HasNames bytes f = (tree : Tree) × Means bytes tree × (plan_fault tree ≡ f)

abbrev fault_in : TextResult → Option (Option QueryFault)
fault_in nothing = None
fault_in (means tree) = Some None
fault_in (fault f) = Some (Some f)

abbrev names_in : TextResult → Option (Option PlanFault)
names_in (means tree) = Some (plan_fault tree)
names_in _ = None

abbrev IfTold : {F : Type 0} → (List ℕ → F → Type 0) → List ℕ → Option F → Type 0
IfTold Has bytes None = Unit {0}
IfTold Has bytes (Some f) = Has bytes f

holds_of : (bytes : List ℕ) (t : TextResult) → Says bytes t
    → IfTold HasFault bytes (fault_in t) × IfTold HasNames bytes (names_in t)
holds_of bytes nothing is = (tt, tt)
holds_of bytes (means tree) is = ((tree, is), (tree, is, refl))
holds_of bytes (fault f) is = (is, tt)

-- a row: a text, and what is printed of it
abbrev says : {F : Type 0} → List ℕ → F → List ℕ × F
says bytes f = (bytes, f)

-- ---- its length, its tokens, the grammar and its limits

module _ (bytes : List ℕ) where
  not_too_long : length bytes ≡ 65536 → IsFirstQueryFault bytes TooLong → ⊥
  not_too_long e long = let over : 65536 < length bytes = long in omega (arith, e, over)

  too_long : length bytes ≡ 65537 → IsFirstQueryFault bytes TooLong
  too_long e = omega (arith, e)

-- some bytes, `n` times in a row
abbrev times : ℕ → List ℕ → List ℕ
times zero bytes = []
times (suc n) bytes = bytes ++ times n bytes

abbrev where_t : List ℕ
where_t = codes "select count(*) from t where "

-- a token that no query goes on with, too many nestings, too many of something, or no fault
abbrev at : ℕ → Option (Option QueryFault)
at index = Some (Some (Unexpected index))

abbrev deep : Option (Option QueryFault)
deep = Some (Some TooDeep)

abbrev many : Option (Option QueryFault)
many = Some (Some TooMany)

abbrev none : {F : Type 0} → Option (Option F)
none = Some None

abbrev faults : List (List ℕ × Option (Option QueryFault))
faults =
    -- the first bad token, before what the grammar says of the first one
    says (codes "from 1x !") (Some (Some (BadNumber 5)))
    ∷ says (codes "select ! 1x 'a") (Some (Some (BadCharacter 7)))
    ∷ says (codes "select count(*) from t; ;") (at 24)
    ∷ says (codes "select count(*) from t group by rollup(a, b order by a") (at 44)
    ∷ says (codes "select count(*) from t group by cube(a, b order by a") (at 42)
    ∷ says (codes "select count(*) from t order by a group by a") (at 34)
    ∷ says (codes "select sum(a + b from t") (at 17)
    ∷ says (where_t ++ times 32 (codes "not ") ++ codes "a = 1") none
    -- NOT and parentheses are counted together
    ∷ says (where_t ++ times 16 (codes "not (") ++ codes "(not a = 1)" ++ replicate 16 41) deep
    -- only what lies in one another is nested
    ∷ says (where_t ++ times 40 (codes "(a = 1) and ") ++ codes "not a = 1") none
    ∷ says (codes "select " ++ times 8 (codes "count(*), ") ++ codes "sum from t") many
    ∷ says (codes "select count(*) from t order by " ++ times 16 (codes "a, ") ++ codes "a a") many
    ∷ []

-- ---- names

abbrev lines : List ℕ
lines = codes "select count(*) from lineorder where "

abbrev dated : List ℕ
dated = codes "select count(*) from lineorder, date where "

abbrev of_name : (ℕ → PlanFault) → ℕ → Option (Option PlanFault)
of_name which index = Some (Some (which index))

abbrev names : List (List ℕ × Option (Option PlanFault))
names =
    -- a column's name is no table's
    says (codes "select count(*) from lineorder, lo_tax") (of_name UnknownName 32)
    -- names of columns, from the left
    ∷ says (codes "select date, count(*) from lineorder, date where lo_tax = d_datekey") (of_name
    UnknownName 7)
    ∷ says (codes "select sum(lo_tax + x - y), z from lineorder") (of_name UnknownName 20)
    ∷ says (codes "select max(x * y) from lineorder") (of_name UnknownName 11)
    ∷ says (lines ++ codes "lo_tax = 'a' and not d_year = 1 or x = y group by z") (of_name
    TableNotNamed 58)
    ∷ says (lines ++ codes "x = 1 or y = 1") (of_name UnknownName 37)
    ∷ says (lines ++ codes "d_year between 1 and 2") (of_name TableNotNamed 37)
    -- comparisons of two columns
    ∷ says (dated ++ codes "lo_tax = 1 and (d_datekey = lo_commitdate and lo_tax = 2)") none
    ∷ says (lines ++ codes "lo_orderdate = lo_orderkey") (of_name NotAKeyPair 37)
    ∷ says (codes "select count(*) from lineorder, date, customer where d_datekey = c_custkey")
    (of_name NotAKeyPair 53)
    ∷ says (codes "select count(*) from lineorder, date, part where lo_partkey = p_partkey and lo_orderdate = d_datekey and p_partkey = lo_partkey")
    (of_name JoinTwice 105)
    -- kinds
    ∷ says (codes "select count(*), max(lo_tax * (lo_tax - lo_shipmode)) from lineorder") (of_name
    WrongKind 40)
    ∷ says (lines ++ codes "lo_tax between 'a' and 1") (of_name WrongKind 37)
    ∷ says (lines ++ codes "lo_shipmode between 1 and 2") (of_name WrongKind 37)
    ∷ says (codes "select lo_shipmode, sum(lo_tax) from lineorder where lo_shipmode between 'a' and 'b' or lo_tax between 1 and 2 or not lo_shipmode = 'a' group by lo_shipmode")
    none
    -- an aggregate with no name is named by its function and its number
    ∷ says (codes "select lo_tax, count(*) as a, sum(lo_tax) as a from lineorder") (of_name
    NotGrouped 7)
    ∷ says (codes "select count(*) as sum2, sum(lo_tax) from lineorder") (of_name DuplicateAlias 25)
    ∷ says (codes "select count(*) as max2, min(lo_tax), count(*) as min4, min(lo_tax) from lineorder")
    (of_name DuplicateAlias 56)
    ∷ says (codes "select lo_tax, sum(lo_tax) as count1, lo_discount, count(*) from lineorder group by lo_tax, lo_discount")
    none
    ∷ says (codes "select count(*) as lo_tax from lineorder group by lo_discount, lo_tax") (of_name
    DuplicateAlias 19)
    ∷ says (codes "select sum(lo_tax) as lo_tax from lineorder order by lo_tax") none
    -- an aggregate with a name of its own has no other
    ∷ says (codes "select sum(lo_tax) as a from lineorder order by a, sum1, x") (of_name
    UnknownOrderKey 51)
    ∷ says (codes "select count(*), sum(lo_tax) as a from lineorder group by lo_tax, lo_discount order by lo_discount desc, a, count1, lo_tax")
    none
    ∷ []

first_faults : AllByRecursion (λ row. IfTold HasFault row.0 row.1) faults
    × AllByRecursion (λ row. IfTold HasNames row.0 row.1) names
unfolding cut_from reserved reserved_words spelling column_of table_name column_called table_called
    first_answer has_name has_text function_word digits
first_faults = (
  each_row (IfTold HasFault) (λ text. fault_in (text_result text))
      (λ text. (holds_of text (text_result text) (holds text)).0) faults refl,
  each_row (IfTold HasNames) (λ text. names_in (text_result text))
      (λ text. (holds_of text (text_result text) (holds text)).1) names refl,
)
