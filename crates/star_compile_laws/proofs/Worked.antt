-- What a run of a compiled program puts and looks up, which number of a turn is the first whose
-- range is too wide, and what refuses programs of small queries, by computing.
use Rattle.std.{proofs.Common.{◌≡◌, ◌^◌, ◌-◌, ℕ, List, [], ◌∷◌, Some, None, pos, refl}, specs.Prelude.{codes, if◌then◌else◌, map}}
use Rattle.star_common.proofs.Tables.{Gives, Gives2}
use Rattle.star_schema.specs.{declared.column.ColumnId.ColumnId, declared.group.GroupColumn.TheVariants.{Key, Aggregate}, declared.group.Shape.TheVariants.Plain, declared.column.ColumnId.TheVariants.{CCustkey, CNation, LoCustkey, LoDiscount, LoExtendedprice, LoQuantity, LoRevenue}, Bounds.numbers_at, Database.{Database, rows_in}, Dictionary.dictionary_of, Loadable.keys_of, Schema.{column_of, position_of}, Tables.{Value, Number, Text}, Texts.texts_at}
use Rattle.star_interval.specs.Range.{Range, is_i64, is_i128, only}
use Rattle.star_query.specs.{declared.token.Relation.TheVariants.AtMost, declared.token.Relation.TheVariants.Less, Tree.add, Tree.column, Tree.count, Tree.mul}
use Rattle.star_plan.specs.Meaning.{Plan, plan_rows}
use Rattle.star_program.specs.{declared.key.KeyValue.TheVariants.Code, Puts.Update, Run.End, Run.Ended, Run.run_of, World.is_text}
use Rattle.star_safety.specs.declared.reason.{Reached.Reached, Reason.Reason, Reason.TheVariants.Overflow}
use Rattle.star_world.specs.WorldOf.{world_of}
use Rattle.star_compile_laws.{specs.Answers.update_of_row, specs.Compiled.compiled, specs.Counts.lookups_of, specs.Wide.turn_wide, proofs.PlanWords.{compare, summed}, proofs.Plans.q11}

abbrev number : ℕ → Value
number n = Number (pos n)

abbrev text : List ℕ → Value
text bytes = Text bytes

-- a customer, as far as the nation, and a line, as far as the revenue
abbrev customer : ℕ → List ℕ → List Value
customer key nation = number key ∷ text [] ∷ text [] ∷ text [] ∷ text nation ∷ []

abbrev line : (customer quantity revenue : ℕ) → List Value
line customer quantity revenue =
    number 1 ∷ number 1 ∷ number customer ∷ number 1 ∷ number 1 ∷ number 1 ∷ text [] ∷ text []
    ∷ number quantity ∷ number 1 ∷ number 1 ∷ number 1 ∷ number revenue ∷ []

abbrev few : Database
few = record {
  date = [];
  customer =
      customer 1 (codes "PERU") ∷ customer 2 (codes "CHINA") ∷ customer 3 (codes "ROMANIA") ∷ [];
  supplier = [];
  part = [];
  lineorder =
      line 1 10 980 ∷ line 1 30 1940 ∷ line 2 24 495 ∷ line 3 20 3000 ∷ line 2 50 700
      ∷ line 1 1 630 ∷ [];
}

-- select c_nation, count(*), sum(lo_revenue) from lineorder, customer
-- where lo_custkey = c_custkey and lo_quantity < 40 and c_nation <= 'PERU' group by c_nation
abbrev by_nation : Plan
by_nation = record {
  joins = record { foreign = LoCustkey; key = CCustkey } ∷ [];
  conjuncts =
      compare LoQuantity Less (Number (pos 40)) ∷ compare CNation AtMost (Text (codes "PERU")) ∷ [];
  shape = Plain;
  keys = CNation ∷ [];
  measures = count ∷ summed (column LoRevenue) ∷ [];
  names = codes "count" ∷ codes "sum" ∷ [];
  items = Key 0 ∷ Aggregate 0 ∷ Aggregate 1 ∷ [];
  sorts = [];
}

-- its puts and its counts
abbrev done : End → List Update × List ℕ
done (Ended s) = (s.updates_of 0, s.visits ∷ s.lookups ∷ s.updates ∷ [])
done _ = ([], [])

-- CHINA has the code 0, and PERU 1
abbrev update : (nation revenue : ℕ) → Update
update nation revenue = record { keys = Code nation ∷ []; values = pos 1 ∷ pos revenue ∷ [] }

-- the last line comes first; the line of ROMANIA and that of 50 pieces were not selected; of each
-- line with less than 40 pieces the customer's nation is looked up once, though it is a key too
puts : (done (run_of (world_of few) (compiled by_nation))
    ≡ (update 1 630 ∷ update 0 495 ∷ update 1 1940 ∷ update 1 980 ∷ [], 6 ∷ 5 ∷ 4 ∷ []))
    × (map (update_of_row (world_of few) by_nation) (plan_rows (rows_in few) by_nation)
    ≡ update 1 980 ∷ update 1 1940 ∷ update 0 495 ∷ update 1 630 ∷ [])
unfolding column_of position_of numbers_at texts_at dictionary_of keys_of is_i64 is_i128
puts = (refl, refl)

-- where the nation is asked for first, it is looked up for each line, and where it is a key alone,
-- for the lines that are left
lookups : Gives (lookups_of (rows_in few)) (
    (by_nation, 5)
    ∷ (
      record by_nation {
        conjuncts = compare CNation AtMost (Text (codes "PERU"))
            ∷ compare LoQuantity Less (Number (pos 40)) ∷ [];
      },
      6,
    )
    ∷ (record by_nation { conjuncts = compare LoQuantity Less (Number (pos 24)) ∷ [] }, 3) ∷ [])
unfolding column_of position_of
lookups = refl

-- ---- ranges

abbrev discounted : ColumnId → Range
discounted LoExtendedprice = record { low = pos 1; high = pos 1000000000000000000 }
discounted LoDiscount = record { low = pos 0; high = pos 10 }
discounted _ = only (pos 0)

abbrev dearest : ℕ → ColumnId → Range
dearest n LoExtendedprice = record { low = pos 0; high = pos n }
dearest n _ = only (pos 1)

abbrev reach : ColumnId → ℕ → ℕ → Reached
reach c low high = record { column = c; low = pos low; high = pos high }

abbrev wide : Reason
wide = Overflow (pos 0) (pos 10000000000000000000)
    (reach LoExtendedprice 1 1000000000000000000 ∷ reach LoDiscount 0 10 ∷ [])

abbrev added : Plan
added = record q11 { measures = summed (add (column LoExtendedprice) (column LoDiscount)) ∷ [] }

-- of two the one that is computed first, and not the wider one; a column that is used twice is told
-- once; 2^63 - 1 fits, and one more does not; and a text has no range
wide_turns : Gives2 turn_wide (
    (discounted, q11, Some (18, wide))
    ∷ (
      discounted,
      record q11 {
        measures =
            summed (mul (mul (column LoDiscount) (column LoExtendedprice)) (column LoDiscount))
            ∷ [];
      },
      Some (18, wide),
    )
    ∷ (dearest (2 ^ 63 - 2), added, None)
    ∷ (
      dearest (2 ^ 63 - 1),
      added,
      Some (
        18,
        Overflow (pos 1) (pos (2 ^ 63))
            (reach LoExtendedprice 0 (2 ^ 63 - 1) ∷ reach LoDiscount 1 1 ∷ []),
      ),
    )
    ∷ (
      (λ c. if is_text c then record { low = pos 0; high = pos (2 ^ 64) } else only (pos 0)),
      by_nation,
      None,
    ) ∷ [])
unfolding column_of is_i64
wide_turns = refl
