-- What refuses small programs, by computation: each kind of refusal, which of two comes first, and
-- ranges: what multiplies, adds up, is read and is reached.
use Rattle.std.proofs.Common.{◌*◌, ◌^◌, ℕ, List, [], ◌∷◌, Option, Some, None, pos, refl}
use Rattle.star_safety.proofs.{Common.{Aggregate, Ascending, BadShow, CRegion, Code, ColumnId, Count, Date, Each, Fault, Faulty, Gives2, Gives3, GroupDecl, Lineorder, LoExtendedprice, LoQuantity, LoRevenue, LoTax, Max, Min, Op, OpenGroup, Overflow, Parts, Plain, Range, Reached, Reason, Refusal, Refused, Stop, Sum, Supplier, TooCostly, World, WrittenTwice, column_of, first_answer, first_refusal, great_prices, is_i64, neg_ℤ, only, plain, reached, sample, ℤ}, Words.{const, low, load, add, mul, put, read, acts, over}}
use Rattle.star_schema.specs.declared.group.GroupColumn.TheVariants as column
use Rattle.star_program.specs.declared.group.GroupKey.TheVariants as key

-- instruction `n` is refused: for this reason, for what is wrong with it, and for a range that
-- leaves 64 bits and what it is computed from
abbrev no : ℕ → Reason → Option Refusal
no n reason = Some (Refused (n, reason))

abbrev wrong : ℕ → Fault → Option Refusal
wrong n fault = no n (Faulty fault)

abbrev wide : ℕ → (low high : ℤ) → List Reached → Option Refusal
wide n low high columns = no n (Overflow low high columns)

abbrev between : ColumnId → ℤ → ℤ → Reached
between c low high = record { column = c; low = low; high = high }

-- so many times 10^18, and 2^63
abbrev e18 : ℕ → ℤ
e18 n = pos (n * 10 ^ 18)

abbrev minus18 : ℕ → ℤ
minus18 n = neg_ℤ (e18 n)

abbrev too_great : ℤ
too_great = pos (2 ^ 63)

abbrev just : List Op → Code
just ops = acts ops Stop

-- ---- over the sample, where 15 visits are allowed, with groups that count and add, and that count
-- by regions

abbrev groups : List GroupDecl
groups = plain (Count ∷ Sum ∷ [])
    ∷ record { shape = Plain; keys = key.Text CRegion ∷ []; aggregates = Count ∷ [] } ∷ []

abbrev counting_twice : Parts
counting_twice = over groups
    (acts (const 0 (pos 1) ∷ const 0 (pos 1) ∷ []) (Each Lineorder 1 Stop Stop))

-- the cost comes before any instruction, and the report last; sort lines follow the show lines
report_and_cost : Gives2 (first_refusal sample) (
    (4, counting_twice, Some (TooCostly 5))
    ∷ (5, counting_twice, wrong 2 WrittenTwice)
    ∷ (5, record counting_twice { shows = [] }, wrong 2 WrittenTwice)
    ∷ (0, record (over groups Stop) { report = 2 }, Some (BadShow 0))
    ∷ (0, record (over groups Stop) { shows = [] }, Some (BadShow 0))
    ∷ (
      0,
      record (over groups Stop)
          { sorts = record { column = column.Key 0; direction = Ascending } ∷ [] },
      Some (BadShow 2),
    )
    ∷ [])
unfolding first_answer is_i64
report_and_cost = refl

-- ---- ranges, with one group of some aggregates

abbrev great_bounds : ColumnId → Range
great_bounds LoQuantity = record { low = pos 1; high = pos 50 }
great_bounds LoExtendedprice = only (pos 4000000000)
great_bounds LoRevenue = only (pos 5000000000)
great_bounds LoTax = record { low = minus18 3; high = e18 4 }
great_bounds _ = only (pos 0)

-- prices and revenues whose product leaves 64 bits, and taxes whose sums do
abbrev great : World
great = record sample { bounds = great_bounds }

-- two sums that leave 64 bits at one put
abbrev two_sums : Code → Code
two_sums behind = Each Supplier 0
    (just (const 1 (e18 5) ∷ const 2 (e18 6) ∷ put 0 [] (1 ∷ 2 ∷ []) ∷ [])) behind

-- a great number that a scan of no rows puts, read with 0 as its default and squared
abbrev squared_of_none : Code
squared_of_none = Each Date 0 (just (const 1 (e18 9) ∷ put 0 [] (1 ∷ []) ∷ []))
    (just (read 2 0 0 (pos 0) ∷ mul 3 2 2 ∷ []))

-- 5, read with 7 as its default, times a great number
abbrev five_or_seven : Code
five_or_seven = just (const 0 (pos 5) ∷ put 0 [] (0 ∷ []) ∷ read 1 0 0 (pos 7) ∷ const 2 (e18 4)
    ∷ mul 3 1 2 ∷ [])

abbrev put_two : Code → Code
put_two behind = Each Lineorder 0
    (just (load 1 LoQuantity 0 ∷ load 2 LoRevenue 0 ∷ put 0 [] (1 ∷ 2 ∷ []) ∷ [])) behind

-- a row: over a world, and with these aggregates, what refuses a body
abbrev seen : World → List Aggregate → Code → Option Refusal
    → World × List Aggregate × Code × Option Refusal
seen w gs body refusal = (w, gs, body, refusal)

ranges : Gives3 (λ w gs body. first_refusal w 100 (over (plain gs ∷ []) body)) (
    -- columns in the order of the schema, and not of their loads
    seen great (Sum ∷ []) (Each Lineorder 0 (just (load 1 LoRevenue 0 ∷ load 2 LoExtendedprice 0 ∷
    mul 3 1 2 ∷ [])) Stop) (wide 4 (e18 20) (e18 20) (between LoExtendedprice (pos 4000000000)
    (pos 4000000000) ∷ between LoRevenue (pos 5000000000) (pos 5000000000) ∷ []))
    -- a SUM that is read reaches the columns of all that was put for it, and of nothing else
    ∷ seen great (Sum ∷ Count ∷ Sum ∷ []) (Each Lineorder 0 (just (load 1 LoQuantity 0 ∷ load 2
    LoRevenue 0 ∷ const 3 (e18 3) ∷ put 0 [] (1 ∷ 2 ∷ []) ∷ put 0 [] (1 ∷ 3 ∷ []) ∷ [])) (just
    (read 4 0 2 (pos 0) ∷ []))) (wide 7 (pos 0) (pos 15000000025000000000) (between LoRevenue
    (pos 5000000000) (pos 5000000000) ∷ []))
    -- the turns of a scan in a scan are those of both together
    ∷ seen sample (Sum ∷ []) (Each Date 0 (Each Supplier 1 (just (const 2 (e18 2) ∷ put 0 [] (2 ∷
    []) ∷ [])) Stop) (just (read 3 0 0 (pos 0) ∷ []))) (wide 5 (pos 0) (e18 12) [])
    -- negative numbers up to 0, since fewer may be put
    ∷ seen sample (Sum ∷ []) (Each Supplier 0 (just (const 1 (minus18 5) ∷ put 0 [] (1 ∷ []) ∷ []))
    (just (read 2 0 0 (pos 0) ∷ []))) (wide 4 (minus18 10) (pos 0) [])
    -- numbers of both signs down from 0 and up from it
    ∷ seen great (Sum ∷ []) (Each Lineorder 0 (just (load 1 LoTax 0 ∷ put 0 [] (1 ∷ []) ∷ [])) (just
    (read 2 0 0 (pos 0) ∷ []))) (wide 4 (minus18 15) (e18 20) (between LoTax (minus18 3) (e18 4)
    ∷ []))
    ∷ seen sample (Sum ∷ Sum ∷ []) (two_sums (just (read 3 0 0 (pos 0) ∷ []))) (wide 5 (pos 0) (e18
    10) [])
    ∷ seen sample (Sum ∷ Sum ∷ []) (two_sums (just (read 3 0 1 (pos 0) ∷ []))) (wide 5 (pos 0) (e18
    12) [])
    -- what no read gives may add up to any number
    ∷ seen sample (Sum ∷ Sum ∷ []) (two_sums Stop) None
    -- one update after another, outside scans too
    ∷ seen sample (Sum ∷ []) (just (const 0 (e18 5) ∷ put 0 [] (0 ∷ []) ∷ put 0 [] (0 ∷ []) ∷ read 1
    0 0 (pos 0) ∷ [])) (wide 4 (pos 0) (e18 10) [])
    -- adds up to nothing
    ∷ seen great_prices (Sum ∷ []) squared_of_none None
    -- and is among the numbers all the same
    ∷ seen great_prices (Min ∷ []) squared_of_none (wide 5 (pos 0) (e18 81000000000000000000) [])
    -- least and greatest numbers don't go down to 0
    ∷ seen sample (Min ∷ []) five_or_seven (wide 5 (e18 20) (e18 28) [])
    ∷ seen sample (Max ∷ []) five_or_seven (wide 5 (e18 20) (e18 28) [])
    -- and sums do
    ∷ seen sample (Sum ∷ []) five_or_seven (wide 5 (pos 0) (e18 28) [])
    -- of the aggregates the one that is asked for
    ∷ seen sample (Sum ∷ Sum ∷ []) (just (const 0 (pos 1) ∷ const 1 (e18 5) ∷ put 0 [] (0 ∷ 1 ∷ [])
    ∷ read 2 0 1 (pos 0) ∷ add 3 2 2 ∷ [])) (wide 5 (pos 0) (e18 10) [])
    -- a count goes from 0 to the turns, each time 1
    ∷ seen sample (Count ∷ []) (Each Date 0 (just (put 0 [] [] ∷ [])) (just (read 1 0 0 (pos 2) ∷
    const 2 (e18 4) ∷ mul 3 1 2 ∷ []))) (wide 5 (pos 0) (e18 12) [])
    -- the default counts where an update comes before, and though a count is never NULL
    ∷ seen sample (Count ∷ []) (just (put 0 [] [] ∷ read 0 0 0 (minus18 9) ∷ add 1 0 0 ∷ [])) (wide
    3 (minus18 18) (pos 2) [])
    -- least numbers of none have the default alone
    ∷ seen sample (Min ∷ []) (just (read 0 0 0 (e18 9) ∷ add 1 0 0 ∷ [])) (wide 2 (e18 18) (e18 18)
    [])
    -- though nothing uses what is read: a default alone, too
    ∷ seen sample (Min ∷ []) (just (read 0 0 0 too_great ∷ [])) (wide 1 too_great too_great [])
    ∷ seen great (Min ∷ Count ∷ Sum ∷ []) (put_two (just (read 3 0 2 too_great ∷ []))) (wide 5 (pos
    0) too_great (between LoRevenue (pos 5000000000) (pos 5000000000) ∷ []))
    -- none for a COUNT
    ∷ seen great (Min ∷ Count ∷ Sum ∷ []) (put_two (just (read 3 0 1 too_great ∷ []))) (wide 5 (pos
    0) too_great [])
    -- what a read gives is computed from no column
    ∷ seen great (Max ∷ []) (Each Lineorder 0 (just (load 1 LoTax 0 ∷ put 0 [] (1 ∷ []) ∷ [])) (just
    (read 2 0 0 (pos 0) ∷ add 3 2 2 ∷ add 4 3 2 ∷ []))) (wide 6 (minus18 9) (e18 12) [])
    ∷ seen sample (Min ∷ []) (just (read 0 0 0 (pos 9223372036854775807) ∷ [])) None
    -- a group that is open comes before the range
    ∷ seen sample (Count ∷ []) (just (read 0 0 0 too_great ∷ put 0 [] [] ∷ [])) (no 1 OpenGroup)
    -- constants are numbers of 64 bits
    ∷ seen sample [] (just (const 0 (neg_ℤ too_great) ∷ const 1 too_great ∷ [])) (wide 2 too_great
    too_great [])
    -- and so is what a column holds
    ∷ seen (record sample { bounds = λ c. only (neg_ℤ (pos 9223372036854775809)) }) [] (Each
    Lineorder 0 (just (load 1 LoTax 0 ∷ [])) Stop) (wide 2 (neg_ℤ (pos 9223372036854775809))
    (neg_ℤ (pos 9223372036854775809)) (between LoTax (neg_ℤ (pos 9223372036854775809)) (neg_ℤ
    (pos 9223372036854775809)) ∷ []))
    ∷ [])
unfolding column_of first_answer is_i64 reached
ranges = refl

-- each table has a milliard rows: three scans one in the other count, and the count is read
abbrev counting_thrice : Parts
counting_thrice = over (plain (Count ∷ []) ∷ []) (Each Date 0
    (Each Supplier 1 (Each Lineorder 2 (just (put 0 [] [] ∷ [])) Stop) Stop)
    (just (read 3 0 0 (pos 0) ∷ [])))

great_counts : Gives2 (first_refusal (record sample { size = λ t. 1000000000 })) (
    (10 ^ 28, counting_thrice, wide 5 (pos 0) (pos (10 ^ 27)) [])
    ∷ (10 ^ 15, counting_thrice, Some (TooCostly 1000000001000000001000000000))
    ∷ [])
unfolding first_answer is_i64 reached
great_counts = refl
