-- What is known of a result, what puts add up to, how many rows are visited and reported, what
-- instructions say of themselves, and the words of reasons, of a few ranges and programs.
use Rattle.std.proofs.Common.{ℤ, List, [], ◌∷◌, pos, refl}
use Rattle.star_safety.proofs.{Common.{CRegion, Code, Count, Cube, Each, Gives, Gives2, Gives3, GroupDecl, Keep, Lineorder, Op, Part, Parts, Plain, Range, Rollup, Shape, Stop, Supplier, Then, column_of, most_report_rows, plain, rows_of_grouping, rows_of_groupings, sample, sizes, turns_met, width}, Words.{acts, const, over, put}}
use Rattle.star_program.specs.declared.group.GroupKey.TheVariants as key

abbrev from_to : ℤ → ℤ → Range
from_to l h = record { low = l; high = h }

-- ---- how many rows are visited: of 5 lines, 3 parts and 2 suppliers

abbrev scans : Code
scans = Then (Keep 0) (Each Lineorder 0 (Each Part 1 Stop (Each Supplier 2 Stop Stop))
    (Each Supplier 1 Stop Stop))

visits : Gives2 (turns_met sizes) ((1, scans, 32) ∷ (2, scans, 64) ∷ (1, Stop, 0) ∷ [])
visits = refl

-- ---- how many rows a report has at most

-- 12; 12 + 3 + 4 + 1; and of the prefixes alone 12 + 3 + 1: not 12 + 4 + 1, which are the suffixes;
-- of two updates 2; 2 + 2 + 2 + 1; 2 + 2 + 1; and of none
shapes : Gives3 rows_of_groupings ((Plain, 100, 3 ∷ 4 ∷ [], 12) ∷ (Cube, 100, 3 ∷ 4 ∷ [], 20)
    ∷ (Rollup, 100, 3 ∷ 4 ∷ [], 16) ∷ (Plain, 2, 3 ∷ 4 ∷ [], 2) ∷ (Cube, 2, 3 ∷ 4 ∷ [], 7)
    ∷ (Rollup, 2, 3 ∷ 4 ∷ [], 5) ∷ (Plain, 0, 3 ∷ 4 ∷ [], 0) ∷ (Cube, 0, 3 ∷ 4 ∷ [], 1)
    ∷ (Rollup, 0, 3 ∷ 4 ∷ [], 1) ∷ (Plain, 0, [], 1) ∷ [])
unfolding rows_of_grouping
shapes = refl

abbrev just : List Op → Code
just ops = acts ops Stop

-- groups by a number and a text, and by none
abbrev counted : Shape → GroupDecl
counted shape =
    record { shape = shape; keys = key.Number ∷ key.Text CRegion ∷ []; aggregates = Count ∷ [] }

-- puts 2 for each of five lines and 7 for each of two suppliers, and 100 to a group that isn't
-- reported
abbrev two_scans : Shape → Parts
two_scans shape = over (counted shape ∷ plain (Count ∷ []) ∷ [])
    (Each Lineorder 0 (just (const 1 (pos 2) ∷ put 0 (1 ∷ 1 ∷ []) [] ∷ [])) (Each Supplier 2
    (just (const 3 (pos 7) ∷ const 4 (pos 100) ∷ put 0 (3 ∷ 3 ∷ []) [] ∷ put 1 [] [] ∷ [])) Stop))

-- puts 2 and 7 for each line, and 7 and 9 for each supplier
abbrev two_numbers : Parts
two_numbers =
    over (record { shape = Cube; keys = key.Number ∷ key.Number ∷ []; aggregates = Count ∷ [] }
    ∷ [])
    (Each Lineorder 0 (just (const 1 (pos 2) ∷ const 2 (pos 7) ∷ put 0 (1 ∷ 2 ∷ []) [] ∷ []))
    (Each Supplier 3 (just (const 4 (pos 7) ∷ const 5 (pos 9) ∷ put 0 (4 ∷ 5 ∷ []) [] ∷ [])) Stop))

-- seven updates, six numbers from 2 to 7 and four texts: of a cube 7 + 6 + 4 + 1 rows; a group that
-- nothing is put to has no value of a number; and each key has its own numbers: 7 + 6 + 3 + 1
of_programs : Gives (most_report_rows (record sample { entries = λ c. 4 })) (
    (two_scans Cube, 18) ∷ (two_scans Rollup, 14) ∷ (two_scans Plain, 7)
    ∷ (over (counted Cube ∷ []) Stop, 1) ∷ (over (counted Plain ∷ []) Stop, 0) ∷ (two_numbers, 17)
    ∷ [])
unfolding width rows_of_grouping column_of
of_programs = refl
