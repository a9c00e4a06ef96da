-- A small catalogue and programs over it, as the worked rows want them.
use Rattle.std.{proofs.Common.{ℕ, List, [], ◌∷◌, None}, specs.Prelude.{ℤ, pos, slice_index_or, codes}}
use Rattle.star_schema.specs.declared.{table.TableId.TableId, column.ColumnId.ColumnId, column.ColumnId.TheVariants.{LoQuantity, LoLinenumber, LoExtendedprice}, group.Shape.TheVariants.Plain, group.Aggregate.Aggregate, table.TableId.TheVariants.{Date, Customer, Supplier, Part, Lineorder}}
use Rattle.star_schema.specs.declared.group.Aggregate.TheVariants as aggregate
use Rattle.star_schema.specs.declared.group.GroupColumn.TheVariants as column
use Rattle.star_interval.specs.Range.{Range, only}
use Rattle.star_program.specs.{declared.group.GroupDecl.GroupDecl, declared.op.Operation.Operation, declared.program.Parts.Parts, Code.{Code, Stop, Then, Each}, World.World}
use Rattle.star_program.specs.declared.op.Op.TheVariants as op
use Rattle.star_program.specs.declared.op.Operation.TheVariants as operation
use Rattle.star_program.specs.declared.op.Operator.TheVariants as operator

-- ---- catalogues

-- a world in which each text is empty, and no key is found
abbrev numbers_alone : (TableId → ℕ) → (ColumnId → ℕ → ℤ) → (ColumnId → Range) → World
numbers_alone size number bounds = record {
  size = size;
  number = number;
  code = λ c row. 0;
  entries = λ c. 1;
  low = λ c text. 0;
  high = λ c text. 0;
  text = λ c n. [];
  find = λ t z. None;
  bounds = bounds;
}

abbrev pub sizes : TableId → ℕ
sizes Date = 3
sizes Customer = 3
sizes Supplier = 2
sizes Part = 3
sizes Lineorder = 5

abbrev quantities : List ℤ
quantities = pos 10 ∷ pos 30 ∷ pos 24 ∷ pos 50 ∷ pos 1 ∷ []

abbrev prices : List ℤ
prices = pos 1000 ∷ pos 2000 ∷ pos 500 ∷ pos 3000 ∷ pos 700 ∷ []

abbrev sample_number : ColumnId → ℕ → ℤ
sample_number LoQuantity row = slice_index_or quantities row (pos 0)
sample_number LoExtendedprice row = slice_index_or prices row (pos 0)
sample_number _ row = pos 0

abbrev sample_bounds : ColumnId → Range
sample_bounds LoQuantity = record { low = pos 1; high = pos 50 }
sample_bounds LoExtendedprice = record { low = pos 500; high = pos 3000 }
sample_bounds _ = only (pos 0)

-- five lines, as far as these programs read them
abbrev pub sample : World
sample = numbers_alone sizes sample_number sample_bounds

abbrev line_sizes : TableId → ℕ
line_sizes Lineorder = 10
line_sizes t = 0

abbrev line_number : ColumnId → ℕ → ℤ
line_number LoLinenumber row =
    slice_index_or (pos 1 ∷ pos 2 ∷ pos 3 ∷ pos 4 ∷ pos 5 ∷ pos 6 ∷ pos 7 ∷ pos 8 ∷ pos 9 ∷ pos 10
    ∷ []) row (pos 0)
line_number LoExtendedprice row = pos 900000000000000000
line_number _ row = pos 0

abbrev line_bounds : ColumnId → Range
line_bounds LoLinenumber = record { low = pos 1; high = pos 10 }
line_bounds LoExtendedprice = only (pos 900000000000000000)
line_bounds _ = only (pos 0)

-- ten lines of one great price
abbrev pub great_prices : World
great_prices = numbers_alone line_sizes line_number line_bounds

-- ---- programs

abbrev pub plain : List Aggregate → GroupDecl
plain gs = record { shape = Plain; keys = []; aggregates = gs }

-- a program of these registers and groups that shows the first aggregate of one of them
abbrev pub program : ℕ → List GroupDecl → ℕ → Code → Parts
program registers groups report body = record {
  registers = registers;
  groups = groups;
  body = body;
  report = report;
  shows = record { name = codes "n"; column = column.Aggregate 0 } ∷ [];
  sorts = [];
}

-- an instruction that writes a register, and the rest
abbrev pub assign : ℕ → Operation → Code → Code
assign t o rest = Then (op.Assign t o) rest

-- one group, which counts
abbrev pub counting : Code → Parts
counting body = program 3 (plain (aggregate.Count ∷ []) ∷ []) 0 body

-- lines priced above the average
abbrev pub above_average : Parts
above_average = program 8
    (plain (aggregate.Sum ∷ aggregate.Count ∷ []) ∷ plain (aggregate.Count ∷ []) ∷ []) 1
    (Each Lineorder 0 (assign 1 (operation.Load LoExtendedprice 0)
    (Then (op.Put 0 [] (1 ∷ [])) Stop))
    (assign 2 (operation.Read 0 0 (pos 0)) (assign 3 (operation.Read 0 1 (pos 0))
    (Each Lineorder 4 (assign 5 (operation.Load LoExtendedprice 4)
    (assign 6 (operation.Binary operator.Mul 5 3)
    (assign 7 (operation.Binary operator.Less 2 6)
    (Then (op.Keep 7) (Then (op.Put 1 [] []) Stop))))) Stop))))

-- a row of the dates by a quantity
abbrev pub find_by_quantity : Parts
find_by_quantity = counting
    (Each Lineorder 0 (assign 1 (operation.Load LoQuantity 0)
    (assign 2 (operation.Find Date 1) (Then (op.Put 0 [] []) Stop))) Stop)

-- a read in the scan that puts
abbrev pub read_while_putting : Parts
read_while_putting = counting
    (Each Lineorder 0 (Then (op.Put 0 [] []) (assign 1 (operation.Read 0 0 (pos 0)) Stop)) Stop)

-- a register that is written twice and then put
abbrev pub written_twice : Parts
written_twice = program 3 (plain (aggregate.Sum ∷ []) ∷ []) 0
    (assign 0 (operation.Const (pos 1))
    (assign 0 (operation.Const (pos 2)) (Then (op.Put 0 [] (0 ∷ [])) Stop)))

abbrev pub keep_outside : Parts
keep_outside = counting (assign 0 (operation.Const (pos 1))
    (assign 1 (operation.Binary operator.Equal 0 0) (Then (op.Keep 1) Stop)))

-- a key of a group without keys is shown
abbrev pub shows_no_key : Parts
shows_no_key = record {
  registers = 3;
  groups = plain (aggregate.Count ∷ []) ∷ [];
  body = Stop;
  report = 0;
  shows = record { name = codes "n"; column = column.Key 0 } ∷ [];
  sorts = [];
}

abbrev pub scan_in_scan : Parts
scan_in_scan = counting (Each Date 0 (Each Supplier 1 (Then (op.Put 0 [] []) Stop) Stop) Stop)

-- twice the difference of a sum and a constant
abbrev pub doubled_difference : Parts
doubled_difference = program 10 (plain (aggregate.Sum ∷ []) ∷ plain (aggregate.Max ∷ []) ∷ []) 1
    (Each Lineorder 0
    (assign 1 (operation.Load LoLinenumber 0)
    (assign 2 (operation.Const (pos 1))
    (assign 3 (operation.Binary operator.Equal 1 2) (Then (op.Keep 3)
    (assign 4 (operation.Load LoExtendedprice 0) (Then (op.Put 0 [] (4 ∷ [])) Stop))))))
    (assign 5 (operation.Read 0 0 (pos 0))
    (assign 6 (operation.Const (pos 9000000000000000000))
    (assign 7 (operation.Binary operator.Sub 5 6)
    (assign 8 (operation.Const (pos 2))
    (assign 9 (operation.Binary operator.Mul 7 8) (Then (op.Put 1 [] (9 ∷ [])) Stop)))))))
