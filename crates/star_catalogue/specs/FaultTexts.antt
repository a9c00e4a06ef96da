-- The printed form of load errors.
use Rattle.std.specs.Prelude.{◌++◌, ℕ, List, codes, decimal}
use Rattle.star_schema.specs.{declared.table.TableId.TableId, declared.table.TableId.TheVariants.Lineorder, Schema.column_name, Schema.table_name}
use Rattle.star_catalogue.specs.declared.fault.LoadFault.{TheVariants.{OutOfMemory, ByteOrderMark, TooManyRows, FieldCount, CellTooLong, BadByte, BadNumber, DuplicateKey, AbsentKey}, LoadFault}

-- an error of a whole table
unfoldable pub table_fault_text : List ℕ → TableId → List ℕ
table_fault_text fault t = fault ++ (codes " table " ++ table_name t)

-- an error of a record
unfoldable pub record_fault_text : List ℕ → TableId → ℕ → List ℕ
record_fault_text fault t at_row =
    fault ++ (codes " table " ++ (table_name t ++ (codes " record " ++ decimal at_row)))

-- an error of a cell
unfoldable pub cell_fault_text : List ℕ → TableId → ℕ → ℕ → List ℕ
cell_fault_text fault t at_row field =
    fault ++ (codes " table "
    ++ (table_name t
    ++ (codes " record " ++ (decimal at_row ++ (codes " field " ++ decimal field)))))

-- the number and name of an error, with its position
abbrev pub load_fault_text : LoadFault → List ℕ
load_fault_text OutOfMemory = codes "1 OutOfMemory"
load_fault_text (ByteOrderMark t) = table_fault_text (codes "2 ByteOrderMark") t
load_fault_text (TooManyRows t) = table_fault_text (codes "3 TooManyRows") t
load_fault_text (FieldCount t at_row) = record_fault_text (codes "4 FieldCount") t at_row
load_fault_text (CellTooLong t at_row field) = cell_fault_text (codes "5 CellTooLong") t at_row field
load_fault_text (BadByte t at_row field) = cell_fault_text (codes "6 BadByte") t at_row field
load_fault_text (BadNumber t at_row field) = cell_fault_text (codes "7 BadNumber") t at_row field
load_fault_text (DuplicateKey t at_row) = record_fault_text (codes "8 DuplicateKey") t at_row
load_fault_text (AbsentKey at_row c) =
    record_fault_text (codes "9 AbsentKey") Lineorder at_row ++ (codes " column " ++ column_name c)
