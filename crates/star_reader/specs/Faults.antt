-- The first fault of a text that is no table.
use Rattle.std.specs.{Prelude.{◌∷◌, ◌+◌, ◌==◌, if◌then◌else◌, not, ℕ, List, [], Option, Some, None, length, nat_eq, nat_lt}, List.{enumerate_from, list_all, starts_with, zip}, Option.option_or}
use Rattle.star_schema.specs.{declared.table.TableId.TableId, declared.column.Kind.Kind, Records.fields_of, Records.records_of, Schema.kinds_of, Tables.cells_of, Tables.is_of_kind, Tables.is_short}
use Rattle.star_common.specs.{First.first_answer, Printable.is_printable}
use Rattle.star_reader.specs.declared.fault.ReadFault.{ReadFault}
use Rattle.star_reader.specs.declared.fault.ReadFault.TheVariants as fault

-- the fault of a cell, by the numbers of its record and its field
abbrev pub cell_fault : ℕ → ℕ → Kind → List ℕ → Option ReadFault
cell_fault at_row field k cell =
    if not (is_short cell) then Some (fault.CellTooLong at_row field)
    else if not (list_all is_printable cell) then Some (fault.BadByte at_row field)
    else if not (is_of_kind k cell) then Some (fault.BadNumber at_row field)
    else None

-- the first fault of the cells of a record from the left, whose fields count from a number
abbrev pub cells_fault : ℕ → ℕ → List Kind → List (List ℕ) → Option ReadFault
cells_fault at_row from ks cells =
    first_answer (λ (field, (k, cell)). cell_fault at_row field k cell)
    (enumerate_from from (zip ks cells))

-- the first fault of a record of columns of these kinds, by its number and its fields
unfoldable pub record_fault : List Kind → ℕ → List (List ℕ) → Option ReadFault
record_fault ks at_row fields =
    if length (cells_of (length ks) fields) == length ks
    then cells_fault at_row 1 ks (cells_of (length ks) fields)
    else Some (fault.FieldCount at_row)

-- the first fault of the records of a table of at most `most` rows, counted from a number
abbrev pub records_fault : TableId → ℕ → ℕ → List (List ℕ) → Option ReadFault
records_fault table most from lines =
    first_answer
    (λ (at_row, line). if nat_lt most at_row
    then Some fault.TooManyRows
    else record_fault (kinds_of table) at_row (fields_of line))
    (enumerate_from from lines)

-- the byte order mark, U+FEFF in UTF-8
abbrev pub byte_order_mark : List ℕ
byte_order_mark = 0xEF ∷ 0xBB ∷ 0xBF ∷ []

-- the first fault of a part of a text, whose records count from a number
unfoldable pub part_fault : TableId → ℕ → ℕ → List ℕ → Option ReadFault
part_fault table most from part =
    if starts_with nat_eq part byte_order_mark
    then Some fault.ByteOrderMark
    else records_fault table most from (records_of part)

-- the first fault of some parts, one after another: the records of a later part count on
unfoldable pub parts_fault : TableId → ℕ → ℕ → List (List ℕ) → Option ReadFault
parts_fault table most from [] = None
parts_fault table most from (part ∷ later) =
    option_or (part_fault table most from part)
    (parts_fault table most (from + length (records_of part)) later)

-- the first fault of a text in parts, whose records count from 1
abbrev pub text_fault : TableId → ℕ → List (List ℕ) → Option ReadFault
text_fault table most parts = parts_fault table most 1 parts
