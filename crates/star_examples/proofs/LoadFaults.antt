-- What is wrong with the texts of tables: of a cell, a record, a text, keys and foreign keys, and
-- which of it comes first; and columns as they were read.
use Rattle.std.{proofs.Common.{◌≡◌, ◌++◌, ℕ, List, [], ◌∷◌, Some, None, refl}, specs.Prelude.{codes, map, pos, replicate}}
use Rattle.star_common.{specs.First.first_answer, proofs.Tables.{Gives, Gives2}}
use Rattle.star_schema.specs.{declared.table.TableId.TheVariants.{Date, Supplier, Part, Lineorder}, declared.table.TheConstants.TABLES, declared.column.ColumnId.TheVariants.{LoOrderdate, LoPartkey, LoTax}, Loadable.{foreign_keys, keys_of}, Records.pieces, Schema.{column_of, columns_of, position_of}, Tables.{Number, Text}}
use Rattle.star_reader.specs.{Faults.{part_fault, parts_fault, record_fault, records_fault, text_fault}, declared.column.RawColumn.RawColumn, declared.column.RawColumn.TheVariants.{Numbers, Texts}, Columns.{first_rows, raw_kind, row_of_columns, values}}
use Rattle.star_catalogue.specs.{declared.fault.LoadFault.TheVariants.{AbsentKey, BadByte, BadNumber, ByteOrderMark, CellTooLong, FieldCount, OutOfMemory, TooManyRows}, Load.{absent_fault, foreign_key_fault, fault_of_read, first_repeat, load_fault, same_key, tables_fault, texts_view}}
use Rattle.star_examples.proofs.Sample.{five, sample_texts}
use Rattle.star_schema.specs.declared.column.Kind.TheVariants as kind
use Rattle.star_reader.specs.declared.fault.ReadFault.TheVariants as read
use Rattle.star_reader.specs.Faults as reader
use Rattle.star_catalogue.specs.declared.texts.Texts as five_texts

-- ---- a cell: its length, then its bytes, then the number in it

cells : Gives2 (λ k bytes. reader.cell_fault 3 2 k bytes) (
    (kind.Text, replicate 255 97, None) ∷ (kind.Text, replicate 256 97, Some (read.CellTooLong 3 2))
    ∷ (kind.Text, 32 ∷ 126 ∷ [], None) ∷ (kind.Text, 31 ∷ [], Some (read.BadByte 3 2))
    ∷ (kind.Text, 127 ∷ [], Some (read.BadByte 3 2))
    ∷ (kind.Text, replicate 255 97 ++ 127 ∷ [], Some (read.CellTooLong 3 2))
    ∷ (kind.Text, codes "x", None) ∷ (kind.Text, [], None)
    ∷ (kind.Number, codes "-12", None) ∷ (kind.Number, codes "x", Some (read.BadNumber 3 2))
    ∷ (kind.Number, 120 ∷ 127 ∷ [], Some (read.BadByte 3 2))
    ∷ (kind.Number, replicate 256 97, Some (read.CellTooLong 3 2))
    ∷ (kind.Number, [], Some (read.BadNumber 3 2)) ∷ [])
cells = refl

-- ---- a record: how many fields it has, then its cells from the left

records : Gives (record_fault (kind.Number ∷ kind.Text ∷ kind.Number ∷ []) 7) (
    (codes "1" ∷ codes "a" ∷ codes "2" ∷ [], None)
    ∷ (codes "1" ∷ codes "a" ∷ codes "2" ∷ [] ∷ [], None)
    ∷ (codes "x" ∷ codes "a" ∷ [], Some (read.FieldCount 7))
    ∷ (codes "x" ∷ codes "a" ∷ codes "2" ∷ codes "3" ∷ [], Some (read.FieldCount 7))
    ∷ (codes "x" ∷ (127 ∷ []) ∷ codes "y" ∷ [], Some (read.BadNumber 7 1))
    ∷ (codes "1" ∷ (127 ∷ []) ∷ codes "y" ∷ [], Some (read.BadByte 7 2))
    ∷ (codes "1" ∷ codes "a" ∷ codes "y" ∷ [], Some (read.BadNumber 7 3)) ∷ [])
unfolding record_fault first_answer
records = refl

-- ---- a text: a mark, then its records; the last that is allowed is looked at, one more is not

abbrev supplier : List ℕ
supplier = codes "1|Supplier#000000001|b1|UNITED KI5|UNITED KINGDOM|EUROPE|33-444-444-4444|"

abbrev marked : List ℕ → List ℕ
marked text = 239 ∷ 187 ∷ 191 ∷ text

texts : Gives2 (λ most records. records_fault Supplier most 1 records) (
    (2, supplier ∷ supplier ∷ [], None) ∷ (1, supplier ∷ supplier ∷ [], Some read.TooManyRows)
    ∷ (0, supplier ∷ supplier ∷ [], Some read.TooManyRows)
    ∷ (2, supplier ∷ codes "x" ∷ [], Some (read.FieldCount 2))
    ∷ (1, supplier ∷ codes "x" ∷ [], Some read.TooManyRows) ∷ [])
    × Gives (λ text. text_fault Supplier 1 (text ∷ [])) (
    ([], None) ∷ (supplier, None) ∷ (marked supplier, Some read.ByteOrderMark)
    ∷ (marked [], Some read.ByteOrderMark) ∷ (239 ∷ 187 ∷ [], Some (read.FieldCount 1))
    ∷ (codes "x", Some (read.FieldCount 1)) ∷ (supplier ++ codes "\nx", Some read.TooManyRows)
    ∷ [])
unfolding part_fault parts_fault record_fault first_answer column_of columns_of position_of pieces
texts = (refl, refl)

-- ---- keys: the first record whose key an earlier one has; of lineorder's keys both numbers count

repeats : Gives (first_repeat same_key) (
    ([], None) ∷ ((pos 1 ∷ []) ∷ (pos 2 ∷ []) ∷ [], None)
    ∷ ((pos 1 ∷ []) ∷ (pos 2 ∷ []) ∷ (pos 1 ∷ []) ∷ (pos 2 ∷ []) ∷ [], Some 3)
    ∷ ((pos 1 ∷ pos 1 ∷ []) ∷ (pos 1 ∷ pos 2 ∷ []) ∷ (pos 2 ∷ pos 1 ∷ []) ∷ [], None)
    ∷ ((pos 1 ∷ pos 1 ∷ []) ∷ (pos 1 ∷ pos 1 ∷ []) ∷ [], Some 2) ∷ [])
unfolding first_repeat first_answer
repeats = refl

faults_of_tables : Gives (fault_of_read Part) (
    (read.OutOfMemory, OutOfMemory) ∷ (read.ByteOrderMark, ByteOrderMark Part)
    ∷ (read.TooManyRows, TooManyRows Part) ∷ (read.FieldCount 3, FieldCount Part 3)
    ∷ (read.CellTooLong 3 2, CellTooLong Part 3 2) ∷ (read.BadByte 3 2, BadByte Part 3 2)
    ∷ (read.BadNumber 3 2, BadNumber Part 3 2) ∷ [])
faults_of_tables = refl

-- ---- five tables: the first record with a key that isn't there, and of its keys the first column;
-- a column that refers to no table is never absent; and the limit is that of the rows of each table

foreign : Gives (λ c. foreign_key_fault five 4 [] c)
    ((LoTax, None) ∷ (LoOrderdate, Some (AbsentKey 4 LoOrderdate)) ∷ [])
    × Gives absent_fault (
    (five, None) ∷ (record five { date = [] }, Some (AbsentKey 1 LoOrderdate))
    ∷ (record five { part = []; date = [] }, Some (AbsentKey 1 LoPartkey)) ∷ [])
unfolding absent_fault keys_of foreign_keys first_answer column_of columns_of position_of pieces
foreign = (refl, refl)

loads : Gives (λ most. load_fault most sample_texts) (
    (5, None) ∷ (4, Some (TooManyRows Lineorder)) ∷ (2, Some (TooManyRows Date)) ∷ [])
unfolding tables_fault absent_fault keys_of foreign_keys first_repeat part_fault parts_fault
    record_fault first_answer column_of columns_of position_of pieces
loads = refl

-- ---- columns as they were read: two numbers and two texts; a position that a column hasn't is 0

abbrev two : List RawColumn
two = Numbers (pos 7 ∷ pos 8 ∷ []) ∷ Texts (codes "a" ∷ codes "b" ∷ []) ∷ []

columns : (map raw_kind two ≡ kind.Number ∷ kind.Text ∷ [])
    × (map values two
    ≡ (Number (pos 7) ∷ Number (pos 8) ∷ []) ∷ (Text (codes "a") ∷ Text (codes "b") ∷ []) ∷ [])
    × Gives (λ n. first_rows n (map values two)) (
    (0, []) ∷ (1, (Number (pos 7) ∷ Text (codes "a") ∷ []) ∷ [])
    ∷ (2, (Number (pos 7) ∷ Text (codes "a") ∷ []) ∷ (Number (pos 8) ∷ Text (codes "b") ∷ []) ∷ [])
    ∷ [])
    × (row_of_columns (map values two) 2 ≡ Number (pos 0) ∷ Number (pos 0) ∷ [])
unfolding first_rows
columns = (refl, refl, refl, refl)

texts_of_tables : (texts : five_texts.Texts) → map (texts_view texts) TABLES
    ≡ (texts.date.now ∷ []) ∷ (texts.customer.now ∷ []) ∷ (texts.supplier.now ∷ [])
    ∷ (texts.part.now ∷ []) ∷ map (λ part. part.now) texts.lineorder.now ∷ []
texts_of_tables _ = refl
