-- Records, cells, rows, dictionaries and bounds of small texts, at the ends of what is allowed and
-- one past them.
use Rattle.std.{proofs.Common.{◌≡◌, ◌≤◌, ℕ, true, false, List, [], ◌∷◌, Some, None, pos, negsuc, refl, arith}, specs.Prelude.{◌++◌, codes, replicate}, proofs.lemmas.List.Elements.{All-from_recursion, recursion_from_All}}
use Rattle.star_common.proofs.Tables.{Gives, Gives2}
use Rattle.star_schema.specs.declared.column.Kind.TheVariants as kind
use Rattle.star_schema.specs.{declared.column.ColumnId.TheVariants.CName, declared.table.TableId.TheVariants.Customer, Bounds.{greatest, least, number_in}, Dictionary.{codes_of, dictionary_of, high_in, low_in}, Most.{most_rows, most_visits}, Records.{fields_of, pieces, records_in, records_of}, Schema.{column_of, columns_of, position_of}, Texts.{text_in, texts_at, texts_of}, Tables.{IsRecordOf, IsRowOf, IsTable, Number, Text, Value, are_cells, cells_of, is_cell, number_of, row_of, rows_of, value_at, values_of}}

limits : (most_rows ≡ 1000000000) × (most_visits ≡ 1000000000000000)
limits = (refl, refl)

-- a carriage return and a line feed end lines, the bytes after them don't, and empty lines are
-- none; a field is what lies between bars, also where nothing does
records_and_fields :
    (records_of (97 ∷ 13 ∷ 10 ∷ 98 ∷ 14 ∷ 11 ∷ 10 ∷ 10 ∷ 99 ∷ [])
    ≡ (97 ∷ []) ∷ (98 ∷ 14 ∷ 11 ∷ []) ∷ (99 ∷ []) ∷ [])
    × (fields_of (codes "|a}||b") ≡ [] ∷ codes "a}" ∷ [] ∷ codes "b" ∷ [])
    × (records_in (codes "a" ∷ [] ∷ (98 ∷ 10 ∷ []) ∷ (10 ∷ 99 ∷ []) ∷ [])
    ≡ codes "a" ∷ codes "b" ∷ codes "c" ∷ [])
unfolding pieces
records_and_fields = (refl, refl, refl)

cells : Gives2 is_cell (
    (kind.Text, [], true)
    ∷ (kind.Text, replicate 255 65, true)
    ∷ (kind.Text, replicate 256 65, false)
    ∷ (kind.Text, 32 ∷ 126 ∷ [], true)
    ∷ (kind.Text, 31 ∷ [], false)
    ∷ (kind.Text, 127 ∷ [], false)
    ∷ (kind.Number, codes "-123456789012345678", true)
    ∷ (kind.Number, codes "1234567890123456789", false)
    ∷ (kind.Number, codes "-", false)
    ∷ (kind.Number, codes "1a", false)
    ∷ (kind.Number, codes "--1", false)
    ∷ [])
cells = refl

-- an empty field after the last column's is no cell, and any other is
cells_of_fields : Gives2 cells_of (
    (2, codes "a" ∷ codes "b" ∷ [] ∷ [], codes "a" ∷ codes "b" ∷ [])
    ∷ (2, codes "a" ∷ [] ∷ [], codes "a" ∷ [] ∷ [])
    ∷ (2, codes "a" ∷ codes "b" ∷ codes "c" ∷ [], codes "a" ∷ codes "b" ∷ codes "c" ∷ [])
    ∷ (1, codes "a" ∷ [] ∷ [] ∷ [], codes "a" ∷ [] ∷ [] ∷ [])
    ∷ [])
cells_of_fields = refl

kinds_of_cells : Gives2 are_cells (
    (kind.Number ∷ kind.Text ∷ [], codes "1" ∷ codes "a" ∷ [], true)
    ∷ (kind.Number ∷ kind.Text ∷ [], codes "a" ∷ codes "a" ∷ [], false)
    ∷ (kind.Number ∷ kind.Number ∷ [], codes "1" ∷ codes "a" ∷ [], false)
    ∷ (kind.Text ∷ kind.Text ∷ [], codes "a" ∷ [], false)
    ∷ (kind.Text ∷ [], codes "a" ∷ codes "b" ∷ [], false)
    ∷ [])
kinds_of_cells = refl

values : (values_of (kind.Number ∷ kind.Text ∷ []) (codes "1" ∷ codes "1" ∷ [])
    ≡ Number (pos 1) ∷ Text (codes "1") ∷ [])
    × Gives number_of ((codes "0120", pos 120) ∷ (codes "-12", negsuc 11) ∷ [])
values = (refl, refl)

abbrev line : List ℕ
line = codes "7|n|a|c|u|r|p|m|"

abbrev row : ℕ → List Value
row key = Number (pos key) ∷ Text (codes "n") ∷ Text (codes "a") ∷ Text (codes "c")
    ∷ Text (codes "u") ∷ Text (codes "r") ∷ Text (codes "p") ∷ Text (codes "m") ∷ []

-- rows follow the parts, and the first part has no line end
rows : (row_of Customer line ≡ row 7)
    × Gives (rows_of Customer) (
    ((line ++ (10 ∷ codes "8|n|a|c|u|r|p|m")) ∷ [], row 7 ∷ row 8 ∷ [])
    ∷ (line ∷ [] ∷ codes "8|n|a|c|u|r|p|m" ∷ [], row 7 ∷ row 8 ∷ [])
    ∷ ([], [])
    ∷ [])
    × IsRowOf Customer (row 7)
unfolding pieces columns_of column_of
rows = (refl, refl, refl)

-- the limit is that of all parts
a_table : IsTable Customer 2 (line ∷ [] ∷ line ∷ [])
unfolding pieces columns_of column_of
a_table =
    (omega arith, All-from_recursion (IsRecordOf Customer) (line ∷ line ∷ []) (refl, (refl, tt)))

no_row_more : IsTable Customer 1 (line ∷ line ∷ []) → ⊥
unfolding pieces
no_row_more h = let e : 2 ≤ 1 = h.0 in omega (arith, e)

-- a record that is cut by a part's end is two
cut_by_a_part : IsTable Customer 2 (codes "7|n|a|c" ∷ codes "|u|r|p|m|" ∷ []) → ⊥
unfolding pieces columns_of column_of
cut_by_a_part h = let e : false ≡ true =
    (recursion_from_All (IsRecordOf Customer) (codes "7|n|a|c" ∷ codes "|u|r|p|m|" ∷ []) h.1).0 in
    absurd (cc)

-- the value at a row and a position, and what is read from it
values_there :
    (value_at (row 7 ∷ row 8 ∷ []) 1 2 ≡ Some (Text (codes "a")))
    × (value_at (row 7 ∷ row 8 ∷ []) 2 0 ≡ None) × (value_at (row 7 ∷ []) 0 8 ≡ None)
    × Gives number_in
    ((Some (Number (pos 3)), pos 3) ∷ (Some (Text (codes "3")), pos 0) ∷ (None, pos 0) ∷ [])
    × Gives text_in ((Some (Text (codes "3")), codes "3") ∷ (Some (Number (pos 3)), []) ∷ [])
    × (texts_of CName (row 7 ∷ []) ≡ codes "n" ∷ [])
unfolding column_of position_of texts_at
values_there = (refl, refl, refl, refl, refl, refl)

bounds : Gives least ((pos 2 ∷ negsuc 0 ∷ pos 5 ∷ [], negsuc 0) ∷ ([], pos 0) ∷ [])
    × Gives greatest ((pos 2 ∷ pos 5 ∷ negsuc 0 ∷ [], pos 5) ∷ ([], pos 0) ∷ [])
unfolding least greatest
bounds = (refl, refl)

abbrev brands : List (List ℕ)
brands = codes "MFGR#121" ∷ codes "MFGR#2221" ∷ codes "MFGR#1440" ∷ codes "MFGR#121" ∷ []

-- of a text that is there, of one between two, and at either end
dictionaries : (dictionary_of brands ≡ codes "MFGR#121" ∷ codes "MFGR#1440" ∷ codes "MFGR#2221" ∷ [])
    × (codes_of brands ≡ pos 0 ∷ pos 2 ∷ pos 1 ∷ pos 0 ∷ [])
    × Gives (low_in (dictionary_of brands))
    ((codes "MFGR#2221", 2) ∷ (codes "MFGR#2", 2) ∷ (codes "Z", 3) ∷ [])
    × Gives (high_in (dictionary_of brands))
    ((codes "MFGR#2221", 3) ∷ (codes "MFGR#2", 2) ∷ (codes "A", 0) ∷ ([], 0) ∷ [])
unfolding dictionary_of
dictionaries = (refl, refl, refl, refl)
