-- The first faults of small texts in parts, and texts that come in pieces.
use Rattle.std.{proofs.Common.{◌≡◌, ℕ, List, [], ◌∷◌, Some, None, true, false, refl}, specs.Prelude.{◌++◌, codes}}
use Rattle.star_common.{specs.First.first_answer, proofs.Tables.{Gives, Gives2}}
use Rattle.star_schema.specs.{Records.pieces, Schema.column_of, Schema.columns_of, declared.table.TableId.TheVariants.Customer, declared.table.TableId.TheVariants.Supplier}
use Rattle.star_reader.specs.{declared.fault.ReadFault.TheVariants.{BadByte, BadNumber, ByteOrderMark, FieldCount, TooManyRows}, Faults.{byte_order_mark, part_fault, parts_fault, record_fault, text_fault}, Partway.{left_fault, parts_with}, Pieces.{ended_of, open_of, records_from}}

abbrev line : List ℕ
line = codes "7|n|a|c|u|r|p|m|"

-- records count through the parts, and end with them; the limit is that of all parts; the mark of a
-- part comes before its records, and after the faults of the parts before; after a line end its
-- first byte is a bad one
parts : Gives2 (text_fault Customer) (
    (0, [], None) ∷ (0, [] ∷ [] ∷ [], None) ∷ (2, line ∷ [] ∷ line ∷ [], None)
    ∷ (9, line ∷ line ∷ codes "x|n|a|c|u|r|p|m|" ∷ [], Some (BadNumber 3 1))
    ∷ (9, line ∷ codes "7|n|a|c" ∷ codes "|u|r|p|m|" ∷ [], Some (FieldCount 2))
    ∷ (1, line ∷ line ∷ [], Some TooManyRows)
    ∷ (1, line ∷ (byte_order_mark ++ line) ∷ [], Some ByteOrderMark)
    ∷ (9, codes "x|n|a|c|u|r|p|m|" ∷ byte_order_mark ∷ [], Some (BadNumber 1 1))
    ∷ (9, (10 ∷ (byte_order_mark ++ line)) ∷ [], Some (BadByte 1 1)) ∷ [])
unfolding parts_fault part_fault pieces first_answer record_fault columns_of column_of
parts = refl

-- what a piece leaves open goes on with the next; the last part counts where it has a byte
of_pieces : Gives ended_of (
    (codes "a\nb\nc", codes "a\nb\n") ∷ (codes "ab", []) ∷ (codes "ab\n", codes "ab\n") ∷ [])
    × Gives open_of (
    (codes "a\nb\nc", codes "c") ∷ (codes "ab", codes "ab") ∷ (codes "ab\n", []) ∷ [])
    × (records_from (codes "a") (codes "b\nc" ∷ codes "d" ∷ codes "e\nf" ∷ [])
    ≡ codes "ab" ∷ codes "cde" ∷ codes "f" ∷ [])
    × Gives2 parts_with (
    (codes "a" ∷ [], codes "b", codes "a" ∷ codes "b" ∷ []) ∷ (codes "a" ∷ [], [], codes "a" ∷ [])
    ∷ [])
unfolding records_from ended_of open_of pieces
of_pieces = (refl, refl, refl, refl)

-- a mark is one at the start of a part alone; of at most five records this is the third
left_of_a_part : Gives2 (λ is_first text. left_fault is_first Supplier 5 3 text) (
    (true, byte_order_mark, Some ByteOrderMark) ∷ (true, codes "x", Some (FieldCount 3))
    ∷ (false, byte_order_mark, Some (FieldCount 3)) ∷ [])
unfolding part_fault pieces first_answer record_fault columns_of column_of
left_of_a_part = refl
