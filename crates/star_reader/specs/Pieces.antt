-- How a text that comes in pieces falls into records: what a piece leaves open goes on with the
-- next.
use Rattle.std.specs.{Prelude.{◌++◌, ◌∷◌, ◌+◌, if◌then◌else◌, ℕ, List, [], Option, length}, List.{flat_map, list_any}, Option.option_or}
use Rattle.star_schema.specs.{declared.table.TableId.TableId, Records.ends_line, Records.records_of}
use Rattle.star_reader.specs.{declared.fault.ReadFault.ReadFault, Faults.records_fault}

-- the text that pieces make, one after the other
abbrev pub joined_pieces : List (List ℕ) → List ℕ
joined_pieces pieces = flat_map (λ piece. piece) pieces

-- a text up to its last line end, and with it
unfoldable pub ended_of : List ℕ → List ℕ
ended_of [] = []
ended_of (b ∷ text) = if list_any ends_line (b ∷ text) then b ∷ ended_of text else []

-- the bytes after the last line end of a text
unfoldable pub open_of : List ℕ → List ℕ
open_of [] = []
open_of (b ∷ text) = if list_any ends_line (b ∷ text) then open_of text else b ∷ text

-- the records of a text that comes in pieces, after an open record: those that end in the first
-- piece, and then those of the others after the record that it leaves open
unfoldable pub records_from : List ℕ → List (List ℕ) → List (List ℕ)
records_from carried [] = records_of carried
records_from carried (piece ∷ later) =
    records_of (ended_of (carried ++ piece)) ++ records_from (open_of (carried ++ piece)) later

-- their first fault, piece by piece; the records count from a number
unfoldable pub fault_from : TableId → ℕ → ℕ → List ℕ → List (List ℕ) → Option ReadFault
fault_from table most from carried [] = records_fault table most from (records_of carried)
fault_from table most from carried (piece ∷ later) =
    option_or (records_fault table most from (records_of (ended_of (carried ++ piece))))
    (fault_from table most (from + length (records_of (ended_of (carried ++ piece))))
    (open_of (carried ++ piece)) later)
