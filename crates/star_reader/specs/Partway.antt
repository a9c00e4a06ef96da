-- How far a table has been read whose text comes in pieces.
use Rattle.std.specs.{Prelude.{◌≡◌, ◌≤◌, ◌+◌, ◌++◌, ◌∷◌, if◌then◌else◌, Bool, true, ℕ, List, [], Option, Some, MatchOption, length, map}, List.list_all, Option.option_or}
use Rattle.star_common.specs.Memory.{UnlessMemory}
use Rattle.star_schema.specs.{declared.table.TableId.TableId, Records.records_in, Records.records_of, Schema.kinds_of, Tables.row_of}
use Rattle.star_reader.specs.{declared.column.RawColumn.RawColumn, declared.fault.ReadFault.ReadFault, declared.fault.ReadFault.TheVariants.OutOfMemory, declared.progress.Progress.Progress, Columns.{AreColumnsOf, first_rows, values}, Faults.{part_fault, parts_fault, records_fault, text_fault}, Carried.{is_inner, StandsFor}}

-- the first fault of the rest of a part: of all of it, or of the records after a line end
abbrev pub left_fault : (is_start : Bool) → TableId → ℕ → ℕ → List ℕ → Option ReadFault
left_fault is_start table most from left =
    if is_start then part_fault table most from left
    else records_fault table most from (records_of left)

-- some parts of a table's text, and the front `text` of the next one, have been read, and no fault
-- was found: the rows of the records that ended are in the columns, and the record that is open
-- is carried
pub record IsPartway (table : TableId) (most : ℕ) (parts : List (List ℕ)) (text : List ℕ)
    (progress : Progress) (columns : List RawColumn) : Type 0 where
  pub of_table : AreColumnsOf table progress.rows columns
  pub few : progress.rows ≤ most
  pub carried : List ℕ
  pub of_text : length carried ≤ length text
  pub stands : StandsFor (kinds_of table) progress.line carried
  pub inner : list_all is_inner carried ≡ true
  pub no_fault : (more : List ℕ) (later : List (List ℕ))
      → text_fault table most (parts ++ (text ++ more) ∷ later)
      ≡ option_or (left_fault progress.is_start table most (progress.rows + 1) (carried ++ more))
      (parts_fault table most (progress.rows + 1 + length (records_of (carried ++ more))) later)
  pub so_far : (more : List ℕ)
      → first_rows progress.rows (map values columns)
      ++ map (row_of table) (records_of (carried ++ more))
      ≡ map (row_of table) (records_in (parts ++ (text ++ more) ∷ []))

-- whatever follows some parts and the front `text` of the next one, this is the first fault
abbrev pub IsFaultOf : TableId → ℕ → List (List ℕ) → List ℕ → ReadFault → Type 0
IsFaultOf table most parts text fault = (more : List ℕ) (later : List (List ℕ))
    → text_fault table most (parts ++ (text ++ more) ∷ later) ≡ Some fault

-- how far a reader is: which table it reads, of at most how many rows, and its first fault so far
pub record Reading : Type 0 where
  pub table : TableId
  pub most : ℕ
  pub progress : Progress
  pub columns : List RawColumn
  pub fault : Option ReadFault

-- a reader of a table of at most `most` rows has been given these parts of its text, and the front
-- `text` of the next one
pub record HasRead (reader : Reading) (table : TableId) (most : ℕ) (parts : List (List ℕ))
    (text : List ℕ) : Type 0 where
  pub of_table : reader.table ≡ table
  pub limit : reader.most ≡ most
  pub come : MatchOption reader.fault
      (IsPartway reader.table reader.most parts text reader.progress reader.columns)
      (λ fault. UnlessMemory OutOfMemory fault
      (IsFaultOf reader.table reader.most parts text fault))

-- the parts of a text; the last one counts if it has a byte
abbrev pub parts_with : List (List ℕ) → List ℕ → List (List ℕ)
parts_with parts [] = parts
parts_with parts (b ∷ text) = parts ++ (b ∷ text) ∷ []

-- a reader of a table of at most `most` rows has been given this text, in parts
pub record HasReadText (reader : Reading) (table : TableId) (most : ℕ) (text : List (List ℕ))
    : Type 0 where
  pub parts : List (List ℕ)
  pub left : List ℕ
  pub read : HasRead reader table most parts left
  pub whole : text ≡ parts_with parts left
