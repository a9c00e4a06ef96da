-- The reads of a reader.
use Rattle.std.specs.Prelude.{◌≡◌, ◌++◌, ◌∷◌, Bool, false, ℕ, List, []}
use Rattle.star_schema.specs.declared.table.TableId.{TableId}
use Rattle.star_reader.specs.Partway.{HasRead, Reading}
use Rattle.star_engine.specs.declared.input.Input.{Input}

abbrev pub reader_of : {R : Type 0} → Input R → R
reader_of input = input.reader

-- the number of reads
abbrev pub reads_of : {R : Type 0} → Input R → ℕ
reads_of input = input.reads

-- the number of bytes that were read, as far as 64 bits count
abbrev pub came_of : {R : Type 0} → Input R → ℕ
came_of input = input.came

-- whether a read failed
abbrev pub has_failed : {R : Type 0} → Input R → Bool
has_failed input = input.failed

-- nothing has been read yet
pub record IsFresh {R : Type 0} (input : Input R) : Type 0 where
  pub reads : reads_of input ≡ 0
  pub came : came_of input ≡ 0
  pub failed : has_failed input ≡ false

-- a reader of a table has continued by these bytes of the part that is open
abbrev pub ReadingGoesOn : Reading → Reading → List ℕ → Type 0
ReadingGoesOn old new more = (table : TableId) (most : ℕ) (parts : List (List ℕ)) (text : List ℕ)
    → HasRead old table most parts text → HasRead new table most parts (text ++ more)

-- a reader of a table, between two parts, has continued by one more part with these bytes
abbrev pub GoesOnByPart : Reading → Reading → List ℕ → Type 0
GoesOnByPart old new part = (table : TableId) (most : ℕ) (parts : List (List ℕ))
    → HasRead old table most parts [] → HasRead new table most (parts ++ part ∷ []) []
