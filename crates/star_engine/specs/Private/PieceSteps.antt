-- The progress of reading a table file.
use Rattle.std.specs.{Prelude.{◌≡◌, ◌≤◌, ◌+◌, ℕ, List, Option, length}, Io.KnownBytes.Consumes}
use Rattle.star_reader.specs.Partway.{Reading}
use Rattle.star_engine.specs.{declared.input.Input.Input, Reading.{ReadingGoesOn, came_of, has_failed, reader_of, reads_of}}

-- `reads` reads returned `taken` bytes, none failed, and the table's reader has continued by these
-- bytes
pub record HasFed {R : Type 0} (remaining : R → Option (List ℕ)) (first now : Input R)
    (before after : Reading) (reads taken : ℕ) : Type 0 where
  pub bytes : List ℕ
  pub size : length bytes ≡ taken
  pub consumed : Consumes (remaining (reader_of first)) (remaining (reader_of now)) bytes
  pub on : ReadingGoesOn before after bytes
  pub counted : reads ≤ taken
  pub came : taken ≤ came_of now
  pub asked : reads_of now ≤ reads_of first + reads
  pub unfailed : has_failed now ≡ has_failed first
