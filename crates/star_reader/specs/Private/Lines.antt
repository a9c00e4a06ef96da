-- What a reader of a table file has left, in records.
use Rattle.std.specs.{Prelude.{◌≡◌, ◌++◌, ℕ, List, [], Bool, false, Some, filter}, Bool.MatchBool, Borrow.Bor}
use Rattle.csv.specs.{Reading.{Ready, default_config, reader_config, reader_state, reader_trim, source_of}, declared.parser.Config.Config, declared.reader.Reader.Reader}
use Rattle.star_schema.specs.Records.{is_filled, records_of}
use Rattle.csv.specs.declared.parser.State.TheVariants as st
use Rattle.csv.specs.declared.parser.Terminator.TheVariants as term
use Rattle.csv.specs.declared.reader.Trim.TheVariants as trim

-- line feeds between fields, carriage returns between records, and no quotes
abbrev pub by_lines : Config
by_lines = record default_config { delimiter = 10; quoting = false; terminator = term.Any 13 }

-- the reader is set up for table files, is between records, and has these records left
pub record IsBetween (reader : Reader (Bor (List ℕ))) (lines : List (List ℕ)) : Type 0 where
  pub untrimmed : reader_trim reader ≡ trim.None
  pub config : reader_config reader ≡ by_lines
  pub between : reader_state reader ≡ st.StartRecord
  pub bytes : List ℕ
  pub source : source_of (λ (s : Bor (List ℕ)). Some s.now) reader ≡ Some bytes
  pub left : records_of bytes ≡ lines

-- and its header row is not the next one
pub record HasLeft (reader : Reader (Bor (List ℕ))) (lines : List (List ℕ)) : Type 0 where
  pub ready : Ready reader
  pub between : IsBetween reader lines

-- the fields of a read that have a byte are the first records, and the others remain
pub record TakesSome (lines fields : List (List ℕ)) (reader : Reader (Bor (List ℕ)))
    : Type 0 where
  pub others : List (List ℕ)
  pub was : lines ≡ filter is_filled fields ++ others
  pub rest : HasLeft reader others

-- a read gave some records, or there was none
abbrev pub ReadsSome : Bool → List (List ℕ) → List (List ℕ) → Reader (Bor (List ℕ)) → Type 0
ReadsSome found lines fields reader = MatchBool found (TakesSome lines fields reader) (lines ≡ [])
