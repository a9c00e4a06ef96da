-- The tables of a folder, which are read in pieces.
use Rattle.std.specs.Prelude.{ℕ, List}
use Rattle.star_schema.specs.{declared.table.TableId.TableId, Database.TableTexts, Most.most_rows}
use Rattle.star_reader.specs.Partway.{HasReadText, Reading}
use Rattle.star_catalogue.specs.{Pieces.AreRead, declared.read_tables.ReadTables.ReadTables}
use Rattle.star_cli.specs.Stores.{AreTablesIn, Known}

-- a reader has been given some text, under the widest limits
abbrev pub HasReadSome : Reading → TableId → Type 0
HasReadSome reader table = (text : List (List ℕ)) × HasReadText reader table most_rows text

-- readers have been given the texts of five tables, under the widest limits
abbrev pub AreWidelyRead : ReadTables → Type 0
AreWidelyRead read = (texts : TableTexts) × AreRead read most_rows texts

-- the texts of a folder
abbrev pub AreReadIn : Known → (folder : List ℕ) → ReadTables → Type 0
AreReadIn known folder read =
    (texts : TableTexts) × AreTablesIn known folder texts × AreRead read most_rows texts
