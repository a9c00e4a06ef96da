-- How far the tables of a folder are read.
use Rattle.std.specs.Prelude.{◌≡◌, ◌++◌, ⊤, Bool, true, false, List, [], ℕ, Option, None}
use Rattle.star_schema.specs.{declared.table.TableId.TheVariants.Lineorder, Database.TableTexts, Loadable.{IsLoadable, database_of}, Most.{most_rows, most_visits}, declared.table.TableId.TableId}
use Rattle.star_catalogue.specs.{Pieces.AreRead, declared.read_tables.ReadTables.ReadTables}
use Rattle.star_reader.specs.Partway.{HasRead, HasReadText, Reading}
use Rattle.star_engine.specs.{Loads.Loaded, Reading.GoesOnByPart}
use Rattle.star_cli.specs.{Stores.{AreParts, AreTablesIn, IsAt, IsFile, IsTextIn, Known, part_name, path_in, table_name}, FolderLoads.ArePartsUpTo, declared.failure.Failure.Failure, declared.progress.TableFile.TableFile, declared.progress.TableFile.TheVariants.Named}
use Rattle.star_cli.specs.declared.failure.Failure.TheVariants as failures
use Rattle.star_cli.specs.declared.progress.TableFile.TheVariants as file

abbrev pub name_of : TableFile → List ℕ
name_of (file.Named name) = name.now
name_of (file.Part number) = part_name number

-- the failure of a file of the tables
abbrev pub failure_named : TableFile → Failure
failure_named (file.Named name) = failures.File name
failure_named (file.Part number) = failures.Part number

-- a reader of a table has continued by the file at a path; or there is none
abbrev pub IsFed : Known → (path : List ℕ) → Bool → Reading → Reading → Type 0
IsFed known path true old new =
    (bytes : List ℕ) × IsFile known 1000000000000 path bytes × GoesOnByPart old new bytes
IsFed known path false old new = IsAt known path None × (new ≡ old)

-- a reader of a table, between two parts, has continued by these parts
abbrev pub GoesOnByParts : Reading → Reading → List (List ℕ) → Type 0
GoesOnByParts old new parts = (table : TableId) (most : ℕ) (before : List (List ℕ))
    → HasRead old table most before [] → HasRead new table most (before ++ parts) []

-- it has continued by the parts of lineorder, if there are some
abbrev pub ArePartsFed : Known → (folder : List ℕ) → Bool → Reading → Reading → Type 0
ArePartsFed known folder true old new =
    (parts : List (List ℕ)) × AreParts known folder parts × GoesOnByParts old new parts
ArePartsFed known folder false old new = ⊤

-- by lineorder, if there is a file of it
abbrev pub IsLineorderFed : Known → (folder : List ℕ) → Bool → Reading → Reading → Type 0
IsLineorderFed known folder true old new =
    (text : List (List ℕ)) × IsTextIn known folder Lineorder text × GoesOnByParts old new text
IsLineorderFed known folder false old new = ⊤

-- a reader has been given a table of a folder
abbrev pub IsReadIn : Known → (folder : List ℕ) → TableId → Reading → Type 0
IsReadIn known folder table reading =
    (text : List (List ℕ)) × IsTextIn known folder table text
    × HasReadText reading table most_rows text

-- so has the reader of lineorder: all of it, or only one part
abbrev pub IsLineorderRead : Known → (folder : List ℕ) → (only : Option ℕ) → Reading → Type 0
IsLineorderRead known folder only reading = (text : List (List ℕ))
    × (only ≡ None → IsTextIn known folder Lineorder text)
    × HasReadText reading Lineorder most_rows text

-- so have the readers of the five tables
abbrev pub AreAllRead : Known → (folder : List ℕ) → (only : Option ℕ) → ReadTables → Type 0
AreAllRead known folder only read = (texts : TableTexts)
    × (only ≡ None → AreTablesIn known folder texts) × AreRead read most_rows texts

-- ---- files that can't be read

-- the file of a table, or memory runs out
abbrev pub IsTableUnread : TableId → Failure → Type 0
IsTableUnread table (failures.File name) = name.now ≡ table_name table
IsTableUnread table failures.OutOfMemory = ⊤
IsTableUnread table failure = ⊥

abbrev pub ArePartsUnread : Known → (folder : List ℕ) → Failure → Type 0
ArePartsUnread known folder (failures.Part number) = ArePartsUpTo known folder number
ArePartsUnread known folder failures.OutOfMemory = ⊤
ArePartsUnread known folder failure = ⊥

abbrev pub IsLineorderUnread : Known → (folder : List ℕ) → Failure → Type 0
IsLineorderUnread known folder (failures.Part number) =
    IsAt known (path_in folder (table_name Lineorder)) None × ArePartsUpTo known folder number
IsLineorderUnread known folder failure = IsTableUnread Lineorder failure

-- an engine over rows that can be loaded, under the widest limits
abbrev pub IsWidest : Loaded → Type 0
IsWidest loaded =
    ((texts : TableTexts) × IsLoadable most_rows texts × (loaded.database ≡ database_of texts))
    × (loaded.rows ≡ most_rows) × (loaded.visits ≡ most_visits)
