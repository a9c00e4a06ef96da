-- The steps of a command.
use Rattle.std.specs.{Prelude.{◌≡◌, ◌⊎◌, List, ℕ, Option, Some, None}, Borrow.Bor}
use Rattle.star_schema.specs.{Most.most_rows, Database.TableTexts}
use Rattle.star_catalogue.specs.{Pieces.AreRead, declared.read_tables.ReadTables.ReadTables}
use Rattle.star_words.specs.{Requests.HasMostRows, declared.request.Request.TheVariants.Answer, declared.request.Task.Task, declared.request.Task.TheVariants.Explain}
use Rattle.star_service.specs.ReportSinks.{SinkChange}
use Rattle.star_cli.specs.{Commands.{AreTablesOf, IsFileOf}, Answers.IsOfTables, Failures.IsReadError, FolderLoads.AreTablesUnread, ReadFolders.AreReadIn, Stores.{IsGivenFile, Known}, declared.commands.Read.Read, declared.failure.Failure.Failure}

-- the tables that were read for a task have these texts; only an explanation needs none
abbrev pub AreTablesFor : Task → TableTexts → Option ReadTables → Type 0
AreTablesFor task texts (Some tables) =
    AreRead tables most_rows texts × (HasMostRows (Answer task) → IsOfTables task)
AreTablesFor task texts None = (path : Bor (List ℕ)) × (task ≡ Explain path)

-- what was read for a task
abbrev pub IsReadFor : Known → Task → Read → Type 0
IsReadFor known task read = (texts : TableTexts) × AreTablesOf known task texts
    × IsFileOf known task read.file.items × AreTablesFor task texts read.tables

-- the tables of a folder were read
abbrev pub HasTables : Known → (folder : List ℕ) → Read → Type 0
HasTables known folder read =
    (tables : ReadTables) × (read.tables ≡ Some tables) × AreReadIn known folder tables

-- and a file
abbrev pub HasBoth : Known → (folder path : List ℕ) → Read → Type 0
HasBoth known folder path read =
    HasTables known folder read × IsGivenFile known path read.file.items

-- one of them was not: the file, or else a table
abbrev pub IsOneUnread : Known → (folder path : List ℕ) → Failure → Type 0
IsOneUnread known folder path failure = IsReadError path failure
    ⊎ ((file : List ℕ) × IsGivenFile known path file × AreTablesUnread known folder failure)

-- some report sink keeps reports
abbrev pub IsKept : {K : Type 0} → (SinkChange K → Type 0) → Type 0
IsKept {K} Is = (sink : SinkChange K) × Is sink
