-- What is read before a run, a program's file and five texts, and the errors of reading them. Also
-- what holds of all loaded rows.
use Rattle.std.specs.Prelude.{◌≡◌, ℕ, List, All, Some}
use Rattle.star_schema.specs.{declared.table.TableId.TableId, Database.Database, Database.TableTexts, Database.rows_in, Loadable.IsLoadable, Loadable.IsSound, Loadable.database_of, Tables.IsRowOf, Columns.AreBoundsI64, Columns.bounds_in}
use Rattle.star_catalogue.specs.{Load.load_fault, declared.fault.LoadFault.LoadFault}
use Rattle.star_program.specs.{declared.program.Parts.Parts, Limits.IsWithinLimits, Text.FirstFaults.FirstTextFault, Text.Spelling.Spells}
use Rattle.star_engine.specs.{declared.fault.EngineFault.EngineFault, declared.fault.EngineFault.TheVariants.Load, declared.fault.EngineFault.TheVariants.Program}

-- the first error of five texts that cannot be loaded
pub record IsLoadFault (most : ℕ) (texts : TableTexts) (fault : LoadFault)
    : Type 0 where
  pub first : load_fault most texts ≡ Some fault
  pub not_loadable : ¬ IsLoadable most texts

-- the rows of five tables as a load leaves them: the keys of each table are distinct and each
-- foreign key refers to a row; each row has a value of the right type for each column; and the
-- bounds of the numeric columns have 64 bits
pub record AreLoadedRows (database : Database) : Type 0 where
  pub sound : IsSound database
  pub rows : (t : TableId) → All (IsRowOf t) (rows_in database t)
  pub bounds : AreBoundsI64 (bounds_in (rows_in database))

-- some five texts that can be loaded hold these rows
abbrev pub AreOfLoadableTexts : (most : ℕ) → Database → Type 0
AreOfLoadableTexts most database =
    ∥ ((texts : TableTexts) × IsLoadable most texts × (database ≡ database_of texts)) ∥₁

-- the loaded rows, the limit on rows of their load, and the limit on visits
pub record Loaded : Type 0 where
  pub database : Database
  pub rows : ℕ
  pub visits : ℕ

-- the result of loading five texts
abbrev pub loaded_of : (rows visits : ℕ) → TableTexts → Loaded
loaded_of rows visits texts =
    record { database = database_of texts; rows = rows; visits = visits }

-- the texts can be loaded, and this holds of their rows
pub record HoldsOfRows (most : ℕ) (texts : TableTexts) (Holds : Database → Type 0)
    : Type 0 where
  pub loadable : IsLoadable most texts
  pub holds : Holds (database_of texts)

-- a program within the limits that a file spells
pub record IsProgramOf (file : List ℕ) (program : Parts) : Type 0 where
  pub spelled : Spells file program
  pub limits : IsWithinLimits program

-- a file that spells a program within the limits
abbrev pub IsProgram : List ℕ → Type 0
IsProgram file = (program : Parts) × IsProgramOf file program

-- the file spells a program, and this holds of the program
pub record HoldsOfFile (file : List ℕ) (Holds : Parts → Type 0) : Type 0 where
  pub program : Parts
  pub of_file : IsProgramOf file program
  pub holds : Holds program

-- why there are no loaded tables
abbrev pub IsLoadError : ℕ → TableTexts → EngineFault → Type 0
IsLoadError most texts (Load fault) = IsLoadFault most texts fault
IsLoadError most texts _ = ⊥

-- why a file is not a program
abbrev pub IsProgramError : List ℕ → EngineFault → Type 0
IsProgramError file (Program fault) = FirstTextFault file fault
IsProgramError file _ = ⊥

-- why there is no program over loaded tables: the file is read first
abbrev pub IsProgramInputError : ℕ → TableTexts → List ℕ → EngineFault → Type 0
IsProgramInputError most texts file (Load fault) = IsProgram file × IsLoadFault most texts fault
IsProgramInputError most texts file fault = IsProgramError file fault
