-- The tables of a folder are loaded, or the reason why not is printed.
use Rattle.std.specs.Prelude.{◌≡◌, ◌⊎◌, ◌≤◌, ◌+◌, ⊤, ℕ, List, [], None, length}
use Rattle.star_schema.specs.{declared.table.TableId.TheVariants.{Date, Customer, Supplier, Part, Lineorder}, Most.{most_rows, most_visits}, Database.TableTexts, Loadable.IsLoadable, declared.table.TableId.TableId}
use Rattle.star_words.specs.declared.fault.WordsFault.TheVariants.{EmptyFolder}
use Rattle.star_engine.specs.{declared.fault.EngineFault.EngineFault, Answered.Change, Answered.IsUntouched, Answered.OrMemory, Loads.IsLoadError, Loads.Loaded, Loads.loaded_of}
use Rattle.star_service.specs.Lines.{IsFaultPrinted}
use Rattle.star_cli.specs.declared.failure.Failure.TheVariants as failures
use Rattle.star_cli.specs.{Failures.IsFailurePrinted, Stores.ArePartsFrom, Stores.AreTablesIn, Stores.IsAt, Stores.IsTextIn, Stores.Known, Stores.path_in, Stores.table_name, declared.failure.Failure.Failure}

-- ---- files that can't be read

-- a table is there
abbrev pub IsThere : Known → (folder : List ℕ) → TableId → Type 0
IsThere known folder table = (text : List (List ℕ)) × IsTextIn known folder table text

-- the tables before this one are
abbrev pub AreBefore : Known → (folder : List ℕ) → TableId → Type 0
AreBefore known folder Date = ⊤
AreBefore known folder Customer = IsThere known folder Date
AreBefore known folder Supplier = IsThere known folder Date × IsThere known folder Customer
AreBefore known folder Part = IsThere known folder Date × IsThere known folder Customer
    × IsThere known folder Supplier
AreBefore known folder Lineorder = IsThere known folder Date × IsThere known folder Customer
    × IsThere known folder Supplier × IsThere known folder Part

-- the parts of lineorder before this number are there
abbrev pub ArePartsUpTo : Known → (folder : List ℕ) → (number : ℕ) → Type 0
ArePartsUpTo known folder number = (parts : List (List ℕ)) × ArePartsFrom known folder 1 parts
    × (length parts + 1 ≡ number) × (number ≤ 1001)

-- the first file of the tables that can't be read; or memory runs out
abbrev pub AreTablesUnread : Known → (folder : List ℕ) → Failure → Type 0
AreTablesUnread known folder (failures.File name) =
    (table : TableId) × (name.now ≡ table_name table) × AreBefore known folder table
AreTablesUnread known folder (failures.Part number) =
    IsAt known (path_in folder (table_name Lineorder)) None × ArePartsUpTo known folder number
    × AreBefore known folder Lineorder
AreTablesUnread known folder failures.OutOfMemory = ⊤
AreTablesUnread known folder failure = ⊥

-- the tables of a folder can't be read; a folder has a name
abbrev pub IsFolderUnread : Known → (folder : List ℕ) → Failure → Type 0
IsFolderUnread known folder (failures.Words EmptyFolder) = folder ≡ []
IsFolderUnread known folder failure = AreTablesUnread known folder failure

-- ---- a load

-- an engine over the tables of a folder, under the widest limits
abbrev pub IsLoadedFrom : Known → (folder : List ℕ) → Loaded → Type 0
IsLoadedFrom known folder loaded = (texts : TableTexts) × AreTablesIn known folder texts
    × IsLoadable most_rows texts × (loaded ≡ loaded_of most_rows most_visits texts)

-- the failure to read them, or their first fault, is printed with its status
abbrev pub IsFolderRefused : {S E : Type 0} → Known → (folder : List ℕ) → Change S → Change E → ℕ
    → Type 0
IsFolderRefused known folder out err status =
    ((failure : Failure) × IsFolderUnread known folder failure
    × IsFailurePrinted failure out err status)
    ⊎ (IsUntouched out × (texts : TableTexts) × AreTablesIn known folder texts
    × (fault : EngineFault) × OrMemory (IsLoadError most_rows texts) fault
    × IsFaultPrinted err fault status)
