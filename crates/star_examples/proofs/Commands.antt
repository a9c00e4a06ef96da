-- What commands read, and what becomes of what can't be read: each type is the one on the right.
use Rattle.std.{proofs.Common.{◌≡◌, ◌⊎◌, ◌≤◌, ◌<◌, ◌+◌, ℕ, Bool, true, false, List, [], ◌∷◌, Option, Some, None, length, refl}, specs.Prelude.{⊤, codes}, specs.Borrow.Bor, specs.List.Contains}
use Rattle.star_common.proofs.Tables.{Gives}
use Rattle.star_schema.specs.{declared.limits.Limits.Limits, declared.table.TableId.TableId, declared.table.TableId.TheVariants.Customer, declared.table.TableId.TheVariants.Date, declared.table.TableId.TheVariants.Lineorder, declared.table.TableId.TheVariants.Part, declared.table.TableId.TheVariants.Supplier, Database.TableTexts, Most.most_rows}
use Rattle.star_reader.specs.Partway.{HasReadText}
use Rattle.star_catalogue.specs.Pieces.{AreRead}
use Rattle.star_engine.specs.{Answered.Change, Answered.OrMemory, Loads.Loaded, QuoteTexts.IsQuoteErrorOver, declared.fault.EngineFault.TheVariants.Write}
use Rattle.star_service.specs.Sessions.{IsSession}
use Rattle.star_cli.specs.{Commands.{Input, IsFileOf, IsHeld, IsOneRefused, IsPathRefused, IsTaskUnread, folder_of, greeting_of, path_of}, Failures.{IsFailurePrinted, IsReadError, failure_of_file, failure_of_halt}, FolderLoads.{AreBefore, ArePartsUpTo, AreTablesUnread, IsThere}, ReadFolders.{AreReadIn, AreWidelyRead, HasReadSome}, Stores.{AreParts, ArePartsFrom, AreTablesIn, IsAt, IsFile, IsGivenFile, IsTableFile, IsTextIn, IsWhole, Known, part_name, path_in, table_name}}
use Rattle.star_words.specs.declared.request.Task.TheVariants as task
use Rattle.star_words.specs.declared.request.Task.{Task}
use Rattle.star_service.specs.declared.reports.Halt.TheVariants as halts

-- ---- the tables of a folder, and the bounds of its files

names : Gives table_name (
    (Date, codes "date.tbl") ∷ (Customer, codes "customer.tbl") ∷ (Supplier, codes "supplier.tbl")
    ∷ (Part, codes "part.tbl") ∷ (Lineorder, codes "lineorder.tbl") ∷ [])
names = refl

module _ (known : Known) (folder path name bytes : List ℕ) (text : List (List ℕ)) where
  files : (IsFile known 5 path bytes ≡ (IsAt known path (Some bytes) × (length bytes ≤ 5)))
      × (IsTableFile known folder name bytes
      ≡ IsFile known 1000000000000 (path_in folder name) bytes)
      × (IsWhole known folder Part text ≡ ((it : List ℕ)
      × IsTableFile known folder (codes "part.tbl") it × (text ≡ it ∷ [])))
  files = (refl, refl, refl)

  parts : AreParts known folder text → (0 < length text) × (length text ≤ 1000)
      × ArePartsFrom known folder 1 text
      × IsAt known (path_in folder (part_name (length text + 1))) None
  parts p = (p.some, p.few, p.there, p.no_more)

  abbrev there : TableId → Type 0
  there table = (it : List (List ℕ)) × IsTextIn known folder table it

  -- a table is looked for after those before it; of 1,000 parts one more may be
  earlier : (IsThere known folder Part ≡ there Part) × (AreBefore known folder Date ≡ ⊤)
      × (AreBefore known folder Customer ≡ there Date)
      × (AreBefore known folder Supplier ≡ (there Date × there Customer))
      × (AreBefore known folder Part ≡ (there Date × there Customer × there Supplier))
      × (AreBefore known folder Lineorder
      ≡ (there Date × there Customer × there Supplier × there Part))
      × (ArePartsUpTo known folder 7 ≡ ((it : List (List ℕ)) × ArePartsFrom known folder 1 it
      × (length it + 1 ≡ 7) × (7 ≤ 1001)))
  earlier = (refl, refl, refl, refl, refl, refl, refl)

  under_the_widest_limits : (reader read : _) (table : TableId)
      → (HasReadSome reader table ≡ ((it : List (List ℕ)) × HasReadText reader table most_rows it))
      × (AreWidelyRead read ≡ ((texts : TableTexts) × AreRead read most_rows texts))
      × (AreReadIn known folder read
      ≡ ((texts : TableTexts) × AreTablesIn known folder texts × AreRead read most_rows texts))
  under_the_widest_limits reader read table = (refl, refl, refl)

-- ---- tasks, sessions and the files of reports

module _ (folder file : Bor (List ℕ)) (limits : Limits) where
  tasks : Gives folder_of (
      (task.Query folder file, Some folder.now) ∷ (task.Explain file, None) ∷ [])
      × Gives path_of (
      (task.Trial folder file limits, Some file.now) ∷ (task.Bench folder, None) ∷ [])
      × Gives greeting_of ((true, codes "loading the tables\n") ∷ (false, []) ∷ [])
  tasks = (refl, refl, refl)

module _ {S E : Type 0} (known : Known) (loaded : Loaded) (input : Input) (out : Change S)
    (err : Change E) (status : ℕ) where
  held : IsHeld loaded input out err status ≡ (((left : Option (List ℕ)) × ((failed : Bool)
      × IsSession loaded input.is_terminal input.bytes left failed out err status))
      ⊎ IsFailurePrinted (failure_of_halt halts.OutOfMemory) out err status)
  held = refl

  unread : (failure : _) (t : Task) → IsTaskUnread known t failure
      ≡ ((failure ≡ failure_of_halt halts.OutOfMemory)
      ⊎ (((path : List ℕ) × (path_of t ≡ Some path) × IsReadError path failure)
      ⊎ ((file : List ℕ) × IsFileOf known t file × (folder : List ℕ) × (folder_of t ≡ Some folder)
      × AreTablesUnread known folder failure)))
  unread failure t = refl

module _ (known : Known) (path it : Bor (List ℕ)) (paths : List (Bor (List ℕ))) where
  errors : (IsReadError path.now (failure_of_halt halts.OutOfMemory) ≡ ⊤)
      × (IsReadError path.now (failure_of_halt (halts.Unwritten 3)) ≡ ⊥)
      × (IsPathRefused known path (failure_of_file it (Write 3)) ≡ ((it ≡ path)
      × ((file : List ℕ) × IsGivenFile known path.now file
      × OrMemory (IsQuoteErrorOver file) (Write 3))))
  errors = (refl, refl, refl)

  one_of_them : (failure : _) → IsOneRefused known paths failure
      ≡ ((p : Bor (List ℕ)) × Contains paths p × IsPathRefused known p failure)
  one_of_them failure = refl
