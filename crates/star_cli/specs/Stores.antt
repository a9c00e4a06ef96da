-- What is known of files, and the tables of a folder.
use Rattle.std.specs.Prelude.{◌≡◌, ◌⊎◌, ◌≤◌, ◌<◌, ◌+◌, ◌++◌, ◌∷◌, ℕ, List, [], Option, Some, None, IfSome, codes, decimal, length, option_map, ⊤}
use Rattle.star_schema.specs.{declared.table.TableId.TheVariants.{Date, Customer, Supplier, Part, Lineorder}, Database.TableTexts, declared.table.TableId.TableId}

-- what is known to be at each path: a file with these bytes, or no file
abbrev pub Known : Type 0
Known = List ℕ → Option (Option (List ℕ))

-- this may be at a path, for all that is known
abbrev pub IsAt : Known → (path : List ℕ) → Option (List ℕ) → Type 0
IsAt known path entry = IfSome (known path) (λ it. it ≡ entry)

-- a file was opened, whose bytes may be known, or there is none
abbrev pub IsOpened : Known → (path : List ℕ) → Option (Option (List ℕ)) → Type 0
IsOpened known path opened = IfSome (known path) (λ it. opened ≡ option_map Some it)

-- a file with these bytes, at most so many
abbrev pub IsFile : Known → (most : ℕ) → (path bytes : List ℕ) → Type 0
IsFile known most path bytes = IsAt known path (Some bytes) × (length bytes ≤ most)

-- the file of a query or a program
abbrev pub IsGivenFile : Known → (path bytes : List ℕ) → Type 0
IsGivenFile known path bytes = IsFile known 16777216 path bytes

-- ---- the tables of a folder

abbrev pub path_in : (folder name : List ℕ) → List ℕ
path_in folder name = folder ++ (codes "/" ++ name)

abbrev pub IsTableFile : Known → (folder name bytes : List ℕ) → Type 0
IsTableFile known folder name bytes = IsFile known 1000000000000 (path_in folder name) bytes

abbrev pub table_name : TableId → List ℕ
table_name Date = codes "date.tbl"
table_name Customer = codes "customer.tbl"
table_name Supplier = codes "supplier.tbl"
table_name Part = codes "part.tbl"
table_name Lineorder = codes "lineorder.tbl"

-- a table in one file
abbrev pub IsWhole : Known → (folder : List ℕ) → TableId → (text : List (List ℕ)) → Type 0
IsWhole known folder table text =
    (bytes : List ℕ) × IsTableFile known folder (table_name table) bytes × (text ≡ bytes ∷ [])

-- a part of lineorder, from number 1
abbrev pub part_name : ℕ → List ℕ
part_name number = codes "lineorder.tbl." ++ decimal number

-- the files of the parts from a number on
abbrev pub ArePartsFrom : Known → (folder : List ℕ) → (number : ℕ) → List (List ℕ) → Type 0
ArePartsFrom known folder number [] = ⊤
ArePartsFrom known folder number (bytes ∷ parts) =
    IsTableFile known folder (part_name number) bytes × ArePartsFrom known folder (number + 1) parts

-- lineorder in 1 to 1,000 parts: all up to the first number that has no file
pub record AreParts (known : Known) (folder : List ℕ) (parts : List (List ℕ)) : Type 0 where
  pub some : 0 < length parts
  pub few : length parts ≤ 1000
  pub there : ArePartsFrom known folder 1 parts
  pub no_more : IsAt known (path_in folder (part_name (length parts + 1))) None

-- a table is one file; lineorder may be in parts instead
abbrev pub IsTextIn : Known → (folder : List ℕ) → TableId → (text : List (List ℕ)) → Type 0
IsTextIn known folder Lineorder text = IsWhole known folder Lineorder text
    ⊎ (IsAt known (path_in folder (table_name Lineorder)) None × AreParts known folder text)
IsTextIn known folder table text = IsWhole known folder table text

abbrev pub AreTablesIn : Known → (folder : List ℕ) → TableTexts → Type 0
AreTablesIn known folder texts = (table : TableId) → IsTextIn known folder table (texts table)
