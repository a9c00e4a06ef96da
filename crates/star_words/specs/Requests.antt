-- The requests of command lines, argument by argument.
use Rattle.std.specs.{Prelude.{◌≡◌, ⊤, ◌&&◌, ◌||◌, ◌==◌, ℕ, Bool, true, false, List, [], ◌∷◌, Option, Some, None, if◌then◌else◌, codes, is_some, length, map, nat_le, nat_lt, slice_index}, Char.digit_value, List.list_all, Option.{option_and_then, option_map, option_to_list}, Str.bytes_eq, Str.Parse.{digits_value, without_leading_plus}}
use Rattle.star_schema.specs.Most.{most_rows}
use Rattle.star_words.specs.{Faults.words_fault_status, declared.fault.WordsFault.WordsFault, declared.fault.WordsFault.TheVariants.{EmptyFolder, NotText, OutOfMemory}, declared.request.Request.Request, declared.request.Task.Task}
use Rattle.star_words.specs.declared.request.Request.TheVariants as request
use Rattle.star_words.specs.declared.request.Task.TheVariants as task

abbrev pub Word : Type 0
Word = List ℕ

-- what a command line asks for: without arguments the sample, and else what its command does
pub data Asked : Type 0 where
  sample : Asked
  check : (folder : Word) → Asked
  bench : (folder : Word) → Asked
  query : (folder file : Word) → Asked
  explain : (file : Word) → Asked
  exec : (folder file : Word) → Asked
  quote : (folder file : Word) → Asked
  trial : (folder file : Word) (visits : ℕ) → Asked
  session : (folder : Word) → Asked
  reports : (folder target : Word) (files : List Word) (is_quote : Bool) → Asked
  partial : (folder file : Word) (parts : List ℕ) (target : Option Word) → Asked
  merge : (file : Word) (partials : List Word) (is_distinct : Bool) → Asked

-- ---- operands and options

-- an option begins with a hyphen; a hyphen by itself is an operand
abbrev pub is_option : Word → Bool
is_option word = nat_lt 1 (length word) && (slice_index word 0 == 45)

-- after `--` every argument is an operand
abbrev pub ends_options : Word → Bool
ends_options word = bytes_eq word (codes "--")

-- the argument after `--to` is its value, and is among the options
abbrev pub has_value : Word → Bool
has_value word = bytes_eq word (codes "--to")

-- the first of some arguments may be a value
abbrev pub operands_from : (is_value : Bool) → List Word → List Word
operands_from is_value [] = []
operands_from is_value (word ∷ words) = if ends_options word then words
    else (if is_value || is_option word then operands_from (has_value word) words
    else word ∷ operands_from false words)

abbrev pub options_from : (is_value : Bool) → List Word → List Word
options_from is_value [] = []
options_from is_value (word ∷ words) = if ends_options word then []
    else (if is_value || is_option word then word ∷ options_from (has_value word) words
    else options_from false words)

-- ---- the commands

-- LIMIT is a whole number from 0 to 10^15, in decimal digits after an optional plus
unfoldable pub limit_of : Word → Option ℕ
limit_of word =
    let digits = without_leading_plus word in
    if nat_lt 0 (length digits) && list_all (λ digit. nat_lt (digit_value digit) 10) digits
    && nat_le (digits_value 10 digits) 1000000000000000
    then Some (digits_value 10 digits) else None

abbrev pub with_one : (command operand : Word) → Option Asked
with_one command operand =
    if bytes_eq command (codes "check") then Some (check operand)
    else (if bytes_eq command (codes "bench") then Some (bench operand)
    else (if bytes_eq command (codes "session") then Some (session operand)
    else (if bytes_eq command (codes "explain") then Some (explain operand) else None)))

abbrev pub with_two : (command folder file : Word) → Option Asked
with_two command folder file =
    if bytes_eq command (codes "query") then Some (query folder file)
    else (if bytes_eq command (codes "exec") then Some (exec folder file)
    else (if bytes_eq command (codes "quote") then Some (quote folder file) else None))

-- the number of a part: one from 1 to 1,000, or 0 for the whole
abbrev pub part_within : Option ℕ → Option ℕ
part_within None = None
part_within (Some part) = if nat_le part 1000 then Some part else None

abbrev pub part_of : Word → Option ℕ
part_of word = part_within (limit_of word)

abbrev pub with_three : (command folder file last : Word) → Option Asked
with_three command folder file last =
    if bytes_eq command (codes "trial") then option_map (trial folder file) (limit_of last) else None

-- a command without options
abbrev pub plain : (command : Word) → (operands : List Word) → Option Asked
plain command (one ∷ []) = with_one command one
plain command (one ∷ two ∷ []) = with_two command one two
plain command (one ∷ two ∷ three ∷ []) = with_three command one two three
plain command operands = None

-- `reports`, of 1 to 1,000 files
abbrev pub reports_of : (is_quote : Bool) → (operands : List Word) → Option Asked
reports_of is_quote (folder ∷ target ∷ file ∷ files) =
    if nat_lt (length files) 1000 then Some (reports folder target (file ∷ files) is_quote) else None
reports_of is_quote operands = None

-- the numbers of some parts, if each is one
abbrev pub parts_of : List Word → Option (List ℕ)
parts_of [] = Some []
parts_of (word ∷ words) = option_and_then (λ part. option_map (λ parts. part ∷ parts) (parts_of words))
    (part_of word)

-- `partial`, of 1 part, or with a folder for them of 1 to 1,000
abbrev pub partial_of : (target : Option Word) → (operands : List Word) → Option Asked
partial_of target (folder ∷ file ∷ part ∷ parts) =
    if nat_lt (length parts) (if is_some target then 1000 else 1)
    then option_map (λ numbers. partial folder file numbers target) (parts_of (part ∷ parts))
    else None
partial_of target operands = None

-- `merge`, of 1 to 1,000 partials
abbrev pub merge_of : (is_distinct : Bool) → (operands : List Word) → Option Asked
merge_of is_distinct (file ∷ first ∷ more) =
    if nat_lt (length more) 1000 then Some (merge file (first ∷ more) is_distinct) else None
merge_of is_distinct operands = None

abbrev pub without_option : (command : Word) → (operands : List Word) → Option Asked
without_option command operands =
    if bytes_eq command (codes "reports") then reports_of false operands
    else (if bytes_eq command (codes "merge") then merge_of false operands
    else (if bytes_eq command (codes "partial") then partial_of None operands
    else plain command operands))

-- the options are `--quote` of `reports` and `--distinct` of `merge`
abbrev pub with_option : (command option : Word) → (operands : List Word) → Option Asked
with_option command option operands =
    if bytes_eq command (codes "reports") && bytes_eq option (codes "--quote")
    then reports_of true operands
    else (if bytes_eq command (codes "merge") && bytes_eq option (codes "--distinct")
    then merge_of true operands else None)

-- the option with a value is `--to` of `partial`
abbrev pub with_value : (command option value : Word) → (operands : List Word) → Option Asked
with_value command option value operands =
    if bytes_eq command (codes "partial") && bytes_eq option (codes "--to")
    then partial_of (Some value) operands else None

abbrev pub asked_by : (command : Word) → (options operands : List Word) → Option Asked
asked_by command [] operands = without_option command operands
asked_by command (option ∷ []) operands = with_option command option operands
asked_by command (option ∷ value ∷ []) operands = with_value command option value operands
asked_by command options operands = None

-- what a command line asks for, if it is a command
abbrev pub asked : List Word → Option Asked
asked [] = Some sample
asked (command ∷ words) =
    asked_by command (options_from false words) (operands_from false words)

-- ---- the request that is made of it

abbrev pub task_asked : Task → Asked
task_asked task.Sample = sample
task_asked (task.Check folder) = check folder.now
task_asked (task.Bench folder) = bench folder.now
task_asked (task.Query folder file) = query folder.now file.now
task_asked (task.Explain file) = explain file.now
task_asked (task.Exec folder file) = exec folder.now file.now
task_asked (task.Quote folder file) = quote folder.now file.now
task_asked (task.Trial folder file limits) = trial folder.now file.now limits.visits

abbrev pub request_asked : Request → Asked
request_asked (request.Answer task) = task_asked task
request_asked (request.Session folder) = session folder.now
request_asked (request.Reports given) = reports given.folder.now given.target.now
    (map (λ file. file.now) given.files.items) given.is_quote
request_asked (request.Partial given) = partial given.folder.now given.file.now
    given.parts.items (option_map (λ target. target.now) given.target)
request_asked (request.Merge given) = merge given.file.now
    (map (λ path. path.now) given.partials.items) given.is_distinct

-- a task over tables of as many rows as there may be: no argument bounds them
abbrev pub HasMostRows : Request → Type 0
HasMostRows (request.Answer (task.Trial folder file limits)) = limits.rows ≡ most_rows
HasMostRows request = ⊤

-- ---- the names of folders

abbrev pub is_named : Word → Bool
is_named name = nat_lt 0 (length name)

-- the names of its folders are not empty: their files would be those at the root of the file system
abbrev pub names_folders : Asked → Bool
names_folders sample = true
names_folders (check folder) = is_named folder
names_folders (bench folder) = is_named folder
names_folders (session folder) = is_named folder
names_folders (explain file) = true
names_folders (query folder file) = is_named folder
names_folders (exec folder file) = is_named folder
names_folders (quote folder file) = is_named folder
names_folders (trial folder file visits) = is_named folder
names_folders (reports folder target files is_quote) = is_named folder && is_named target
names_folders (partial folder file parts target) =
    is_named folder && list_all is_named (option_to_list target)
names_folders (merge file partials is_distinct) = true

-- ---- requests and refusals

-- the request is that of the arguments
pub record IsRequest (words : List Word) (request : Request) : Type 0 where
  pub asked_for : asked words ≡ Some (request_asked request)
  pub named : names_folders (request_asked request) ≡ true
  pub rows : HasMostRows request

-- help, or a topic of help
abbrev pub is_topic : Word → Bool
is_topic command = bytes_eq command (codes "help")
    || (bytes_eq command (codes "tables") || bytes_eq command (codes "faults"))

-- help or the version may be asked for: by a command, or by an option
abbrev pub may_ask_by : (command : Word) → (options : List Word) → Bool
may_ask_by command options = is_topic command || (is_option command || nat_lt 0 (length options))

abbrev pub may_ask_help : List Word → Bool
may_ask_help [] = false
may_ask_help (command ∷ words) = may_ask_by command (options_from false words)

-- a folder's name is empty; or the parser refused the arguments, or they make no request, and the
-- status is 0 only if they may ask for help
abbrev pub IsWordsFault : List Word → WordsFault → Type 0
IsWordsFault words OutOfMemory = ⊤
IsWordsFault words NotText = ⊥
IsWordsFault words EmptyFolder = (it : Asked) × (asked words ≡ Some it) × (names_folders it ≡ false)
IsWordsFault words fault = words_fault_status fault ≡ 0 → may_ask_help words ≡ true
