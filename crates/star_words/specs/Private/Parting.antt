-- How the arguments of a command are separated, and the request that they make.
use Rattle.std.specs.{Prelude.{◌≡◌, ⊤, ◌++◌, Bool, true, false, ℕ, List, [], ◌∷◌, Option, IfSome, if◌then◌else◌, map}, Borrow.Bor, Option.option_map}
use Rattle.star_schema.specs.{Most.most_rows, declared.limits.Limits.Limits}
use Rattle.star_words.specs.{Requests.{Asked, HasMostRows, Word, operands_from, options_from, request_asked}, Faults.words_fault_status, declared.fault.WordsFault.WordsFault, declared.fault.WordsFault.TheVariants.{EmptyFolder, NotText, OutOfMemory, Told}, declared.request.Arguments.Arguments, declared.request.Request.Request}

abbrev pub texts : List (Bor Word) → List Word
texts = map (λ word. word.now)

-- the operands, and the options, once the remaining arguments are added
abbrev pub all_operands : Arguments → List Word → List Word
all_operands arguments rest =
    texts arguments.operands.items
    ++ (if arguments.is_ended then rest else operands_from arguments.is_value rest)

abbrev pub all_options : Arguments → List Word → List Word
all_options arguments rest =
    texts arguments.options.items
    ++ (if arguments.is_ended then [] else options_from arguments.is_value rest)

-- one of the remaining arguments is added
pub record IsAdded (old : Arguments) (word : Word) (new : Arguments) : Type 0 where
  pub operands : (rest : List Word) → all_operands new rest ≡ all_operands old (word ∷ rest)
  pub options : (rest : List Word) → all_options new rest ≡ all_options old (word ∷ rest)

-- these are the operands and the options of a command
pub record AreArguments (words : List Word) (arguments : Arguments) : Type 0 where
  pub operands : texts arguments.operands.items ≡ operands_from false words
  pub options : texts arguments.options.items ≡ options_from false words

-- the limits of a trial of so many visits
abbrev pub IsLimited : Option ℕ → Option Limits → Type 0
IsLimited visits limits = (option_map (λ given. given.visits) limits ≡ visits)
    × IfSome limits (λ given. given.rows ≡ most_rows)

-- a request is made of the arguments
abbrev pub IsMade : Option Asked → Option Request → Type 0
IsMade asked request = (option_map request_asked request ≡ asked) × IfSome request HasMostRows

-- the parser's text, or that it finds nothing wrong; and help only if it may be asked for
abbrev pub IsRefusal : (may_ask_help : Bool) → WordsFault → Type 0
IsRefusal may_ask_help NotText = ⊥
IsRefusal may_ask_help EmptyFolder = ⊥
IsRefusal may_ask_help OutOfMemory = ⊤
IsRefusal may_ask_help fault = words_fault_status fault ≡ 0 → may_ask_help ≡ true

-- the parser's own fault, or out of memory
abbrev pub IsParsersFault : WordsFault → Type 0
IsParsersFault (Told error) = ⊤
IsParsersFault OutOfMemory = ⊤
IsParsersFault fault = ⊥
