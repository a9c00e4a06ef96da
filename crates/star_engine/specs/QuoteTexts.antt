-- The quote of a file: that of its program, or of the program of its query.
use Rattle.std.specs.{Prelude.{ℕ, nat_eq, Bool, true, false, List, codes}, List.starts_with}
use Rattle.star_schema.specs.Database.{Database, TableTexts}
use Rattle.star_engine.specs.{declared.fault.EngineFault.EngineFault, Executions.IsQuoteOver, Loads.HoldsOfRows, Loads.IsProgramError, Loads.IsProgramInputError, Queries.IsQueryError, Queries.IsQueryQuoteOver, Queries.IsQueryInputError}

-- a file that begins in this way is taken for a program, any other for a query
abbrev pub is_program_file : List ℕ → Bool
is_program_file file = starts_with nat_eq file (codes "star program ")

-- ---- over the rows of five tables

abbrev pub IsQuoteOfKindOver : (is_program : Bool) → Database → (file text : List ℕ) → Type 0
IsQuoteOfKindOver true database file text = IsQuoteOver database file text
IsQuoteOfKindOver false database file text = IsQueryQuoteOver database file text

abbrev pub IsErrorOfKind : (is_program : Bool) → (file : List ℕ) → EngineFault → Type 0
IsErrorOfKind true file fault = IsProgramError file fault
IsErrorOfKind false file fault = IsQueryError file fault

-- the line of a file's quote
abbrev pub IsQuoteTextOver : Database → (file text : List ℕ) → Type 0
IsQuoteTextOver database file text = IsQuoteOfKindOver (is_program_file file) database file text

-- why a file has no quote
abbrev pub IsQuoteErrorOver : (file : List ℕ) → EngineFault → Type 0
IsQuoteErrorOver file fault = IsErrorOfKind (is_program_file file) file fault

-- ---- over five texts

abbrev pub IsQuoteErrorOfKind : (is_program : Bool) → ℕ → TableTexts → (file : List ℕ)
    → EngineFault → Type 0
IsQuoteErrorOfKind true rows texts file fault = IsProgramInputError rows texts file fault
IsQuoteErrorOfKind false rows texts file fault = IsQueryInputError rows texts file fault

-- the line of a file's quote
abbrev pub IsQuoteText : ℕ → TableTexts → (file text : List ℕ) → Type 0
IsQuoteText rows texts file text =
    HoldsOfRows rows texts (λ database. IsQuoteTextOver database file text)

-- why a file has no quote: it is read first, then the tables
abbrev pub IsQuoteError : ℕ → TableTexts → (file : List ℕ) → EngineFault → Type 0
IsQuoteError rows texts file fault = IsQuoteErrorOfKind (is_program_file file) rows texts file fault
