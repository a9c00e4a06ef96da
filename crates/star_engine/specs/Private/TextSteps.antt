-- The result of a question of either kind over five texts.
use Rattle.std.specs.Prelude.{ℕ, List, Bool, true, false}
use Rattle.star_schema.specs.Database.{TableTexts}
use Rattle.star_engine.specs.{declared.fault.EngineFault.EngineFault, Executions.IsRunError, Loads.HoldsOfRows, WithNotes.RunText, Queries.IsQueryRunError, QuoteTexts.IsQuoteOfKindOver, RunTexts.IsRunOfKind}

-- the note of its quote
abbrev pub IsQuoteOfTexts : (is_program : Bool) → (rows : ℕ) → TableTexts → (file text : List ℕ)
    → Type 0
IsQuoteOfTexts is_program rows texts file text =
    HoldsOfRows rows texts (λ database. IsQuoteOfKindOver is_program database file text)

-- the text of its run
abbrev pub IsRunOfTexts : (is_program : Bool) → (rows visits : ℕ) → TableTexts → (file : List ℕ)
    → RunText → Type 0
IsRunOfTexts is_program rows visits texts file run =
    HoldsOfRows rows texts (λ database. IsRunOfKind is_program visits database file run)

-- why there is no such text
abbrev pub IsRunErrorOfTexts : (is_program : Bool) → (rows visits : ℕ) → TableTexts
    → (file : List ℕ) → EngineFault → Type 0
IsRunErrorOfTexts true rows visits texts file fault = IsRunError rows visits texts file fault
IsRunErrorOfTexts false rows visits texts file fault = IsQueryRunError rows visits texts file fault
