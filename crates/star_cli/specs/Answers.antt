-- What a task asks of the bytes that were read for it.
use Rattle.std.specs.Prelude.{◌≡◌, ◌⊎◌, ◌↔◌, ℕ, Bool, true, false, IsTrue, List, Result, Ok, Err, IfOk}
use Rattle.star_schema.specs.{declared.limits.Limits.Limits, Most.most_rows, Most.most_visits, Database.TableTexts, Loadable.database_of}
use Rattle.star_engine.specs.{Queries.{IsExplained, IsQueryError, IsQueryQuote, IsQueryRun, IsQueryRunError}, declared.fault.EngineFault.EngineFault, Answered.{Change, IsAnswered, IsUntouched}, Bench.{AllFit, IsBench}, Executions.{IsQuoteOf, IsRunOf, IsRunError}, Listing.IsListing, Loads.IsLoadError, WithNotes.IsAnsweredWithNotes, QuoteTexts.{IsQuoteError, IsQuoteText}, Trials.{IsTrialError, IsTrialReport}}
use Rattle.star_service.specs.Lines.{IsFaultPrinted}
use Rattle.star_words.specs.declared.request.Task.{TheVariants.{Sample, Check, Bench, Query, Explain, Exec, Quote, Trial}, Task}

-- the Ok of a call that refuses nothing by it
abbrev pub none_refused : Result (Unit {0}) EngineFault → Result Bool EngineFault
none_refused (Ok answer) = Ok true
none_refused (Err fault) = Err fault

-- what such a call answers
abbrev pub IsNoneRefused : (Result (Unit {0}) EngineFault → Type 0) → Result Bool EngineFault → Type 0
IsNoneRefused IsAnswer result =
    (answer : Result (Unit {0}) EngineFault) × IsAnswer answer × (result ≡ none_refused answer)

-- the tables of five texts are listed
abbrev pub IsListed : {S : Type 0} → Change S → TableTexts → Result (Unit {0}) EngineFault → Type 0
IsListed out texts answer =
    IsAnswered out (IsListing most_rows texts) (IsLoadError most_rows texts) answer

-- the queries of the benchmark are answered over them, and the answer is whether each fits
pub record IsBenched {S : Type 0} (out : Change S) (texts : TableTexts)
    (result : Result Bool EngineFault) : Type 0 where
  pub answered : IsAnswered out (IsBench most_rows most_visits texts) (IsLoadError most_rows texts)
      result
  pub fits : IfOk result (λ fits. IsTrue fits ↔ AllFit most_visits (database_of texts))

-- the one and then the other, if the one isn't stopped
abbrev pub IsListedAndBenched : {S : Type 0} → Change S → TableTexts
    → Result Bool EngineFault → Type 0
IsListedAndBenched {S} out texts result =
    ((fault : EngineFault) × IsListed out texts (Err fault) × (result ≡ Err fault))
    ⊎ ((listed : S) × IsListed (record out { new = listed }) texts (Ok tt)
    × IsBenched (record out { old = listed }) texts result)

-- the query of a file is answered over them, with notes
abbrev pub IsQueried : {S N : Type 0} → Change S → Change N → TableTexts → List ℕ
    → Result (Unit {0}) EngineFault → Type 0
IsQueried out notes texts file answer =
    IsAnsweredWithNotes out notes (IsQueryQuote most_rows texts file)
    (IsQueryRun most_rows most_visits texts file)
    (IsQueryRunError most_rows most_visits texts file) answer

-- the program of the query of a file is written
abbrev pub IsExplanation : {S : Type 0} → Change S → List ℕ → Result (Unit {0}) EngineFault → Type 0
IsExplanation out file answer = IsAnswered out (IsExplained file) (IsQueryError file) answer

-- the program of a file is verified and run over them, with notes
abbrev pub IsExecuted : {S N : Type 0} → Change S → Change N → TableTexts → List ℕ
    → Result (Unit {0}) EngineFault → Type 0
IsExecuted out notes texts file answer =
    IsAnsweredWithNotes out notes (IsQuoteOf most_rows texts file)
    (IsRunOf most_rows most_visits texts file) (IsRunError most_rows most_visits texts file) answer

-- the quote of the query, or of the program, of a file over them is printed
abbrev pub IsQuoted : {S : Type 0} → Change S → TableTexts → List ℕ
    → Result (Unit {0}) EngineFault → Type 0
IsQuoted out texts file answer =
    IsAnswered out (IsQuoteText most_rows texts file) (IsQuoteError most_rows texts file) answer

-- the program of a file is run over them under these limits
abbrev pub IsTried : {S : Type 0} → Limits → Change S → TableTexts → List ℕ
    → Result (Unit {0}) EngineFault → Type 0
IsTried limits out texts file answer =
    IsAnswered out (IsTrialReport limits.rows texts file limits.visits)
    (IsTrialError limits.rows texts file limits.visits) answer

-- the engine's answer over five texts and a file: only `query` and `exec` write notes
abbrev pub IsGivenOf : {S N : Type 0} → Task → TableTexts → List ℕ → Change S → Change N
    → Result Bool EngineFault → Type 0
IsGivenOf Sample texts file out notes result =
    IsListedAndBenched out texts result × IsUntouched notes
IsGivenOf (Check folder) texts file out notes result =
    IsNoneRefused (IsListed out texts) result × IsUntouched notes
IsGivenOf (Bench folder) texts file out notes result =
    IsBenched out texts result × IsUntouched notes
IsGivenOf (Query folder path) texts file out notes result =
    IsNoneRefused (IsQueried out notes texts file) result
IsGivenOf (Explain path) texts file out notes result =
    IsNoneRefused (IsExplanation out file) result × IsUntouched notes
IsGivenOf (Exec folder path) texts file out notes result =
    IsNoneRefused (IsExecuted out notes texts file) result
IsGivenOf (Quote folder path) texts file out notes result =
    IsNoneRefused (IsQuoted out texts file) result × IsUntouched notes
IsGivenOf (Trial folder path limits) texts file out notes result =
    IsNoneRefused (IsTried limits out texts file) result × IsUntouched notes

-- a task over tables, under the widest limit on rows
abbrev pub IsOfTables : Task → Type 0
IsOfTables (Explain path) = ⊥
IsOfTables (Trial folder path limits) = limits.rows ≡ most_rows
IsOfTables _ = Unit {0}

-- ---- the exit status

-- how the program ends after the engine's answer: a query of the benchmark that is refused is
-- no fault, and has no line of its own
abbrev pub IsEnded : {E : Type 0} → Change E → Result Bool EngineFault → ℕ → Type 0
IsEnded err (Ok true) status = IsUntouched err × (status ≡ 0)
IsEnded err (Ok false) status = IsUntouched err × (status ≡ 1)
IsEnded err (Err fault) status = IsFaultPrinted err fault status

-- the engine's answer over five texts and a file, with its notes on standard error, and after
-- them how the program ends
pub record IsExitOf {S E : Type 0} (task : Task) (texts : TableTexts) (file : List ℕ)
    (out : Change S) (err : Change E) (status : ℕ) : Type 0 where
  pub result : Result Bool EngineFault
  pub noted : E
  pub given : IsGivenOf task texts file out (record err { new = noted }) result
  pub ended : IsEnded (record err { old = noted }) result status
