-- What a task asks of an engine.
use Rattle.std.specs.Prelude.{◌≡◌, ℕ, List, true, false}
use Rattle.star_engine.specs.{declared.fault.EngineFault.EngineFault, Loads.IsProgramError, Queries.IsQueryError, Questions.Asks, QuoteTexts.IsQuoteErrorOver, QuoteTexts.is_program_file}
use Rattle.star_cli.specs.declared.answers.Asked.{Asked}
use Rattle.star_words.specs.declared.request.Task.{TheVariants.{Sample, Check, Bench, Query, Exec, Quote, Trial}, Task}
use Rattle.star_cli.specs.declared.answers.Asked.TheVariants as asked

-- this is asked for a task with this file
abbrev pub AsksFor : Task → (file : List ℕ) → Asked → Type 0
AsksFor Sample file asked.ListAndBench = Unit {0}
AsksFor (Check folder) file asked.List = Unit {0}
AsksFor (Bench folder) file asked.Bench = Unit {0}
AsksFor (Query folder path) file (asked.Answer question) = Asks false file question
AsksFor (Exec folder path) file (asked.Answer question) = Asks true file question
AsksFor (Quote folder path) file (asked.Quote question) =
    Asks (is_program_file file) file question
AsksFor (Trial folder path limits) file (asked.Trial question same) =
    Asks true file question × (same ≡ limits)
AsksFor _ file _ = ⊥

-- why nothing is
abbrev pub IsNotAsked : Task → (file : List ℕ) → EngineFault → Type 0
IsNotAsked (Query folder path) file fault = IsQueryError file fault
IsNotAsked (Exec folder path) file fault = IsProgramError file fault
IsNotAsked (Quote folder path) file fault = IsQuoteErrorOver file fault
IsNotAsked (Trial folder path limits) file fault = IsProgramError file fault
IsNotAsked _ file fault = ⊥
