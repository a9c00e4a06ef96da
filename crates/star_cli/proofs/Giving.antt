-- What is answered to a task, by its steps.
use Rattle.std.{proofs.Common.{◌≡◌, ℕ, List, Bool, true, false, inl, refl, subst, sym}, specs.Prelude.{◌↔◌, Result, Err, IfOk, IsTrue}}
use Rattle.star_schema.specs.{Database.TableTexts, Loadable.IsLoadable, Loadable.database_of, Most.most_rows, Most.most_visits, declared.limits.Limits.Limits}
use Rattle.star_verify.specs.declared.refusal.Refusal.{Refusal}
use Rattle.star_engine.{specs.Queries.{IsExplained, IsQueryError, IsQueryQuote, IsQueryRun, IsQueryRunError}, specs.Trials.{IsTrialError, IsTrialReport}, specs.Private.TextSteps.{IsQuoteOfTexts, IsRunOfTexts, IsRunErrorOfTexts}, specs.declared.fault.EngineFault.EngineFault, specs.declared.fault.EngineFault.TheVariants.Refused, specs.declared.question.Question.Question, specs.Answered.{Change, IsAnswered, IsUntouched, OrMemory}, specs.Bench.{AllFit, IsBench, IsBenchOver}, specs.Executions.{IsQuoteOf, IsRunError, IsRunOf}, specs.Listing.{IsListing, IsListingOver}, specs.Loads.IsLoadError, specs.Questions.Asks, specs.QuoteTexts.{IsQuoteError, IsQuoteText, is_program_file}, specs.WithNotes.{IsAnsweredWithNotes, RunText}, proofs.RunTextLemmas.{never_refused, none, unloaded, unquoted_none, unquoted_tables}, proofs.ByClauses.stopped, proofs.Loaded.answered_over, proofs.Noting.noted_stopped, proofs.QueryFaults.or_memory, proofs.Trials.{no_trial_none, no_trial_unloaded}}
use Rattle.star_cli.specs.{Answers.{IsBenched, IsGivenOf, IsListed, IsListedAndBenched, IsNoneRefused, IsOfTables, IsQuoted, none_refused}, Private.Asking.{AsksFor, IsNotAsked}, declared.answers.Asked.Asked}
use Rattle.star_words.specs.declared.request.Task.{TheVariants.{Sample, Check, Bench, Query, Explain, Exec, Quote, Trial}, Task}
use Rattle.star_cli.specs.declared.answers.Asked.TheVariants as asked

-- ---- a fault before anything is written

-- the faults that are due
abbrev pub IsDueOf : Task → TableTexts → (file : List ℕ) → EngineFault → Type 0
IsDueOf (Query folder path) texts file fault =
    IsQueryRunError most_rows most_visits texts file fault
IsDueOf (Explain path) texts file fault = IsQueryError file fault
IsDueOf (Exec folder path) texts file fault = IsRunError most_rows most_visits texts file fault
IsDueOf (Quote folder path) texts file fault = IsQuoteError most_rows texts file fault
IsDueOf (Trial folder path limits) texts file fault =
    IsTrialError limits.rows texts file limits.visits fault
IsDueOf _ texts file fault = IsLoadError most_rows texts fault

module _ {S N : Type 0} (out : Change S) (notes : Change N) (same : IsUntouched out)
    (still : IsUntouched notes) (texts : TableTexts) (file : List ℕ) (fault : EngineFault)
    (IsBefore : EngineFault → Type 0) (is : OrMemory IsBefore fault)
    (never : (refusal : Refusal) → ¬ IsBefore (Refused refusal)) where
  stops : (A : Type 0) (IsText : List ℕ → Type 0) (IsDue : EngineFault → Type 0)
      → ((f : EngineFault) → IsBefore f → IsDue f) → IsAnswered {A = A} out IsText IsDue (Err fault)
  stops A IsText IsDue on =
      stopped A out IsText IsDue fault same (or_memory IsBefore IsDue fault on is)

  text_stops : (IsText : List ℕ → Type 0) (IsDue : EngineFault → Type 0)
      → ((f : EngineFault) → IsBefore f → IsDue f)
      → IsNoneRefused (IsAnswered out IsText IsDue) (Err fault) × IsUntouched notes
  text_stops IsText IsDue on = ((Err fault, stops (Unit {0}) IsText IsDue on, refl), still)

  notes_stop : (IsQuote : List ℕ → Type 0) (IsRun : RunText → Type 0)
      (IsDue : EngineFault → Type 0) → ((f : EngineFault) → IsBefore f → IsDue f)
      → IsNoneRefused (IsAnsweredWithNotes out notes IsQuote IsRun IsDue) (Err fault)
  notes_stop IsQuote IsRun IsDue on = (
    Err fault,
    noted_stopped out notes IsQuote IsRun IsBefore IsDue fault same still never on is,
    refl,
  )

  pub given_up : (task : Task) → ((f : EngineFault) → IsBefore f → IsDueOf task texts file f)
      → IsGivenOf task texts file out notes (Err fault)
  given_up Sample on =
      let listed = stops (Unit {0}) (IsListing most_rows texts) (IsLoadError most_rows texts) on in
      (inl (fault, listed, refl), still)
  given_up (Check folder) on =
      text_stops (IsListing most_rows texts) (IsLoadError most_rows texts) on
  given_up (Bench folder) on = (
    record {
      answered = stops Bool (IsBench most_rows most_visits texts) (IsLoadError most_rows texts) on;
      fits = tt;
    },
    still,
  )
  given_up (Query folder path) on =
      notes_stop (IsQueryQuote most_rows texts file) (IsQueryRun most_rows most_visits texts file)
      (IsQueryRunError most_rows most_visits texts file) on
  given_up (Explain path) on = text_stops (IsExplained file) (IsQueryError file) on
  given_up (Exec folder path) on =
      notes_stop (IsQuoteOf most_rows texts file) (IsRunOf most_rows most_visits texts file)
      (IsRunError most_rows most_visits texts file) on
  given_up (Quote folder path) on =
      text_stops (IsQuoteText most_rows texts file) (IsQuoteError most_rows texts file) on
  given_up (Trial folder path limits) on =
      text_stops (IsTrialReport limits.rows texts file limits.visits)
      (IsTrialError limits.rows texts file limits.visits) on

-- the file is not what the task asks for
pub not_asked : (task : Task) (texts : TableTexts) (file : List ℕ) (f : EngineFault)
    → IsNotAsked task file f → IsDueOf task texts file f
not_asked (Query folder path) texts file f is = none false most_rows most_visits texts file f is
not_asked (Exec folder path) texts file f is = none true most_rows most_visits texts file f is
not_asked (Quote folder path) texts file f is =
    unquoted_none (is_program_file file) most_rows texts file f is
not_asked (Trial folder path limits) texts file f is =
    no_trial_none limits.rows texts file limits.visits f is
not_asked _ texts file f is = absurd is

pub never_asked : (task : Task) (file : List ℕ) (refusal : Refusal)
    → ¬ IsNotAsked task file (Refused refusal)
never_asked (Quote folder path) file refusal is =
    never_refused (is_program_file file) file refusal is
never_asked (Query folder path) file refusal is = is
never_asked (Exec folder path) file refusal is = is
never_asked (Trial folder path limits) file refusal is = is
never_asked _ file refusal is = is

-- the tables can't be loaded
pub not_loaded : (task : Task) (texts : TableTexts) (file : List ℕ) (what : Asked)
    → AsksFor task file what → IsOfTables task → (f : EngineFault) → IsLoadError most_rows texts f
    → IsDueOf task texts file f
not_loaded Sample texts file what asks of_tables f is = is
not_loaded (Check folder) texts file what asks of_tables f is = is
not_loaded (Bench folder) texts file what asks of_tables f is = is
not_loaded (Query folder path) texts file (asked.Answer question) asks of_tables f is =
    unloaded false most_rows most_visits texts file question.program asks f is
not_loaded (Exec folder path) texts file (asked.Answer question) asks of_tables f is =
    unloaded true most_rows most_visits texts file question.program asks f is
not_loaded (Quote folder path) texts file (asked.Quote question) asks of_tables f is =
    unquoted_tables (is_program_file file) most_rows texts file question.program asks f is
not_loaded (Trial folder path limits) texts file (asked.Trial question given) asks of_tables f is =
    no_trial_unloaded limits.rows texts file limits.visits question.program asks.0 f
    (subst (λ rows. IsLoadError rows texts f) (sym of_tables) is)
not_loaded _ texts file what asks of_tables f is = absurd asks

-- ---- what an engine answers

-- the listing, and the benchmark
module _ {S : Type 0} (out : Change S) (texts : TableTexts)
    (loadable : IsLoadable most_rows texts) where
  pub listed : (answer : Result (Unit {0}) EngineFault)
      → IsAnswered out (IsListingOver (database_of texts)) (λ fault. ⊥) answer
      → IsListed out texts answer
  listed answer is =
      answered_over most_rows texts loadable out IsListingOver
      (λ database fault. ⊥) (IsLoadError most_rows texts) answer
      (λ fault loadable never. absurd never) is

  pub benched : (result : Result Bool EngineFault)
      → IsAnswered out (IsBenchOver most_visits (database_of texts)) (λ fault. ⊥) result
      → IfOk result (λ fits. IsTrue fits ↔ AllFit most_visits (database_of texts))
      → IsBenched out texts result
  benched result is fits = record {
    answered = answered_over most_rows texts loadable out (IsBenchOver most_visits)
        (λ database fault. ⊥) (IsLoadError most_rows texts) result
        (λ fault loadable never. absurd never) is;
    fits = fits;
  }

module _ {S N : Type 0} (out : Change S) (notes : Change N) (texts : TableTexts) (file : List ℕ)
    (result : Result Bool EngineFault) where
  pub nothing_given : (task : Task) → AsksFor task file asked.Nothing
      → IsGivenOf task texts file out notes result
  nothing_given Sample asks = absurd asks
  nothing_given _ asks = absurd asks

  pub list_given : (task : Task) → AsksFor task file asked.List
      → IsNoneRefused (IsListed out texts) result → IsUntouched notes
      → IsGivenOf task texts file out notes result
  list_given (Check folder) asks is still = (is, still)
  list_given _ asks is still = absurd asks

  pub bench_given : (task : Task) → AsksFor task file asked.Bench → IsBenched out texts result
      → IsUntouched notes → IsGivenOf task texts file out notes result
  bench_given (Bench folder) asks is still = (is, still)
  bench_given _ asks is still = absurd asks

  pub both_given : (task : Task) → AsksFor task file asked.ListAndBench
      → IsListedAndBenched out texts result → IsUntouched notes
      → IsGivenOf task texts file out notes result
  both_given Sample asks is still = (is, still)
  both_given _ asks is still = absurd asks

  pub answer_given : (task : Task) (question : Question) (answer : Result (Unit {0}) EngineFault)
      → AsksFor task file (asked.Answer question)
      → ((is_program : Bool) → Asks is_program file question
      → IsAnsweredWithNotes out notes (IsQuoteOfTexts is_program most_rows texts file)
      (IsRunOfTexts is_program most_rows most_visits texts file)
      (IsRunErrorOfTexts is_program most_rows most_visits texts file) answer)
      → result ≡ none_refused answer → IsGivenOf task texts file out notes result
  answer_given (Query folder path) question answer asks is whole =
      (answer, is false asks, whole)
  answer_given (Exec folder path) question answer asks is whole = (answer, is true asks, whole)
  answer_given _ question answer asks is whole = absurd asks

  pub quote_given : (task : Task) (question : Question) (answer : Result (Unit {0}) EngineFault)
      → AsksFor task file (asked.Quote question)
      → (Asks (is_program_file file) file question → IsQuoted out texts file answer)
      → result ≡ none_refused answer → IsUntouched notes
      → IsGivenOf task texts file out notes result
  quote_given (Quote folder path) question answer asks is whole still =
      ((answer, is asks, whole), still)
  quote_given _ question answer asks is whole still = absurd asks

  pub trial_given : (task : Task) (question : Question) (given : Limits)
      (answer : Result (Unit {0}) EngineFault) → AsksFor task file (asked.Trial question given)
      → IsOfTables task → (Asks true file question
      → IsAnswered out (IsTrialReport most_rows texts file given.visits)
      (IsTrialError most_rows texts file given.visits) answer) → result ≡ none_refused answer
      → IsUntouched notes → IsGivenOf task texts file out notes result
  trial_given (Trial folder path limits) question given answer asks of_tables is whole still = (
    (
      answer,
      subst (λ rows. IsAnswered out (IsTrialReport rows texts file limits.visits)
          (IsTrialError rows texts file limits.visits) answer) (sym of_tables)
          (subst (λ (l : Limits). IsAnswered out (IsTrialReport most_rows texts file l.visits)
          (IsTrialError most_rows texts file l.visits) answer) asks.1 (is asks.0)),
      whole,
    ),
    still,
  )
  trial_given _ question given answer asks of_tables is whole still = absurd asks
