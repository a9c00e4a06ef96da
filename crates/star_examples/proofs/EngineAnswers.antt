-- What a call of the engine leaves in its sinks, clause by clause, over sinks whose bytes are
-- known; and why it answers a fault: each type is the one on the right.
use Rattle.std.{proofs.Common.{◌≡◌, ◌<◌, ◌≤◌, ◌⊎◌, ◌++◌, ◌+◌, ℕ, Bool, true, false, List, [], ◌∷◌, Some, Result, Ok, Err, arith, refl, sym, true≢false}, specs.Prelude.codes, specs.Fmt.digits, specs.Option.option_map}
use Rattle.star_common.proofs.Tables.{Gives}
use Rattle.star_schema.specs.{declared.table.TableId.TheVariants.Lineorder, Columns.bounds_in, Database.Database, Database.TableTexts, Database.rows_in}
use Rattle.star_catalogue.specs.{declared.fault.LoadFault.LoadFault, declared.fault.LoadFault.TheVariants.DuplicateKey}
use Rattle.star_query.specs.declared.fault.QueryFault.{QueryFault}
use Rattle.star_plan.specs.declared.fault.PlanFault.{PlanFault}
use Rattle.star_program.specs.{declared.program.Parts.Parts, declared.spelling.fault.TextFault.TextFault, Text.FirstFaults.FirstTextFault}
use Rattle.star_safety.specs.Admissible.{Refused as Reason, TooCostly as Costly}
use Rattle.star_verify.specs.{declared.refusal.Refusal.Refusal, declared.refusal.Refusal.TheVariants.TooCostly, RefusalTexts.refusal_text, Views.refusal_view}
use Rattle.star_query_meaning.specs.Reports.{IsReport}
use Rattle.star_compile_laws.specs.{Judged.IsOverflow, Wide.turn_wide}
use Rattle.star_engine.specs.{declared.fault.EngineFault.TheVariants.{OutOfMemory, Load, Plan as Names, Program, Query, Refused, Write}, Answered.{Change, HasGained, HasGainedPart, HasWritten, IsAnswered, IsBrokenOff, IsRefused, IsWritten, OrMemory, change}, Executions.{IsAcceptedWithin, IsProgramRun, IsQuoteOver, IsRunErrorOver, IsRunOver, quote_over}, Loads.{HoldsOfFile, IsLoadError, IsLoadFault, IsProgram, IsProgramError, IsProgramInputError, IsProgramOf}, WithNotes.{HasGainedQuote, HasWrittenRun, IsAnsweredWithNotes, IsRunBrokenOff, IsRunRefused, IsRunUnwritten, RunText}, Queries.{FitsRows, IsPlanFault, IsQuery, IsQueryError, IsQueryFault, IsQueryInputError, IsQueryQuoteOver, IsQueryRefusal, IsQueryRunErrorOver, IsQueryRunOver, fact_rows}, RunTexts.{IsFileRunOver, IsForecastErrorOver, IsForecastOver, IsProgramForecast, IsQueryForecast}, declared.fault.EngineFault.EngineFault, declared.input.Input.Input, declared.thirteen.BenchmarkQuery.BenchmarkQuery, declared.thirteen.BenchmarkQuery.TheVariants.Q11, Bench.{AreSections, IsFinding, IsSection, named_quote, refusal_line}, Notes.{counts_line, quote_line}, Thirteen.query_name, Questions.{IsProgramOfKind, IsProgramOfQuery}, QuoteTexts.{IsQuoteError, IsQuoteErrorOver, IsQuoteTextOver, is_program_file}, Reading.{IsFresh, came_of, has_failed, reads_of}}

-- ---- sinks: the bytes, and whether a write has failed

abbrev pub Answer : Type 0
Answer = Result (Unit {0}) EngineFault

abbrev pub well : Answer
well = Ok tt

abbrev pub Sink : Type 0
Sink = List ℕ × Bool

abbrev pub grown : Sink → Sink → Change Sink
grown old new = change (λ sink. Some sink.0) (λ sink. sink.1) old new

-- a report of four bytes, and nothing after a line that was there
abbrev pub report : List ℕ
report = codes "n\n5\n"

abbrev pub untouched : Change Sink
untouched = grown (codes "a\n", false) (codes "a\n", false)

abbrev pub of_load : EngineFault
of_load = Load (DuplicateKey Lineorder 5)

no_whole_text_in_a_failed_sink : HasGained (grown ([], false) (report, true)) report → ⊥
no_whole_text_in_a_failed_sink all = true≢false all.not_failed

no_part_in_a_sink_that_is_well : HasGainedPart (grown ([], false) (codes "n\n", false)) report 2 → ⊥
no_part_in_a_sink_that_is_well part = let failed : false ≡ true = part.failed in
    true≢false (sym failed)

no_part_has_all_bytes : HasGainedPart (grown ([], false) (report, true)) report 4 → ⊥
no_part_has_all_bytes all = let less : 4 < 4 = all.part in omega arith

-- ---- what is answered: Ok, want of memory, a failed write, and other faults

module _ {S N A : Type 0} (out : Change S) (notes : Change N) (IsText : List ℕ → Type 0)
    (IsRun : RunText → Type 0) (Due : EngineFault → Type 0) (answer : A) (sent : ℕ)
    (refusal : Refusal) (text : List ℕ) where
  written : (IsWritten out text well ≡ HasGained out text)
      × (IsWritten out text (Err (Write sent)) ≡ HasGainedPart out text sent)
      × (IsWritten out text (Err OutOfMemory) ≡ ⊥) × (OrMemory Due OutOfMemory ≡ Unit {0})
      × (OrMemory Due (Write sent) ≡ ⊥) × (OrMemory Due of_load ≡ Due of_load)
  written = (refl, refl, refl, refl, refl, refl)

  -- the same, clause by clause
  clauses_of_an_answer : (HasWritten out IsText ≡ IsAnswered out IsText Due (Ok answer))
      × (IsBrokenOff out IsText (Write sent) ≡ IsAnswered {A = A} out IsText Due (Err (Write sent)))
      × (IsRefused out Due of_load ≡ IsAnswered {A = A} out IsText Due (Err of_load))
      × (IsAnswered {A = A} out IsText Due (Err OutOfMemory) ≡ (out.new ≡ out.old))
  clauses_of_an_answer = (refl, refl, refl, refl)

  clauses_of_a_run : (HasGainedQuote notes IsText ≡ ((q : List ℕ) × IsText q × HasGained notes q))
      × (HasWrittenRun out notes IsRun ≡ IsAnsweredWithNotes out notes IsText IsRun Due well)
      × (IsRunBrokenOff out notes IsText IsRun (Write sent)
      ≡ IsAnsweredWithNotes out notes IsText IsRun Due (Err (Write sent)))
      × (IsRunRefused out notes IsText Due (Refused refusal)
      ≡ IsAnsweredWithNotes out notes IsText IsRun Due (Err (Refused refusal)))
      × (IsRunRefused out notes IsText Due of_load
      ≡ IsAnsweredWithNotes out notes IsText IsRun Due (Err of_load))
      × (IsRunUnwritten out notes IsText
      ≡ IsAnsweredWithNotes out notes IsText IsRun Due (Err OutOfMemory))
  clauses_of_a_run = (refl, refl, refl, refl, refl, refl)

-- ---- a program's file and a query's: a word that goes on, an upper case letter and a space before
-- it make no program

abbrev a_program : List ℕ
a_program = codes "star program 1\n"

abbrev a_query : List ℕ
a_query = codes "select"

kinds_of_files : Gives is_program_file (
    (a_program, true) ∷ (codes "star program ", true) ∷ (codes "star program", false)
    ∷ (codes "Star program 1", false) ∷ (codes " star program 1", false) ∷ (a_query, false)
    ∷ ([], false) ∷ [])
kinds_of_files = refl

module _ (visits : ℕ) (d : Database) (text : List ℕ) (t : RunText) (fault : EngineFault) where
  of_files : (p : Parts) → (IsProgramOfKind true text p ≡ IsProgramOf text p)
      × (IsProgramOfKind false text p ≡ IsProgramOfQuery text p)
      × (IsQuoteTextOver d a_program text ≡ IsQuoteOver d a_program text)
      × (IsQuoteTextOver d a_query text ≡ IsQueryQuoteOver d a_query text)
      × (IsQuoteErrorOver a_program fault ≡ IsProgramError a_program fault)
      × (IsQuoteErrorOver a_query fault ≡ IsQueryError a_query fault)
      × (IsForecastOver visits d a_program text
      ≡ HoldsOfFile a_program (λ program. IsProgramForecast d visits program text))
      × (IsForecastOver visits d a_query text ≡ IsQueryForecast visits d a_query text)
      × (IsForecastErrorOver visits d a_program fault ≡ IsRunErrorOver visits d a_program fault)
      × (IsForecastErrorOver visits d a_query fault ≡ IsQueryRunErrorOver visits d a_query fault)
      × (IsFileRunOver visits d a_program t ≡ IsRunOver visits d a_program t)
      × (IsFileRunOver visits d a_query t ≡ IsQueryRunOver visits d a_query t)
  of_files p = (refl, refl, refl, refl, refl, refl, refl, refl, refl, refl, refl, refl)

-- ---- faults, and which of them is printed first

module _ (rows : ℕ) (texts : TableTexts) (file : List ℕ) (of_tables : LoadFault)
    (of_text : QueryFault) (of_names : PlanFault) (of_file : TextFault) where
  unread : (IsLoadError rows texts (Load of_tables) ≡ IsLoadFault rows texts of_tables)
      × (IsLoadError rows texts (Write 3) ≡ ⊥)
      × (IsProgramError file (Program of_file) ≡ FirstTextFault file of_file)
      × (IsProgramError file (Load of_tables) ≡ ⊥)
      × (IsProgramInputError rows texts file (Load of_tables)
      ≡ (IsProgram file × IsLoadFault rows texts of_tables))
      × (IsProgramInputError rows texts file (Program of_file) ≡ IsProgramError file
      (Program of_file))
      × (IsQuoteError rows texts a_program (Load of_tables)
      ≡ IsProgramInputError rows texts a_program (Load of_tables))
  unread = (refl, refl, refl, refl, refl, refl, refl)

  unasked : (IsQueryError file (Query of_text) ≡ IsQueryFault file of_text)
      × (IsQueryError file (Names of_names) ≡ IsPlanFault file of_names)
      × (IsQueryError file (Load of_tables) ≡ ⊥)
      × (IsQueryInputError rows texts file (Load of_tables)
      ≡ (IsQuery file × IsLoadFault rows texts of_tables))
      × (IsQueryInputError rows texts file (Query of_text) ≡ IsQueryError file (Query of_text))
      × (IsQuoteError rows texts a_query (Load of_tables)
      ≡ IsQueryInputError rows texts a_query (Load of_tables))
  unasked = (refl, refl, refl, refl, refl, refl)

nothing_was_read : {R : Type 0} (input : Input R) → reads_of input ≡ 0 → came_of input ≡ 0
    → has_failed input ≡ false → IsFresh input
nothing_was_read input none empty well = record { reads = none; came = empty; failed = well }

-- ---- at the limit on visits, and one past it; the counts of a run are printed in their order

module _ (most : ℕ) (d : Database) (query : List ℕ) (refusal : Refusal)
    (unfit : IsQueryRefusal most d query refusal) where
  a_range_is_too_wide : fact_rows d ≡ most → IsOverflow (refusal_view refusal)
      × (refusal_view refusal ≡ option_map Reason (turn_wide (bounds_in (rows_in d)) unfit.p))
  a_range_is_too_wide many = (unfit.wide (omega arith), unfit.first (omega arith))

  too_many_rows : most < fact_rows d → refusal_view refusal ≡ Some (Costly (fact_rows d))
  too_many_rows = unfit.costly

  no_query_that_fits : FitsRows most d query → ⊥
  no_query_that_fits fits = unfit.unfit fits

module _ (d : Database) (program : Parts) where
  one_visit_too_many : (most : ℕ) → quote_over d program ≡ most + 1
      → IsAcceptedWithin d most program → ⊥
  one_visit_too_many most many accepted = let cheap : quote_over d program ≤ most =
      accepted.cheap in omega arith

  counted : (most : ℕ) (run : RunText) (told : IsProgramRun d most program run)
      → (run.done ≡ counts_line told.outcome.visits told.outcome.lookups told.outcome.updates)
      × (told.outcome.visits ≤ quote_over d program)
  counted most run told = (told.done, told.within)

-- ---- what `bench` prints of a query: its quote under its name, and its report or its refusal

module _ (most : ℕ) (d : Database) (q : BenchmarkQuery) (qs : List BenchmarkQuery)
    (query text : List ℕ) where
  findings : (IsFinding most d query text ≡ ((FitsRows most d query × IsReport d query text)
      ⊎ ((refusal : Refusal) × IsQueryRefusal most d query refusal
      × (text ≡ refusal_line refusal))))
      × (AreSections most d [] text ≡ (text ≡ []))
      × (AreSections most d (q ∷ qs) text ≡ ((section : List ℕ) × (rest : List ℕ)
      × IsSection most d q section × AreSections most d qs rest × (text ≡ section ++ rest)))
  findings = (refl, refl, refl)

bench_lines : (named_quote Q11 5 ≡ codes "Q1.1 quote 5\n")
    × (refusal_line (TooCostly 10) ≡ codes "refused 71 TooCostly visits 10\n")
unfolding digits query_name quote_line refusal_text
bench_lines = (refl, refl)
