-- The result of a query over the rows of five tables, and over their texts, and its errors. The
-- query's program occurs here by its text, by its look-ups and by the number of a refused
-- instruction; no run of it occurs.
use Rattle.std.specs.Prelude.{◌≡◌, ◌≢◌, ◌≤◌, ◌<◌, ℕ, List, Some, length, option_map}
use Rattle.star_schema.specs.{declared.table.TableId.TheVariants.Lineorder, Database.Database, Database.TableTexts, Database.rows_in, Columns.bounds_in}
use Rattle.star_query.specs.{declared.fault.QueryFault.QueryFault, Derives.IsFirstQueryFault, Derives.Means, Tree.Tree}
use Rattle.star_plan.specs.{declared.fault.PlanFault.PlanFault, Faults.plan_fault, Meaning.Plan, Resolved.IsResolved, WellNamed.IsWellNamed}
use Rattle.star_program.specs.{Text.Spelling.Spells, Text.Written.program_text}
use Rattle.star_safety.specs.Admissible.{Refused, TooCostly}
use Rattle.star_verify.specs.{declared.refusal.Refusal.Refusal, Views.refusal_view}
use Rattle.star_query_meaning.specs.{Fitting.FitsTables, Reports.IsReport, Rows.selected}
use Rattle.star_compile_laws.specs.{Compiled.compiled, Counts.lookups_of, Judged.IsOverflow, Wide.turn_wide}
use Rattle.star_engine.specs.{declared.fault.EngineFault.EngineFault, Loads.HoldsOfRows, Loads.IsLoadFault, WithNotes.RunText, Notes.counts_line, Notes.quote_line}
use Rattle.star_query.specs.declared.fault.QueryFault.TheVariants as parsing
use Rattle.star_engine.specs.declared.fault.EngineFault.TheVariants as engine

-- ---- queries

-- the text means a well-named query, and this is the query with its names resolved
pub record IsPlanOf (query : List ℕ) (p : Plan) : Type 0 where
  pub tree : Tree
  pub means : Means query tree
  pub named : IsWellNamed tree
  pub resolved : IsResolved tree p

-- a text that means a well-named query
abbrev pub IsQuery : List ℕ → Type 0
IsQuery query = (p : Plan) × IsPlanOf query p

-- the number of lineorder's rows; a query visits each once
abbrev pub fact_rows : Database → ℕ
fact_rows database = length (rows_in database Lineorder)

-- the text means a well-named query that fits the rows of five tables, if at most this many of them
-- may be visited
pub record FitsRows (most : ℕ) (database : Database) (query : List ℕ) : Type 0 where
  pub tree : Tree
  pub means : Means query tree
  pub named : IsWellNamed tree
  pub fits : FitsTables most (rows_in database) tree

-- ---- errors

-- the first error of a text that means no query
pub record IsQueryFault (query : List ℕ) (fault : QueryFault) : Type 0 where
  pub not_memory : fault ≢ parsing.OutOfMemory
  pub first : IsFirstQueryFault query fault

-- the first error of the names of a query
pub record IsPlanFault (query : List ℕ) (fault : PlanFault) : Type 0 where
  pub tree : Tree
  pub means : Means query tree
  pub first : plan_fault tree ≡ Some fault

-- why a text is not a well-named query
abbrev pub IsQueryError : List ℕ → EngineFault → Type 0
IsQueryError query (engine.Query fault) = IsQueryFault query fault
IsQueryError query (engine.Plan fault) = IsPlanFault query fault
IsQueryError query _ = ⊥

-- why there is no query over loaded tables: the query is read first
abbrev pub IsQueryInputError : ℕ → TableTexts → (query : List ℕ) → EngineFault → Type 0
IsQueryInputError rows texts query (engine.Load fault) = IsQuery query
    × IsLoadFault rows texts fault
IsQueryInputError rows texts query fault = IsQueryError query fault

-- why a query that does not fit is refused: lineorder's rows exceed the limit on visits; otherwise
-- a range leaves 64 bits, and the first number of its program with such a range is reported
pub record IsQueryRefusal (most : ℕ) (database : Database) (query : List ℕ) (refusal : Refusal)
    : Type 0 where
  pub p : Plan
  pub meant : IsPlanOf query p
  pub unfit : ¬ FitsRows most database query
  pub costly : most < fact_rows database
      → refusal_view refusal ≡ Some (TooCostly (fact_rows database))
  pub wide : fact_rows database ≤ most → IsOverflow (refusal_view refusal)
  pub first : fact_rows database ≤ most
      → refusal_view refusal ≡ option_map Refused (turn_wide (bounds_in (rows_in database)) p)

-- why a query has no report over these rows: it is read first, then checked
abbrev pub IsQueryRunErrorOver : (visits : ℕ) → Database → (query : List ℕ) → EngineFault → Type 0
IsQueryRunErrorOver visits database query (engine.Refused refusal) =
    IsQueryRefusal visits database query refusal
IsQueryRunErrorOver visits database query fault = IsQueryError query fault

-- why it has none over five texts: it is read first, then the tables, then it is checked
abbrev pub IsQueryRunError : (rows visits : ℕ) → TableTexts → (query : List ℕ) → EngineFault
    → Type 0
IsQueryRunError rows visits texts query (engine.Refused refusal) =
    HoldsOfRows rows texts (λ database. IsQueryRefusal visits database query refusal)
IsQueryRunError rows visits texts query fault = IsQueryInputError rows texts query fault

-- ---- texts

-- the line of a query's quote over the rows of five tables
pub record IsQueryQuoteOver (database : Database) (query text : List ℕ) : Type 0 where
  pub is_query : IsQuery query
  pub quoted : text ≡ quote_line (fact_rows database)

-- over five texts
abbrev pub IsQueryQuote : (rows : ℕ) → TableTexts → (query text : List ℕ) → Type 0
IsQueryQuote rows texts query text =
    HoldsOfRows rows texts (λ database. IsQueryQuoteOver database query text)

-- the text of the run of a query that fits the rows of five tables: its quote, its report, and the
-- counts of the run of its program, which visits each row of lineorder once and makes one update
-- for each row that the query selects
pub record IsQueryRunOver (visits : ℕ) (database : Database) (query : List ℕ)
    (run : RunText) : Type 0 where
  pub fitting : FitsRows visits database query
  pub quoted : run.quoted ≡ quote_line (fact_rows database)
  pub reported : IsReport database query run.report
  pub p : Plan
  pub meant : IsPlanOf query p
  pub done : run.done ≡ counts_line (fact_rows database) (lookups_of (rows_in database) p)
      (length (selected (rows_in database) meant.tree))

-- the report of the query that a text means, over five texts that can be loaded
abbrev pub IsReportOf : (rows : ℕ) → TableTexts → (query report : List ℕ) → Type 0
IsReportOf rows texts query report =
    HoldsOfRows rows texts (λ database. IsReport database query report)

-- the text of a query's run over five texts
abbrev pub IsQueryRun : (rows visits : ℕ) → TableTexts → (query : List ℕ) → RunText → Type 0
IsQueryRun rows visits texts query run =
    HoldsOfRows rows texts (λ database. IsQueryRunOver visits database query run)

-- the text of a query's program: it spells the program, in the program's own format
pub record IsExplained (query text : List ℕ) : Type 0 where
  pub p : Plan
  pub meant : IsPlanOf query p
  pub written : text ≡ program_text (compiled p)
  pub spelled : Spells text (compiled p)
