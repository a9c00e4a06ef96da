-- The partial of a query over the rows of five tables.
use Rattle.std.specs.{Prelude.{◌≡◌, ℕ, ℤ, List, [], ◌∷◌, MatchOption, Option, length}, Option.option_map}
use Rattle.star_schema.specs.{declared.column.ColumnId.ColumnId, declared.table.TableId.TableId, declared.table.TableId.TheVariants.Lineorder, Columns.bounds_in, Database.Database, Database.rows_in, Loadable.keys_of}
use Rattle.star_plan.specs.Meaning.{Plan}
use Rattle.star_program.specs.declared.outcome.Outcome.{Outcome}
use Rattle.star_partial.specs.{declared.partial.LineKey.LineKey, Contents.Contents}
use Rattle.star_query_meaning.specs.{Answers.IsPlanAnswer, Rows.selected}
use Rattle.star_compile_laws.specs.Counts.{lookups_of}
use Rattle.star_merge_laws.specs.{Parts.AreWithin, Parts.Span, Plain.plain_plan}
use Rattle.star_engine.specs.Queries.{FitsRows, IsPlanOf, fact_rows}
use Rattle.star_partial.specs.declared.partial.Span as declared

abbrev pub line_numbers : LineKey → List ℤ
line_numbers key = key.order ∷ key.line ∷ []

abbrev pub span_view : Option declared.Span → Option Span
span_view span =
    option_map (λ s. record { low = line_numbers s.low; high = line_numbers s.high }) span

-- the outcome of the plain plan of a query: its answer, and the counts of the query's own run
pub record IsPlainOutcome (database : Database) (query : List ℕ) (p : Plan) (meant : IsPlanOf query p)
    (outcome : Outcome) : Type 0 where
  pub answer : IsPlanAnswer (rows_in database) (plain_plan p) outcome.names outcome.rows
  pub visits : outcome.visits ≡ fact_rows database
  pub lookups : outcome.lookups ≡ lookups_of (rows_in database) p
  pub updates : outcome.updates ≡ length (selected (rows_in database) meant.tree)

-- the partial of a query: the facts of the tables, and the outcome of its plain plan if it fits
pub record IsPartialOver (most : ℕ) (database : Database) (query : List ℕ) (contents : Contents)
    : Type 0 where
  pub p : Plan
  pub meant : IsPlanOf query p
  pub span : AreWithin (span_view contents.span) (keys_of Lineorder (rows_in database Lineorder))
  pub sizes : (t : TableId) → contents.sizes t ≡ length (rows_in database t)
  pub bounds : (c : ColumnId) → contents.bounds c ≡ bounds_in (rows_in database) c
  pub run : MatchOption contents.run (¬ FitsRows most database query) (λ outcome.
      FitsRows most database query × IsPlainOutcome database query p meant outcome)
