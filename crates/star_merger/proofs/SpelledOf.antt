-- The partial of a query over loaded tables is well-formed.
use Rattle.std.{proofs.Common.{◌≡◌, ◌∙◌, ℕ, ℤ, All, FitsSigned, List, None, Option, Some, arith, negsuc, pos, refl, subst, sym, w64}, proofs.Math.Logic.∥∥₁_elim, proofs.Props.props, specs.Prelude.{IfSome, MatchOption}}
use Rattle.star_interval.specs.Range.{FitsI64, Range}
use Rattle.star_schema.{specs.declared.column.ColumnId.ColumnId, specs.declared.column.Kind.Kind, specs.declared.table.TableId.TableId, specs.Columns.bounds_in, specs.Database.{Database, rows_in}, specs.Schema.{kind_of, table_of}, specs.Tables.{Number, Text, Value}, proofs.Typed.rows_in-database_of}
use Rattle.star_schema.specs.declared.column.Kind.TheVariants as kind
use Rattle.star_plan.specs.{Meaning.Plan}
use Rattle.star_program.specs.declared.outcome.Outcome.{Outcome}
use Rattle.star_report.{specs.Columns.{HasDigits, IsFieldValue}, proofs.TableTexts.table_texts_are_fields}
use Rattle.star_world.proofs.TextBounds.{text_bounds}
use Rattle.star_engine.{specs.Loads.{AreLoadedRows, AreOfLoadableTexts}, specs.Partials.IsPlainOutcome, specs.Queries.{FitsRows, IsPlanOf}, proofs.PlansOfQueries.plan_sound}
use Rattle.star_merger.{specs.Columns.{column_kinds, column_names, plan_columns}, specs.Private.Digits.HasCellDigits, specs.Spelled.{HasBounds, HasCounts, IsSpelledRun}, proofs.PlainCells.{cells_spelled, names_spelled}}

-- ---- texts of loaded tables are fields

abbrev pub AreFields : Database → Type 0
AreFields database = (t : TableId) → All (All IsFieldValue) (rows_in database t)

value_prop : (v : Value) → IsProp (IsFieldValue v)
value_prop (Number n) = hlevel props
value_prop (Text text) = hlevel props

fields_prop : (database : Database) → IsProp (AreFields database)
fields_prop database = hlevel (props, value_prop)

pub loaded_fields : (most : ℕ) (database : Database) → AreOfLoadableTexts most database
    → AreFields database
loaded_fields most database texts =
    ∥∥₁_elim texts (fields_prop database) (λ of. subst AreFields (sym of.2)
    (λ t. subst (All (All IsFieldValue)) (sym (rows_in-database_of of.0 t))
    (table_texts_are_fields t (of.0 t))))

-- ---- bounds

fits_digits : (z : ℤ) → FitsSigned w64 z → HasDigits z
fits_digits (pos n) fits = omega (arith, fits)
fits_digits (negsuc n) fits = omega (arith, fits)

pub bounds_of : (database : Database) → AreLoadedRows database → (c : ColumnId) (bounds : Range)
    → bounds ≡ bounds_in (rows_in database) c → (k : Kind) → kind_of c ≡ k → HasBounds c bounds
bounds_of database loaded c bounds is kind.Number e =
    let fits = subst FitsI64 (sym is) (loaded.bounds c e) in
    record {
      low = fits_digits bounds.low fits.0;
      high = fits_digits bounds.high fits.1;
      text = λ other. absurd (let same : kind.Number ≡ kind.Text = sym e ∙ other in cc);
    }
bounds_of database loaded c bounds is kind.Text e =
    let zero = sym (text_bounds database c e (loaded.rows (table_of c))) in
    subst (HasBounds c) (sym (is ∙ zero))
    (record { low = omega arith; high = omega arith; text = λ same. refl })

-- ---- the run

module _ (most : ℕ) (database : Database) (query : List ℕ) (p : Plan) (meant : IsPlanOf query p)
    (loaded : AreLoadedRows database) (fields : AreFields database) where
  pub run_spelled : (run : Option Outcome)
      → MatchOption run (¬ FitsRows most database query) (λ outcome.
      FitsRows most database query × IsPlainOutcome database query p meant outcome)
      → IfSome run HasCounts → IfSome run (λ outcome. All (All HasCellDigits) outcome.rows)
      → IfSome run (IsSpelledRun (column_names (plan_columns p)) (column_kinds (plan_columns p)))
  run_spelled None is counts digits = tt
  run_spelled (Some outcome) is counts digits =
      let sound = plan_sound query p meant in
      record {
        named = is.1.answer.headed ∙ names_spelled p sound;
        cells = cells_spelled (rows_in database) p sound loaded.rows fields outcome.names
            outcome.rows digits is.1.answer;
        counts = counts;
      }
