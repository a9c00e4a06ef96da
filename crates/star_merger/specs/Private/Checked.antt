-- What is checked of partials before anything is written.
use Rattle.std.specs.Prelude.{◌≡◌, ◌≢◌, ◌<◌, ◌≤◌, ◌^◌, ℕ, Bool, false, true, List, None, Option, Some, length, slice_index_or}
use Rattle.star_schema.specs.{declared.table.TableId.TheVariants.Lineorder, declared.column.ColumnId.ColumnId, declared.table.TableId.TableId, Columns.bounds_in, Database.{Database, rows_in}, Schema.table_of, Sizes.size_of}
use Rattle.star_catalogue.specs.declared.fault.LoadFault.TheVariants.{TooManyRows}
use Rattle.star_partial.specs.Contents.{Contents, bounds_at}
use Rattle.star_merge_laws.specs.Parts.{Span, are_disjoint}
use Rattle.star_verify.specs.declared.facts.Facts.{Facts}
use Rattle.star_engine.specs.{declared.fault.EngineFault.TheVariants.Load, Queries.fact_rows}
use Rattle.star_merger.specs.{declared.fault.PartialsFault.PartialsFault, declared.fault.PartialsFault.TheVariants.Engine, Merged.IsOverlap, Private.Shown.HasFacts}

-- a partial shows the dimensions of a database
pub record HasDimensions (hash : List ℕ) (database : Database) (contents : Contents) : Type 0
  where
    pub digest : contents.digest ≡ hash
    pub sizes : (t : TableId) → t ≢ Lineorder → contents.sizes t ≡ length (rows_in database t)
    pub bounds : (c : ColumnId) → table_of c ≢ Lineorder
        → contents.bounds c ≡ bounds_in (rows_in database) c

-- the facts of a database; without any, lineorder has more rows than 32 bits can count
abbrev pub AreFactsIf : Database → Option Facts → Type 0
AreFactsIf database None = 2 ^ 32 ≤ fact_rows database
AreFactsIf database (Some facts) = HasFacts database (size_of facts.sizes) (bounds_at facts.bounds)

-- the same within a limit on rows
abbrev pub AreFactsWithin : (most : ℕ) → Database → Option Facts → Type 0
AreFactsWithin most database None = most < fact_rows database
AreFactsWithin most database (Some facts) =
    HasFacts database (size_of facts.sizes) (bounds_at facts.bounds)
    × (facts.sizes.lineorder ≤ most)

abbrev pub AreDisjointSpans : List (Option Span) → Type 0
AreDisjointSpans spans =
    (index other : ℕ) → other < index → index < length spans
    → are_disjoint (slice_index_or spans other None) (slice_index_or spans index None) ≡ true

-- the facts of all parts, whose spans are disjoint unless the keys are vouched for
pub record AreChecked (most : ℕ) (database : Database) (is_distinct : Bool)
    (spans : List (Option Span)) (facts : Facts) : Type 0 where
  pub known : HasFacts database (size_of facts.sizes) (bounds_at facts.bounds)
  pub few : facts.sizes.lineorder ≤ most
  pub disjoint : is_distinct ≡ false → AreDisjointSpans spans

-- why there are none: too many rows, or spans that overlap
abbrev pub IsUnchecked : (most : ℕ) → Database → Bool → List (Option Span) → PartialsFault → Type 0
IsUnchecked most database is_distinct spans (Engine (Load fault)) =
    (fault ≡ TooManyRows Lineorder) × (most < fact_rows database)
IsUnchecked most database is_distinct spans (Engine fault) = ⊥
IsUnchecked most database is_distinct spans fault = IsOverlap is_distinct spans fault
