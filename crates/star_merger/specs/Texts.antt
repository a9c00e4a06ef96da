-- The text of a partial of a query.
use Rattle.std.specs.Prelude.{◌≡◌, ℕ, List}
use Rattle.star_schema.specs.Database.{Database}
use Rattle.star_partial.specs.{Contents.Contents, Text.partial_text}
use Rattle.star_engine.specs.Partials.{IsPartialOver}
use Rattle.star_merger.specs.{Columns.column_kinds, Columns.column_names, Columns.plan_columns, Spelled.IsSpelled}

-- the text of the partial of a query over these tables
pub record IsPartialText (most : ℕ) (database : Database) (query text : List ℕ) : Type 0 where
  pub contents : Contents
  pub partial : IsPartialOver most database query contents
  pub spelled : let columns = plan_columns partial.p in
      IsSpelled (column_names columns) (column_kinds columns) contents
  pub written : text ≡ partial_text query contents
