-- Contents of a partial whose text is not that of others.
use Rattle.std.specs.Prelude.{◌≡◌, ◌<◌, ◌^◌, ℕ, List, All, IfSome, length, pos}
use Rattle.star_interval.specs.Range.{Range, only}
use Rattle.star_schema.specs.{declared.column.ColumnId.ColumnId, declared.column.Kind.TheVariants.Text, declared.table.TableId.TableId, Schema.kind_of}
use Rattle.star_program.specs.declared.outcome.Outcome.{Outcome}
use Rattle.star_report.specs.Columns.{AreRowsOf, ColumnKind, HasDigits}
use Rattle.star_partial.specs.{declared.partial.LineKey.LineKey, declared.partial.Span.Span, Contents.Contents}

pub record IsSpelledKey (key : LineKey) : Type 0 where
  pub order : HasDigits key.order
  pub line : HasDigits key.line

pub record IsSpelledSpan (span : Span) : Type 0 where
  pub low : IsSpelledKey span.low
  pub high : IsSpelledKey span.high

-- numbers of at most 64 digits
pub record HasCounts (outcome : Outcome) : Type 0 where
  pub rows : length outcome.rows < 10 ^ 64
  pub visits : outcome.visits < 10 ^ 64
  pub lookups : outcome.lookups < 10 ^ 64
  pub updates : outcome.updates < 10 ^ 64

-- a report with these columns, whose numbers have at most 64 digits
pub record IsSpelledRun (names : List (List ℕ)) (kinds : List ColumnKind) (outcome : Outcome)
    : Type 0 where
  pub named : outcome.names ≡ names
  pub cells : AreRowsOf kinds outcome.rows
  pub counts : HasCounts outcome

-- a text column has the bounds 0 and 0
pub record HasBounds (column : ColumnId) (bounds : Range) : Type 0 where
  pub low : HasDigits bounds.low
  pub high : HasDigits bounds.high
  pub text : kind_of column ≡ Text → bounds ≡ only (pos 0)

pub record IsSpelled (names : List (List ℕ)) (kinds : List ColumnKind) (contents : Contents)
    : Type 0 where
  pub bytes : All (λ b. b < 2 ^ 8) contents.digest
  pub digest : length contents.digest ≡ 32
  pub span : IfSome contents.span IsSpelledSpan
  pub sizes : (t : TableId) → contents.sizes t < 10 ^ 64
  pub bounds : (c : ColumnId) → HasBounds c (contents.bounds c)
  pub run : IfSome contents.run (IsSpelledRun names kinds)
