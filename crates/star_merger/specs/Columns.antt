-- The columns of the reports of partials.
use Rattle.std.specs.Prelude.{◌++◌, ℕ, List, map}
use Rattle.star_schema.specs.{declared.column.ColumnId.ColumnId, declared.column.Kind.Kind, Schema.column_name, Schema.kind_of}
use Rattle.star_plan.specs.Meaning.{Plan}
use Rattle.star_partial.specs.declared.partial.ColumnKind.{ColumnKind, TheVariants.{NumberKey, TextKey, Total}}
use Rattle.star_report.specs.Columns as report
use Rattle.star_merger.specs.declared.columns.PartialColumn.{PartialColumn}
use Rattle.star_schema.specs.declared.column.Kind.TheVariants as kind

abbrev pub kind_view : ColumnKind → report.ColumnKind
kind_view NumberKey = report.NumberKey
kind_view TextKey = report.TextKey
kind_view Total = report.Total

abbrev pub column_names : List PartialColumn → List (List ℕ)
column_names columns = map (λ column. column.name) columns

abbrev pub column_kinds : List PartialColumn → List report.ColumnKind
column_kinds columns = map (λ column. kind_view column.kind) columns

-- ---- the columns of a query

abbrev pub key_kind : Kind → ColumnKind
key_kind kind.Number = NumberKey
key_kind kind.Text = TextKey

abbrev pub key_column : ColumnId → PartialColumn
key_column c = record { name = column_name c; kind = key_kind (kind_of c) }

abbrev pub total_column : List ℕ → PartialColumn
total_column name = record { name = name; kind = Total }

-- all keys, and then all aggregates
abbrev pub plan_columns : Plan → List PartialColumn
plan_columns p = map key_column p.keys ++ map total_column p.names
