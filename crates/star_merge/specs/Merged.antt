-- The rows of merged groups.
use Rattle.std.specs.{Prelude.{◌≡◌, ◌⊎◌, ◌<◌, ◌^◌, ℕ, ℤ, All, List, [], None, Option, Some, length, map, replicate, slice_index_or, true, unsigned_abs}, Option.is_some, List.{flat_map, sum_by}}
use Rattle.star_schema.specs.{declared.group.Aggregate.Aggregate, declared.group.GroupColumn.GroupColumn, declared.group.Shape.Shape, declared.group.SortKey.SortKey, Groups.GroupRow, Order.AreInOrder, Order.value_cmp, Tables.Value, Database.Database}
use Rattle.star_program.specs.{declared.outcome.Cell.Cell, RowCells.cell_of}
use Rattle.star_query_meaning.specs.Answers.{IsPlanAnswer}
use Rattle.star_plan.specs.Meaning.{Plan, Row}
use Rattle.star_merge_laws.specs.{Merging.AreMerged, Plain.plain_plan, Tables.tables_with}
use Rattle.star_merge.specs.Cells.{group_of}

-- the group of a row or more: no key is ALL, and no aggregate is NULL
pub record IsFull (count : ℕ) (aggregates : List Aggregate) (group : GroupRow Value) : Type 0 where
  pub keys : map is_some group.keys ≡ replicate count true
  pub totals : map is_some group.totals ≡ map (λ g. true) aggregates

-- groups of rows, or by no key
abbrev pub AreOfShape : ℕ → List Aggregate → List (GroupRow Value) → Type 0
AreOfShape count gs groups =
    (count ≡ 0) × All (λ (group : GroupRow Value). group.keys ≡ []) groups
    ⊎ All (IsFull count gs) groups

-- how far a total is from zero; NULL counts as zero
abbrev pub distance : Option ℤ → ℕ
distance None = 0
distance (Some z) = unsigned_abs z

-- the distances of the totals at an index of some groups, added up
abbrev pub reach : (index : ℕ) → List (GroupRow Value) → ℕ
reach index groups = sum_by (λ group. distance (slice_index_or group.totals index None)) groups

-- whichever of the totals at an index are added up, the sum has 128 bits
abbrev pub AreSmall : List (GroupRow Value) → Type 0
AreSmall groups = (index : ℕ) → reach index groups < 2 ^ 127

-- the merged groups of some plain groups, in order, each cut to some columns
pub record IsMergedRows (s : Shape) (count : ℕ) (aggregates : List Aggregate) (sorts : List SortKey)
    (items : List GroupColumn) (parts : List (GroupRow Value)) (rows : List (List Cell))
    : Type 0 where
  pub groups : List (GroupRow Value)
  pub merged : AreMerged value_cmp s count aggregates parts groups
  pub in_order : AreInOrder value_cmp sorts groups
  pub cells : rows ≡ map (λ group. map (cell_of group) items) groups

-- rows of lineorder, and the printed rows of a query's plain plan over them
pub record PlainReport : Type 0 where
  pub lineorder : List Row
  pub names : List (List ℕ)
  pub rows : List (List Cell)

abbrev pub ArePlainReports : Database → Plan → List PlainReport → Type 0
ArePlainReports database p reports =
    All (λ report. IsPlanAnswer (tables_with database report.lineorder) (plain_plan p) report.names
    report.rows) reports

-- the groups that some plain reports show
abbrev pub groups_shown : Plan → List PlainReport → List (GroupRow Value)
groups_shown p reports = flat_map (λ report. map (group_of (length p.keys)) report.rows) reports
