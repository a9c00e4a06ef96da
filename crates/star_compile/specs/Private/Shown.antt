-- A plan that shows other columns of its groups.
use Rattle.std.specs.Prelude.{List}
use Rattle.star_schema.specs.{declared.group.GroupColumn.GroupColumn, declared.group.Shape.Shape, declared.group.SortKey.SortKey}
use Rattle.star_plan.specs.Meaning.{Plan}

abbrev pub plan_shown : Plan → Shape → List GroupColumn → List SortKey → Plan
plan_shown p shape items sorts = record p { shape = shape; items = items; sorts = sorts }
