-- The fields of a merger.
use Rattle.std.specs.Prelude.{◌≡◌}
use Rattle.star_plan.specs.Views.{plan_view}
use Rattle.star_compile_laws.specs.Compiled.{compiled}
use Rattle.star_merger.specs.{declared.merger.Merger.TheInside.Inside, Columns.plan_columns, Mergers.PlannedQuery}

abbrev pub planned_query : Inside → PlannedQuery
planned_query merger = record { text = merger.query.items; plan = merger.plan }

-- the program and the columns are those of the plan
pub record IsOfPlan (merger : Inside) : Type 0 where
  pub program : merger.program ≡ compiled (plan_view merger.plan)
  pub columns : merger.columns.items ≡ plan_columns (plan_view merger.plan)
