-- The results of this crate's calls.
use Rattle.std.specs.{Prelude.{◌≡◌, ◌+◌, ◌<◌, ℕ, List, [], get_or, length, map, Option, None, Some, Result, Ok, Err, IfOk, Vec}, Global.Global}
use Rattle.star_common.specs.Memory.{UnlessMemory}
use Rattle.star_schema.specs.declared.column.ColumnId.{ColumnId}
use Rattle.star_plan.specs.{declared.fault.PlanFault.PlanFault, declared.fault.PlanFault.TheVariants.OutOfMemory, Meaning.RowCondition, Naming.name_of_aggregate, Views.row_condition_view}
use Rattle.star_query.specs.{declared.tree.Comparison.Comparison, Tree.Item, Tree.aggregate, Tree.plain}
use Rattle.star_query.specs.declared.tree.Condition as of_query

-- the error is the fault that there is, or out of memory
abbrev pub Reports : {X : Type 0} → Option PlanFault → Result X PlanFault → Type 0
Reports fault (Ok x) = fault ≡ None
Reports fault (Err e) = UnlessMemory OutOfMemory e (fault ≡ Some e)

-- the result, as it is shown, is the expected one
abbrev pub Resolves : {X A F : Type 0} → (X → A) → Option A → Result X F → Type 0
Resolves shown there result = IfOk result (λ x. Some (shown x) ≡ there)

-- an aggregate that `before` others come before has its name among all at that position
abbrev pub IsNamedAt : List (List ℕ) → (before : ℕ) → Item → Type 0
IsNamedAt names before (plain n) = Unit {0}
IsNamedAt names before (aggregate a) =
    (before < length names) × (get_or names before [] ≡ name_of_aggregate (before + 1) a)

abbrev pub conditions_view : Vec (of_query.Condition (Comparison ColumnId)) Global
    → List RowCondition
conditions_view cs = map row_condition_view cs.items
