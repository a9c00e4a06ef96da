-- Items found by name, and the names of shapes, aggregates and directions.
use Rattle.std.specs.{Prelude.{ℕ, List, Option, codes, find, nat_eq}, Cmp.Lexicographic.pointwise}
use Rattle.star_schema.specs.declared.group.{Shape.Shape, Aggregate.Aggregate, Direction.Direction}
use Rattle.star_schema.specs.declared.group.Shape.TheVariants as shape
use Rattle.star_schema.specs.declared.group.Aggregate.TheVariants as aggregate
use Rattle.star_schema.specs.declared.group.Direction.TheVariants as direction

-- the first of these with a name
abbrev pub named : {X : Type 0} → (X → List ℕ) → List X → List ℕ → Option X
named name_of all name = find (λ x. pointwise nat_eq (name_of x) name) all

unfoldable pub shape_name : Shape → List ℕ
shape_name shape.Plain = codes "plain"
shape_name shape.Cube = codes "cube"
shape_name shape.Rollup = codes "rollup"

unfoldable pub aggregate_name : Aggregate → List ℕ
aggregate_name aggregate.Sum = codes "sum"
aggregate_name aggregate.Count = codes "count"
aggregate_name aggregate.Min = codes "min"
aggregate_name aggregate.Max = codes "max"

unfoldable pub direction_name : Direction → List ℕ
direction_name direction.Ascending = codes "ascending"
direction_name direction.Descending = codes "descending"
