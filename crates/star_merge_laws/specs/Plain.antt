-- The plan of a partial: the plain groups, with all keys and all aggregates.
use Rattle.std.specs.Prelude.{ℕ, ◌+◌, List, [], ◌∷◌, ◌++◌}
use Rattle.star_schema.specs.{declared.group.GroupColumn.GroupColumn, declared.group.GroupColumn.TheVariants.Aggregate, declared.group.GroupColumn.TheVariants.Key, declared.group.Shape.TheVariants.Plain}
use Rattle.star_plan.specs.Meaning.{Plan}

-- a column for each element of a list, with numbers from `index` on
abbrev pub columns_at : {X : Type 0} → (ℕ → GroupColumn) → ℕ → List X → List GroupColumn
columns_at column index [] = []
columns_at column index (x ∷ xs) = column index ∷ columns_at column (index + 1) xs

-- a plan without CUBE, ROLLUP and ORDER BY that shows all keys and aggregates
abbrev pub plain_plan : Plan → Plan
plain_plan p =
    record p {
      shape = Plain;
      items = columns_at Key 0 p.keys ++ columns_at Aggregate 0 p.measures;
      sorts = [];
    }
