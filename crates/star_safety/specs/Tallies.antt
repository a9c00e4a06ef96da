-- The possible sums over the updates of a group, from the puts that make them.
use Rattle.std.specs.Prelude.{ℕ, ◌+◌, pos, ◌+ℤ◌, List, [], ◌∷◌, Option, Some, None}
use Rattle.star_schema.specs.declared.group.Aggregate.{Aggregate, TheVariants.Sum, TheVariants.Count, TheVariants.Min, TheVariants.Max}
use Rattle.star_interval.specs.Range.{Range, only, hull, corner_range, multiple_range}
use Rattle.star_safety.specs.Ranges.{Reach, no_reach, joined_reach}

-- the contribution of a put to an aggregate
pub record Share : Type 0 where
  -- how often the put is executed at most
  pub met : ℕ
  -- the range of the number
  pub range : Range
  -- the columns that it is computed from
  pub reach : Reach

-- the contributions of some puts to each aggregate of each group, by number, the last put first
abbrev pub Shares : Type 0
Shares = ℕ → ℕ → List Share

abbrev pub no_shares : Shares
no_shares g a = []

abbrev pub reach_of : List Share → Reach
reach_of [] = no_reach
reach_of (s ∷ ss) = joined_reach (reach_of ss) s.reach

-- ---- the range of an aggregate

-- widened to hold 0
abbrev pub widened : Range → Range
widened r = hull r (only (pos 0))

-- of a SUM: the sum, over the puts, of the number of executions times the range, widened to hold 0
-- since a put may be executed less often
abbrev pub sum_range : List Share → Range
sum_range [] = only (pos 0)
sum_range (s ∷ ss) = corner_range ◌+ℤ◌ (sum_range ss) (multiple_range s.met (widened s.range))

-- the maximum count of numbers
abbrev pub most_of : List Share → ℕ
most_of [] = 0
most_of (s ∷ ss) = most_of ss + s.met

abbrev pub hull_with : Option Range → Range → Range
hull_with None r = r
hull_with (Some s) r = hull s r

-- the least range that holds the range of each number, if there is one
abbrev pub hull_of : List Share → Option Range
hull_of [] = None
hull_of (s ∷ ss) = Some (hull_with (hull_of ss) s.range)

-- MIN and MAX are among the numbers
abbrev pub aggregate_range : Aggregate → List Share → Option Range
aggregate_range Sum ss = Some (sum_range ss)
aggregate_range Count ss = Some (record { low = pos 0; high = pos (most_of ss) })
aggregate_range Min ss = hull_of ss
aggregate_range Max ss = hull_of ss

-- the range of a read, with its default
abbrev pub read_range : Aggregate → List Share → Range → Range
read_range g ss default = hull_with (aggregate_range g ss) default
