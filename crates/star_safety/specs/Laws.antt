-- What acceptance by the verifier implies.
use Rattle.std.specs.Prelude.{◌≡◌, ℕ, ◌^◌, ◌≤◌, ◌<◌, ℤ, List, length, Option, Some, None, slice_index_or}
use Rattle.star_schema.specs.{declared.group.Aggregate.TheVariants.Sum, declared.group.Aggregate.TheVariants.Count, Groups.members, Groups.aggregate, Groups.numbers_for}
use Rattle.star_interval.specs.Range.{Range, Holds, FitsI128}
use Rattle.star_program.specs.{declared.key.KeyValue.KeyValue, declared.program.Parts.Parts, Limits.IsWithinLimits, World.World, World.IsLoaded, Keys.key_value_cmp, Faults.group_at, Effects.State, Run.End, Run.EndsWith}
use Rattle.star_safety.specs.{Tallies.sum_range, Tallies.most_of, Tallies.aggregate_range, Quote.quote, Admissible.IsAdmissible, Moments.all_shares}

-- a program is admissible over a loaded catalogue, and its quote does not exceed the maximum of any
-- run
pub record IsAccepted (w : World) (parts : Parts) : Type 0 where
  pub loaded : IsLoaded w
  pub limits : IsWithinLimits parts
  pub admissible : IsAdmissible w parts
  pub cheap : quote w.size parts ≤ 10 ^ 15

-- it ends without a trap, after at most this many visits
abbrev pub EndsWithin : ℕ → End → Type 0
EndsWithin visits end = EndsWith end (λ s. s.visits ≤ visits)

-- a number that isn't NULL lies in a range
abbrev pub TotalLies : Option Range → Option ℤ → Type 0
TotalLies o None = Unit {0}
TotalLies None (Some z) = ⊥
TotalLies (Some r) (Some z) = Holds r z

-- each aggregate of each group of updates lies in its range
abbrev pub TotalsLie : World → Parts → State → Type 0
TotalsLie w parts s = (g index : ℕ) (keys : List (Option KeyValue))
    → TotalLies (aggregate_range (slice_index_or (group_at parts g).aggregates index Count)
    (all_shares w parts g index))
    (aggregate (slice_index_or (group_at parts g).aggregates index Count)
    (numbers_for index (members key_value_cmp keys (s.updates_of g))))

-- the possible SUMs of all groups fit 128 bits, and the possible COUNTs 64
pub record SumsFit (w : World) (parts : Parts) : Type 0 where
  pub sums : (g index : ℕ) → index < length (group_at parts g).aggregates
      → slice_index_or (group_at parts g).aggregates index Count ≡ Sum
      → FitsI128 (sum_range (all_shares w parts g index))
  pub counts : (g index : ℕ) → most_of (all_shares w parts g index) < 2 ^ 63
