-- Why the columns that a program loads and the constants of its conditions must be of 64 bits, so
-- that a query that fits is accepted: the query is asked only for what it aggregates.
use Rattle.std.{proofs.Common.{◌≡◌, ◌^◌, [], ◌∷◌, Some, refl, arith}, specs.Prelude.{pos, codes}}
use Rattle.star_common.specs.First.{first_answer}
use Rattle.star_schema.specs.{declared.column.ColumnId.TheVariants.LoTax, declared.group.Shape.TheVariants.Plain, declared.group.GroupColumn.TheVariants.Aggregate, Schema.column_of, Tables.Number}
use Rattle.star_interval.specs.Range.{Range, is_i64}
use Rattle.star_query.specs.{declared.token.Relation.TheVariants.Less, Tree.count}
use Rattle.star_plan.specs.{Meaning.Plan, Fits.Fits}
use Rattle.star_compile_laws.{proofs.PlanWords.compare, specs.Compiled.compiled}
use Rattle.star_program.{specs.World.World, proofs.Sample.sample}
use Rattle.star_safety.specs.{Admissible.Refused, Admissible.first_refusal, Refusals.reached, declared.reason.Reason.TheVariants.Overflow}

-- ---- bounds

abbrev wide_range : Range
wide_range = record { low = pos 0; high = pos (2 ^ 63) }

abbrev wide : World
wide = record sample { bounds = λ c. wide_range }

-- how many lines have a tax below 1
abbrev untaxed : Plan
untaxed = record {
  joins = [];
  conjuncts = compare LoTax Less (Number (pos 1)) ∷ [];
  shape = Plain;
  keys = [];
  measures = count ∷ [];
  names = codes "lines" ∷ [];
  items = Aggregate 0 ∷ [];
  sorts = [];
}

untaxed_fits : Fits 5 5 wide.bounds untaxed
untaxed_fits = record { visits = omega arith; nodes = refl }

untaxed_refused : first_refusal wide 5 (compiled untaxed)
    ≡ Some (Refused (
      2,
      Overflow (pos 0) (pos (2 ^ 63))
          (record { column = LoTax; low = pos 0; high = pos (2 ^ 63) } ∷ []),
    ))
unfolding column_of first_answer is_i64 reached
untaxed_refused = refl

-- ---- constants

-- a constant that no query has: too many digits
abbrev below_all : Plan
below_all = record untaxed { conjuncts = compare LoTax Less (Number (pos (2 ^ 63))) ∷ [] }

below_all_fits : Fits 5 5 sample.bounds below_all
below_all_fits = record { visits = omega arith; nodes = refl }

below_all_refused : first_refusal sample 5 (compiled below_all)
    ≡ Some (Refused (3, Overflow (pos (2 ^ 63)) (pos (2 ^ 63)) []))
unfolding column_of first_answer is_i64 reached
below_all_refused = refl
