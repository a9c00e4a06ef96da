-- The verifier state as definitions see it.
use Rattle.std.specs.{Prelude.{◌≡◌, nat_eq, List, slice_index_or, Option, None}, Option.option_map, Int.bit_at}
use Rattle.star_schema.specs.Schema.{index_of}
use Rattle.star_interval.specs.Interval.{range_of, wide_range_of}
use Rattle.star_program.specs.declared.value.Kind.{Kind}
use Rattle.star_safety.specs.Tallies.{Share, sum_range, most_of, hull_of, reach_of}
use Rattle.star_verify.specs.{declared.reach.Reach.Reach, declared.register.Register.Register, declared.tally.Tally.Tally, declared.known.Known.Known}
use Rattle.star_safety.specs.Ranges as ranges
use Rattle.star_verify.specs.declared.known.Known.TheVariants as known

-- a column's bit is 1
abbrev pub reach_view : Reach → ranges.Reach
reach_view reach c = nat_eq (bit_at reach.columns (index_of c)) 1

abbrev pub known_view : Known → ranges.Known
known_view (known.Number range reach origin) =
    ranges.KnownNumber (range_of range) (reach_view reach) origin
known_view (known.Text c) = ranges.KnownText c
known_view (known.Place c) = ranges.KnownPlace c
known_view (known.Row t) = ranges.KnownRow t
known_view known.Flag = ranges.KnownFlag

-- the contributions of some puts to an aggregate
pub record IsTally (tally : Tally) (ss : List Share) : Type 0 where
  pub sum : wide_range_of tally.sum ≡ sum_range ss
  pub many : tally.many ≡ most_of ss
  pub each : option_map range_of tally.each ≡ hull_of ss
  pub reach : reach_view tally.reach ≡ reach_of ss

-- the facts of registers, by number
abbrev pub known_of : Register → Option ranges.Known
known_of register = option_map known_view register.known

abbrev pub nothing_known : Register
nothing_known = record { known = None }

abbrev pub known_in : List Register → ranges.AllKnown
known_in registers r = known_of (slice_index_or registers r nothing_known)

abbrev pub kind_known : Register → Option Kind
kind_known register = option_map ranges.known_kind (known_of register)
