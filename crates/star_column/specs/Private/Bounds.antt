-- The bounds of numbers.
use Rattle.std.specs.Prelude.{◌≡◌, ℤ, List}
use Rattle.star_schema.specs.Bounds.{least, greatest}
use Rattle.star_interval.specs.declared.Interval.{Interval}

-- from the least to the greatest of some numbers, 0 to 0 if there are none
pub record AreBounds (bounds : Interval) (numbers : List ℤ) : Type 0 where
  pub low : bounds.low ≡ least numbers
  pub high : bounds.high ≡ greatest numbers
