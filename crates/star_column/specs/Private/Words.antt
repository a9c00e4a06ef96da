-- Unsigned numbers in words of one width, and the encoding of a packed column.
use Rattle.std.specs.Prelude.{◌≡◌, ◌<◌, ◌^◌, ℕ, ℤ, List, length, map, pos, ◌+ℤ◌}
use Rattle.star_interval.specs.declared.Interval.{Interval}
use Rattle.star_column.specs.{Width.bits_of, Private.Bounds.AreBounds, declared.words.Words.Words, declared.words.Words.TheVariants.Bits8, declared.words.Words.TheVariants.Bits16, declared.words.Words.TheVariants.Bits32, declared.words.Words.TheVariants.Bits64}

abbrev pub numbers_in : Words → List ℕ
numbers_in (Bits8 words) = words.items
numbers_in (Bits16 words) = words.items
numbers_in (Bits32 words) = words.items
numbers_in (Bits64 words) = words.items

abbrev pub word_bits : Words → ℕ
word_bits (Bits8 words) = 8
word_bits (Bits16 words) = 16
word_bits (Bits32 words) = 32
word_bits (Bits64 words) = 64

-- the numbers with these differences from another
abbrev pub numbers_above : ℤ → List ℕ → List ℤ
numbers_above low differences = map (λ difference. low +ℤ pos difference) differences

-- the bounds of a column, and the differences of its numbers from the least, in words of the least
-- width
pub record IsPacked (bounds : Interval) (words : Words) : Type 0 where
  pub few : length (numbers_in words) < 2 ^ 32
  pub bounds_are : AreBounds bounds (numbers_above bounds.low (numbers_in words))
  pub width : word_bits words ≡ bits_of (numbers_above bounds.low (numbers_in words))
