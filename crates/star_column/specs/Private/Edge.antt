-- The two edges of a text's range among sorted texts.
use Rattle.std.specs.{Prelude.Bool, Ordering.is_lt, Ordering.is_le, declared.cmp.Ordering.Ordering}
use Rattle.star_column.specs.{declared.dictionary.Edge.Edge, declared.dictionary.Edge.TheVariants.Low, declared.dictionary.Edge.TheVariants.High}

-- whether an edge of a text comes after another text that compares so with it
abbrev pub is_after : Edge → Ordering → Bool
is_after Low o = is_lt o
is_after High o = is_le o
