-- The machine's state, in the terms of the definitions.
use Rattle.std.specs.Prelude.{List, Option, None, slice_index_or}
use Rattle.star_program.specs.{declared.value.Value.Value, Values.Registers}

-- the values of the registers, by their numbers
abbrev pub registers_view : List (Option Value) → Registers
registers_view registers r = slice_index_or registers r None
