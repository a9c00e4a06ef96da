-- The kinds that an instruction allows its operands.
use Rattle.std.specs.Prelude.{Bool}
use Rattle.star_program.specs.{declared.value.Kind.Kind, Faults.{is_number_kind, is_flag_kind, is_row_kind, is_ordered, compares_with, fits_key}}
use Rattle.star_kinds.specs.declared.operands.Wanted.{Wanted, TheVariants.{Number, Flag, Row, Ordered, Like, Key}}

abbrev pub taken : Wanted → Kind → Bool
taken Number k = is_number_kind k
taken Flag k = is_flag_kind k
taken Row k = is_row_kind k
taken Ordered k = is_ordered k
taken (Like other) k = compares_with other k
taken (Key declared) k = fits_key declared k
