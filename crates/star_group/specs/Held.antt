-- Whether there are puts.
use Rattle.std.specs.Prelude.{Bool, true, false, List, [], ◌∷◌}
use Rattle.star_program.specs.Puts.{Update}

abbrev pub has_puts : List Update → Bool
has_puts [] = false
has_puts (put ∷ puts) = true
