-- The bytes so far.
use Rattle.std.proofs.Common.{◌≡◌, ◌++◌, ℕ, List, length, take}
use Rattle.star_schema.specs.declared.column.Kind.{Kind}
use Rattle.star_reader.specs.Carried.{StandsFor}
use Rattle.star_reader.proofs.open_line.OpenLine.extend.Given as goal

abbrev pub invariant-loop-byte : goal.invariant-loop-byte
invariant-loop-byte l = (kinds : List Kind) (bytes : List ℕ) → length kinds ≡ l.width
    → StandsFor kinds l.fn.self bytes
    → StandsFor kinds l.self (bytes ++ take l.byte-index l.more)
