use Rattle.std.proofs.Common.{◌≡◌, ◌++◌, drop}
use Rattle.star_query.specs.Private.Cut.{undoubled, unquoted_after}
use Rattle.star_query.proofs.parser.unquoted.Given as goal

abbrev pub invariant-loop-byte : goal.invariant-loop-byte
invariant-loop-byte l = undoubled l.inside
    ≡ l.text.items ++ unquoted_after l.doubled (drop l.byte-index l.inside)
