-- The text so far, and what still stands in quotes.
use Rattle.std.proofs.Common.{◌≡◌, length}
use Rattle.star_program.{specs.Text.Said.unquoted, proofs.Text.ListLemmas.joined}
use Rattle.star_program.proofs.spelling.listed.read_unquoted.Given as goal

abbrev pub invariant-loop-byte : goal.invariant-loop-byte
invariant-loop-byte l = unquoted l.quoted ≡ joined l.text.items (unquoted l.rest)

abbrev pub decreases-loop-byte : goal.decreases-loop-byte
decreases-loop-byte l = length l.rest
