use Rattle.std.proofs.Common.{◌≡◌, length}
use Rattle.star_statements.specs.Blanks.{without_blanks}
use Rattle.star_statements.proofs.blanks.without_blanks.Given as goal

abbrev pub invariant-blanks : goal.invariant-blanks
invariant-blanks l = without_blanks l.rest ≡ without_blanks l.fn.text

abbrev pub decreases-blanks : goal.decreases-blanks
decreases-blanks l = length l.rest
