-- Which trees a query may have.
use Rattle.std.specs.Prelude.{ℕ, List}
use Rattle.star_query.specs.{Derives.Means, Tree.Tree}

-- some text means it, so it is within all limits, and its names, numbers and texts are spelled as
-- the grammar wants
abbrev pub IsMeant : Tree → Type 0
IsMeant tree = (bytes : List ℕ) × Means bytes tree
