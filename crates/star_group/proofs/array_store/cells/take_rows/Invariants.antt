use Rattle.star_group.proofs.Common.{◌≡◌, ◌∷◌, [], column_after}
use Rattle.star_group.proofs.array_store.cells.take_rows.Given as goal

abbrev pub invariant-loop-row : goal.invariant-loop-row
invariant-loop-row l = column_after l.aggregate l.vector l.at (l.fn.cell ∷ []) l.row ≡ l.all ∷ []
