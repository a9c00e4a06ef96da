use Rattle.star_group.proofs.Common.{◌≡◌, false, true, after_rows}
use Rattle.star_group.proofs.array_store.cells.mark.Given as goal

abbrev pub invariant-loop-row : goal.invariant-loop-row
invariant-loop-row l = l.seen ≡ after_rows false (λ row was. true) l.at l.fn.seen l.row
