use Rattle.std.proofs.Common.{◌≡◌}
use Rattle.star_catalogue.{specs.Load.absent_fault, proofs.Refers.absent_from}
use Rattle.star_catalogue.proofs.references.check_references.Given as goal

abbrev pub invariant-loop-row : goal.invariant-loop-row
invariant-loop-row l = absent_fault l.tables ≡ absent_from l.tables l.row
