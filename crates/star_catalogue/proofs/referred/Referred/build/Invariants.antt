use Rattle.star_catalogue.specs.Private.Referred.{AreOfFirst}
use Rattle.star_catalogue.proofs.referred.Referred.build.Given as goal

abbrev pub invariant-loop-column : goal.invariant-loop-column
invariant-loop-column l = AreOfFirst l.tables l.column-index l.rows.items
