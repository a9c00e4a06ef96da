use Rattle.star_column.proofs.Differences.{packed_held}
use Rattle.star_column.proofs.packed.PackedColumn.view.Goals as goal

pub of-requires : goal.of-requires
of-requires c = packed_held c.self.inside.bounds c.self.inside.words c.self.invariant
