use Rattle.star_column.proofs.Differences.{packed_held}
use Rattle.star_column.proofs.packed.PackedColumnColumnData.bounds.Goals as goal

pub returns-clause-held : goal.returns-clause-held
returns-clause-held c =
    rw (← c.self.view_is) (packed_held c.self.inside.bounds c.self.inside.words c.self.invariant)
