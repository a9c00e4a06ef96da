use Rattle.std.proofs.Common.{◌∙◌, sym}
use Rattle.star_column.{specs.Private.Words.numbers_in, proofs.Differences.length-above}
use Rattle.star_column.proofs.packed.PackedColumnColumnData.len.Goals as goal

pub returns : goal.returns
returns c =
    rw (← c.self.view_is)
    (c.len.ensures ∙ sym (length-above c.self.inside.bounds.low (numbers_in c.self.inside.words)))
