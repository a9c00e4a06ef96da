use Rattle.std.proofs.Common.{◌∙◌}
use Rattle.star_reader.proofs.Fields.{field_at-slice_get}
use Rattle.star_reader.proofs.record.field_at.Goals as goal

pub returns : goal.returns
returns c = c.get.ensures.value ∙ field_at-slice_get _ _
