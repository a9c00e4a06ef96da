use Rattle.star_group.proofs.Common.{map-set, key_value_view, All}
use Rattle.star_group.proofs.keyed.key.with_all_at.Goals as goal

pub returns-clause-key : goal.returns-clause-key
returns-clause-key c = map-set key_value_view c.args.parts.now c.args.index All
