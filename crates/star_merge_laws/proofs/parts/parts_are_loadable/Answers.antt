use Rattle.star_merge_laws.proofs.LoadableParts.{parts_loadable}
use Rattle.star_merge_laws.proofs.parts.parts_are_loadable.Goals as goal

pub returns : goal.returns
returns c = parts_loadable
