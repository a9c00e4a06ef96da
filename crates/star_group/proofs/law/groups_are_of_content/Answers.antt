use Rattle.star_group.proofs.ContentByKeys.{are_of_content}
use Rattle.star_group.proofs.law.groups_are_of_content.Goals as goal

pub returns : goal.returns
returns c = are_of_content
