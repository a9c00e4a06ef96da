use Rattle.star_schema.specs.Order.{value_cmp}
use Rattle.star_merge_laws.proofs.{Merging.merged_groups, Values.value_decides}
use Rattle.star_merge_laws.proofs.parts.groups_are_made_of_those_of_parts.Goals as goal

pub returns : goal.returns
returns c = λ shape count aggregates parts groups all.
    merged_groups value_cmp value_decides count aggregates shape parts all groups
