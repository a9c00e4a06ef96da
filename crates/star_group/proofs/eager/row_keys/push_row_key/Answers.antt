use Rattle.star_group.proofs.Common.{rules}
use Rattle.star_group.proofs.eager.row_keys.push_row_key.Goals as goal

pub returns-then-not-is_grouping : goal.returns-then-not-is_grouping
returns-then-not-is_grouping c = search rules

pub returns : goal.returns
returns c = search rules
