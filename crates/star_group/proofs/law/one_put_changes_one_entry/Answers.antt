use Rattle.star_group.proofs.ContentMore.{content_more}
use Rattle.star_group.proofs.law.one_put_changes_one_entry.Goals as goal

pub returns : goal.returns
returns c = content_more
