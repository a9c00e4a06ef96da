use Rattle.star_merger.proofs.TextsApart.{contents_same}
use Rattle.star_merger.proofs.law.one_text_has_one_partial.Goals as goal

pub returns : goal.returns
returns c = contents_same
