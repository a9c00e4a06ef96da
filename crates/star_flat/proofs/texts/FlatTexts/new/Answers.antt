use Rattle.star_flat.proofs.CutLemmas.{none_cut, no_texts}
use Rattle.star_flat.proofs.texts.FlatTexts.new.Goals as goal

pub invariant_of-result : goal.invariant_of-result
invariant_of-result c = rw (c.new-2.ensures, c.new.ensures.items) none_cut

pub returns : goal.returns
returns c = no_texts _ _ c.new-2.ensures
