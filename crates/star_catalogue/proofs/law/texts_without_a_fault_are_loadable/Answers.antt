-- Both directions are lemmas.
use Rattle.star_catalogue.proofs.Loading.{loadable_none, none_loadable}
use Rattle.star_catalogue.proofs.law.texts_without_a_fault_are_loadable.Goals as goal

pub returns : goal.returns
returns c = λ most texts. (none_loadable most texts, loadable_none most texts)
