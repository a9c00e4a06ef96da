use Rattle.star_schema.proofs.Dictionaries.{one_dictionary}
use Rattle.star_schema.proofs.law.texts_have_one_dictionary.Goals as goal

pub returns : goal.returns
returns c = one_dictionary
