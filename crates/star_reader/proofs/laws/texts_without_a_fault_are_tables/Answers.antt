-- Both directions are lemmas.
use Rattle.star_reader.proofs.Law.{table_complete, table_sound}
use Rattle.star_reader.proofs.laws.texts_without_a_fault_are_tables.Goals as goal

pub returns : goal.returns
returns c = λ table most parts. (table_sound table most parts, table_complete table most parts)
