use Rattle.star_compile_laws.proofs.Flat.{quote_is}
use Rattle.star_compile_laws.proofs.law.compiled_programs_visit_each_row_once.Goals as goal

pub returns : goal.returns
returns c = quote_is
