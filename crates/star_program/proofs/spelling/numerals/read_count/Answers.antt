use Rattle.std.proofs.Common.{rules}
use Rattle.star_program.specs.Text.Numerals.{count_of}
use Rattle.star_program.proofs.spelling.numerals.read_count.Goals as goal

pub overflow_cast-result : goal.overflow_cast-result
overflow_cast-result c = search rules

pub returns : goal.returns
unfolding count_of
returns c = search rules
