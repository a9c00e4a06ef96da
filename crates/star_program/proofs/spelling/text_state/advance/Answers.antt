use Rattle.std.proofs.Common.{rules}
use Rattle.star_program.specs.Text.FirstFaults.{advance}
use Rattle.star_program.proofs.spelling.text_state.advance.Goals as goal

pub returns-in-Ok-reach : goal.returns-in-Ok-reach
unfolding advance
returns-in-Ok-reach c = search rules
