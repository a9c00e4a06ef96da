use Rattle.std.proofs.Common.{rules}
use Rattle.star_program.specs.Text.FirstFaults.{is_within}
use Rattle.star_program.proofs.spelling.text_state.TextState.is_within.Goals as goal

pub returns-else-self-2 : goal.returns-else-self-2
unfolding is_within
returns-else-self-2 c = search rules
