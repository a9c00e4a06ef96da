-- The two runs are one from instruction to instruction.
use Rattle.star_safety.proofs.Bounded.{unbounded}
use Rattle.star_safety.proofs.law.a_bound_of_the_quote_never_stops_a_run.Goals as goal

pub returns : goal.returns
returns c = λ w parts most. unbounded w parts most
