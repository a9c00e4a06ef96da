use Rattle.star_safety.proofs.MomentIndexes.{stands_in}
use Rattle.star_safety.proofs.law.moments_stand_in_their_contexts.Goals as goal

pub returns : goal.returns
returns c = stands_in
