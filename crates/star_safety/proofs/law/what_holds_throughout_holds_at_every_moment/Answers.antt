use Rattle.star_safety.proofs.EachMoment.{holds_throughout, throughout_holds}
use Rattle.star_safety.proofs.law.what_holds_throughout_holds_at_every_moment.Goals as goal

pub returns-clause-moments : goal.returns-clause-moments
returns-clause-moments c = throughout_holds

pub returns-clause-whole : goal.returns-clause-whole
returns-clause-whole c = holds_throughout
