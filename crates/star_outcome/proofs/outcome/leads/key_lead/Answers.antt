use Rattle.std.proofs.Common.{rules}
use Rattle.star_outcome.proofs.outcome.leads.key_lead.Goals as goal

pub returns-in-None : goal.returns-in-None
returns-in-None c = search rules
