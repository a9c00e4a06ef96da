use Rattle.std.proofs.Common.{rules}
use Rattle.star_query.proofs.counts.Part.limit.Goals as goal

pub returns-in-Comparison-clause-limit : goal.returns-in-Comparison-clause-limit
returns-in-Comparison-clause-limit c = search rules
