use Rattle.star_engine.proofs.ThirteenMeant.{meant, named, never_refused}
use Rattle.star_engine.proofs.query_laws.the_thirteen_are_queries.Goals as goal

pub returns : goal.returns
returns c = record { meant = meant; named = named; read = never_refused }
