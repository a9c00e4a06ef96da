use Rattle.star_query.{specs.Private.Reads.spot_of, proofs.Queries.read_table}
use Rattle.star_query.proofs.lists.TablesListing.read.Goals as goal

pub returns-clause-reads : goal.returns-clause-reads
returns-clause-reads c = read_table (spot_of c.args.parser.now) _ _ c.name.ensures.reads
