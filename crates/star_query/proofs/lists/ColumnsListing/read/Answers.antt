use Rattle.star_query.{specs.Private.Reads.spot_of, proofs.Queries.read_column}
use Rattle.star_query.proofs.lists.ColumnsListing.read.Goals as goal

pub returns-clause-reads : goal.returns-clause-reads
returns-clause-reads c = read_column (spot_of c.args.parser.now) _ _ c.counted_name.ensures.reads
