use Rattle.star_query.{specs.Private.Reads.spot_of, proofs.Filtering.read_compared}
use Rattle.star_query.proofs.parser.Parser.compared.Goals as goal

pub returns-clause-reads : goal.returns-clause-reads
returns-clause-reads c =
    read_compared (spot_of c.args.self.now) (spot_of c.literal.new.self) c.args.column
    c.args.relation c.in_ok-literal.literal c.in_ok-literal.ensures.reads
