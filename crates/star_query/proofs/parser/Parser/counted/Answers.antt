use Rattle.star_query.{specs.Private.Reads.spot_of, proofs.Queries.read_counted}
use Rattle.star_query.proofs.parser.Parser.counted.Goals as goal

pub returns-clause-reads : goal.returns-clause-reads
returns-clause-reads c =
    read_counted (spot_of c.args.self.now) (spot_of c.expect.new.self) (spot_of c.expect-2.new.self)
    (spot_of c.expect-3.new.self) c.in_ok-expect.ensures.reads c.in_ok-expect-2.ensures.reads
    c.in_ok-expect-3.ensures.reads
