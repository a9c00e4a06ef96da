use Rattle.star_query.{specs.Private.Reads.spot_of, proofs.Filtering.read_between}
use Rattle.star_query.proofs.parser.Parser.between.Goals as goal

pub returns-clause-reads : goal.returns-clause-reads
returns-clause-reads c =
    read_between (spot_of c.args.self.now) (spot_of c.literal.new.self) (spot_of c.expect.new.self)
    (spot_of c.literal-2.new.self) c.args.column c.in_ok-least.least c.in_ok-most.most
    c.in_ok-least.ensures.reads c.in_ok-expect.ensures.reads c.in_ok-most.ensures.reads
