use Rattle.star_query.{specs.Private.Reads.spot_of, proofs.Queries.read_folded}
use Rattle.star_query.proofs.parser.Parser.folded.Goals as goal

pub returns-clause-reads : goal.returns-clause-reads
returns-clause-reads c =
    read_folded (spot_of c.args.self.now) (spot_of c.expect.new.self)
    (spot_of c.expression.new.self) (spot_of c.expect-2.new.self) c.args.fold
    c.in_ok-expression.expression c.in_ok-expect.ensures.reads c.in_ok-expression.ensures.reads
    c.in_ok-expect-2.ensures.reads
