use Rattle.star_query.{specs.Private.Reads.spot_of, proofs.Queries.read_keys}
use Rattle.star_query.proofs.parser.Parser.keys.Goals as goal

pub returns-then-take : goal.returns-then-take
returns-then-take c =
    read_keys (spot_of c.args.self.now) (spot_of c.take.new.self) (spot_of c.expect.new.self)
    (spot_of c.several.new.self) c.several.result c.if-take.ensures.taken
    c.in_ok-expect.ensures.reads c.several.ensures.reads c.several.ensures.ends
