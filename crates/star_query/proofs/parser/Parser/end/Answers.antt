use Rattle.star_query.{specs.Private.Reads.spot_of, proofs.Queries.{bad_end, more_remains}}
use Rattle.star_query.proofs.parser.Parser.end.Goals as goal

pub returns-then-not-is_empty : goal.returns-then-not-is_empty
returns-then-not-is_empty c =
    bad_end (spot_of c.args.self.now) (spot_of c.take-semicolon.new.self)
    c.take-semicolon.result c.take-semicolon.ensures.taken
    c.take-semicolon.ensures.other
    (more_remains c.take-semicolon.new.self c.is_empty.result c.is_empty.ensures
    c.if-not-is_empty.true)
