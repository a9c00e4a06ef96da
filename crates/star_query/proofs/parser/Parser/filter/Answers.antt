use Rattle.star_query.{specs.Private.Reads.spot_of, specs.Private.Clauses.ReadsFilter, proofs.Queries.{read_filter, read_no_filter, bad_filter}, proofs.Descent.failed}
use Rattle.star_query.proofs.parser.Parser.filter.Goals as goal

pub returns-then-take : goal.returns-then-take
returns-then-take c =
    read_filter (spot_of c.args.self.now) (spot_of c.take.new.self) (spot_of c.condition.new.self)
    c.in_ok-condition.condition c.if-take.ensures.taken c.in_ok-condition.ensures.reads
    c.in_ok-condition.ensures.ends

pub returns-in_err-condition : goal.returns-in_err-condition
returns-in_err-condition c =
    failed (ReadsFilter (spot_of c.args.self.now) (spot_of c.condition.new.self)) _ _
    c.from_residual.ensures.1 (bad_filter (spot_of c.args.self.now) (spot_of c.take.new.self)
    (spot_of c.condition.new.self) _ c.if-take.ensures.taken c.in_err-condition.ensures.reads)

pub returns : goal.returns
returns c =
    read_no_filter (spot_of c.args.self.now) (spot_of c.take.new.self) c.requires
    c.if-take.ensures.other.0 c.if-take.ensures.other.1
