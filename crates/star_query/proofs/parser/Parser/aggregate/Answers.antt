use Rattle.star_query.{specs.Private.Reads.spot_of, specs.Private.Clauses.ReadsAggregate, proofs.Queries.{read_aggregate, bad_aggregate}, proofs.Descent.failed}
use Rattle.star_query.proofs.parser.Parser.aggregate.Goals as goal

pub returns-clause-reads : goal.returns-clause-reads
returns-clause-reads c =
    read_aggregate c.args.function (spot_of c.args.self.now) (spot_of c.measure.new.self)
    (spot_of c.alias.new.self) c.in_ok-measure.measure c.in_ok-name.name
    c.in_ok-measure.ensures.reads c.in_ok-name.ensures.reads

pub returns-in_err-name-clause-reads : goal.returns-in_err-name-clause-reads
returns-in_err-name-clause-reads c =
    failed (ReadsAggregate c.args.function (spot_of c.args.self.now) (spot_of c.alias.new.self)) _ _
    c.from_residual-in_err-name.ensures.1 (bad_aggregate c.args.function (spot_of c.args.self.now)
    (spot_of c.measure.new.self) (spot_of c.alias.new.self) c.in_ok-measure.measure _
    c.in_ok-measure.ensures.reads c.in_err-name.ensures.reads)
