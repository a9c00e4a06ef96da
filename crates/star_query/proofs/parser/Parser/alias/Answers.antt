use Rattle.star_query.{specs.Private.Reads.spot_of, specs.Private.Clauses.ReadsAlias, proofs.Queries.{read_alias, read_no_alias, bad_alias}, proofs.Descent.failed}
use Rattle.star_query.proofs.parser.Parser.alias.Goals as goal

pub returns-then-take-clause-reads : goal.returns-then-take-clause-reads
returns-then-take-clause-reads c =
    read_alias (spot_of c.args.self.now) (spot_of c.take.new.self) (spot_of c.name.new.self)
    c.in_ok-name.name c.if-take.ensures.taken c.in_ok-name.ensures.reads

pub returns-in_err-name-clause-reads : goal.returns-in_err-name-clause-reads
returns-in_err-name-clause-reads c =
    failed (ReadsAlias (spot_of c.args.self.now) (spot_of c.name.new.self)) _ _
    c.from_residual.ensures.1 (bad_alias (spot_of c.args.self.now) (spot_of c.take.new.self)
    (spot_of c.name.new.self) _ c.if-take.ensures.taken c.in_err-name.ensures.reads)

pub returns-clause-reads : goal.returns-clause-reads
returns-clause-reads c =
    read_no_alias (spot_of c.args.self.now) (spot_of c.take.new.self) c.if-take.ensures.other.0
    c.if-take.ensures.other.1
