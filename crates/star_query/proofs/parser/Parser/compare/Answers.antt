use Rattle.star_query.{specs.Private.Reads.spot_of, proofs.Filtering.{read_compare_between, read_compare_related}}
use Rattle.star_query.proofs.parser.Parser.compare.Goals as goal

pub returns-then-take-clause-reads : goal.returns-then-take-clause-reads
returns-then-take-clause-reads c =
    read_compare_between (spot_of c.args.self.now) (spot_of c.take.new.self)
    (spot_of c.between.new.self) c.args.column c.between.result c.if-take.ensures.taken
    c.between.ensures.reads

pub returns-clause-reads : goal.returns-clause-reads
returns-clause-reads c =
    read_compare_related (spot_of c.args.self.now) (spot_of c.take.new.self)
    (spot_of c.take_any.new.self) (spot_of c.related.new.self) c.args.column c.in-Some.relation
    c.related.result c.if-take.ensures.other.1 c.in-Some.ensures.taken c.related.ensures.reads
