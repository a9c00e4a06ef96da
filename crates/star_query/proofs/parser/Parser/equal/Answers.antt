use Rattle.star_query.{specs.Private.Reads.spot_of, proofs.Filtering.{read_pair, read_equal}}
use Rattle.star_query.proofs.parser.Parser.equal.Goals as goal

pub returns-then-is_name-clause-reads : goal.returns-then-is_name-clause-reads
returns-then-is_name-clause-reads c =
    read_pair (spot_of c.args.self.now) (spot_of c.name.new.self) c.args.column c.in_ok-other.other
    c.in_ok-other.ensures.reads

pub returns-clause-reads : goal.returns-clause-reads
returns-clause-reads c =
    read_equal (spot_of c.args.self.now) (spot_of c.compared.new.self) c.args.column
    c.compared.result c.if-is_name.ensures.other c.compared.ensures.reads
