use Rattle.star_query.{specs.Private.Reads.spot_of, proofs.Queries.{read_descending, read_ascending, read_unmarked}}
use Rattle.star_query.proofs.parser.Parser.key.Goals as goal

pub returns-then-take-clause-reads : goal.returns-then-take-clause-reads
returns-then-take-clause-reads c =
    read_descending (spot_of c.args.self.now) (spot_of c.counted_name.new.self)
    (spot_of c.take.new.self) c.in_ok-name.name c.in_ok-name.ensures.reads
    c.if-take.ensures.taken

pub returns-then-take-2-clause-reads : goal.returns-then-take-2-clause-reads
returns-then-take-2-clause-reads c =
    read_ascending (spot_of c.args.self.now) (spot_of c.counted_name.new.self)
    (spot_of c.take.new.self) (spot_of c.take-2.new.self) c.in_ok-name.name
    c.in_ok-name.ensures.reads c.if-take.ensures.other.1 c.if-take-2.ensures.taken

pub returns-clause-reads : goal.returns-clause-reads
returns-clause-reads c =
    read_unmarked (spot_of c.args.self.now) (spot_of c.counted_name.new.self)
    (spot_of c.take.new.self) (spot_of c.take-2.new.self) c.in_ok-name.name
    c.in_ok-name.ensures.reads c.if-take.ensures.other.0 c.if-take.ensures.other.1
    c.if-take-2.ensures.other.0 c.if-take-2.ensures.other.1
