use Rattle.star_query.{specs.Private.Reads.spot_of, proofs.Filtering.{read_negated, read_whole, read_quoted}}
use Rattle.star_query.proofs.parser.Parser.literal.Goals as goal

pub returns-then-take-clause-reads : goal.returns-then-take-clause-reads
returns-then-take-clause-reads c =
    read_negated (spot_of c.args.self.now) (spot_of c.take.new.self) (spot_of c.number.new.self)
    c.negated.result _ c.negated.ensures c.if-take.ensures.taken c.in_ok-number.ensures.reads

pub returns-then-is_number-clause-reads : goal.returns-then-is_number-clause-reads
returns-then-is_number-clause-reads c =
    read_whole (spot_of c.args.self.now) (spot_of c.take.new.self)
    (spot_of c.number-then-is_number.new.self) c.whole.result _ c.whole.ensures
    c.if-take.ensures.other.1 c.in_ok-digits.ensures.reads

pub returns-clause-reads : goal.returns-clause-reads
returns-clause-reads c =
    read_quoted (spot_of c.args.self.now) (spot_of c.take.new.self) (spot_of c.text.new.self)
    c.in_ok-text.text c.if-take.ensures.other.1 c.in_ok-text.ensures.reads
