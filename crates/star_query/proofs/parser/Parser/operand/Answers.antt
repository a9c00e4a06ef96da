use Rattle.star_query.{specs.Private.Reads.{spot_of, ReadsOperand}, proofs.Descent.{read_column, read_constant, read_negative, bad_column, bad_negative, bad_constant, failed}}
use Rattle.star_query.proofs.parser.Parser.operand.Goals as goal

pub returns-then-is_name-clause-reads : goal.returns-then-is_name-clause-reads
returns-then-is_name-clause-reads c =
    read_column (spot_of c.args.self.now) (spot_of c.counted_name.new.self) c.in_ok-name.name
    c.in_ok-name.ensures.reads

pub returns-in_err-name-clause-reads : goal.returns-in_err-name-clause-reads
returns-in_err-name-clause-reads c =
    failed (ReadsOperand (spot_of c.args.self.now) (spot_of c.counted_name.new.self)) _ _
    c.from_residual.ensures.1 (bad_column (spot_of c.args.self.now)
    (spot_of c.counted_name.new.self) _ c.if-is_name.ensures.found c.in_err-name.ensures.reads)

pub returns-then-take-clause-reads : goal.returns-then-take-clause-reads
returns-then-take-clause-reads c =
    read_negative (spot_of c.args.self.now) (spot_of c.take.new.self)
    (spot_of c.counted_number.new.self) c.negative.result _ c.negative.ensures
    c.if-take.ensures.taken c.in_ok-number.ensures.reads

pub returns-in_err-number-clause-reads : goal.returns-in_err-number-clause-reads
returns-in_err-number-clause-reads c =
    failed (ReadsOperand (spot_of c.args.self.now) (spot_of c.counted_number.new.self)) _ _
    c.from_residual-in_err-number.ensures.1 (bad_negative (spot_of c.args.self.now)
    (spot_of c.take.new.self) (spot_of c.counted_number.new.self) _ c.if-take.ensures.taken
    c.in_err-number.ensures.reads)

pub returns-in_err-digits-clause-reads : goal.returns-in_err-digits-clause-reads
returns-in_err-digits-clause-reads c =
    failed (ReadsOperand (spot_of c.args.self.now) (spot_of c.counted_number-2.new.self)) _ _
    c.from_residual-in_err-digits.ensures.1 (bad_constant (spot_of c.args.self.now)
    (spot_of c.take.new.self) (spot_of c.counted_number-2.new.self) _ c.if-take.ensures.other.1
    c.if-is_name.ensures.other c.if-take.ensures.other.0 c.requires c.in_err-digits.ensures.reads)

pub returns-clause-reads : goal.returns-clause-reads
returns-clause-reads c =
    read_constant (spot_of c.args.self.now) (spot_of c.take.new.self)
    (spot_of c.counted_number-2.new.self) c.constant.result _ c.constant.ensures
    c.if-take.ensures.other.1 c.in_ok-digits.ensures.reads
