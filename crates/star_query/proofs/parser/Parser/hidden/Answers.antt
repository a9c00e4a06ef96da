use Rattle.star_query.{specs.Private.Reads.spot_of, specs.Private.Clauses.ReadsHidden, proofs.Queries.{read_hidden, bad_hidden_columns, bad_hidden_close}, proofs.Descent.failed}
use Rattle.star_query.proofs.parser.Parser.hidden.Goals as goal

pub returns : goal.returns
returns c =
    read_hidden c.args.shape (spot_of c.args.self.now) (spot_of c.expect.new.self)
    (spot_of c.several.new.self) (spot_of c.expect-2.new.self) c.in_ok-columns.columns
    c.in_ok-expect.ensures.reads c.in_ok-columns.ensures.reads c.in_ok-expect-2.ensures.reads

pub returns-in_err-columns : goal.returns-in_err-columns
returns-in_err-columns c =
    failed (ReadsHidden c.args.shape (spot_of c.args.self.now) (spot_of c.several.new.self)) _ _
    c.from_residual-in_err-columns.ensures.1 (bad_hidden_columns c.args.shape
    (spot_of c.args.self.now) (spot_of c.expect.new.self) (spot_of c.several.new.self) _
    c.in_ok-expect.ensures.reads c.in_err-columns.ensures.reads)

pub returns-in_err-expect-2 : goal.returns-in_err-expect-2
returns-in_err-expect-2 c =
    failed (ReadsHidden c.args.shape (spot_of c.args.self.now) (spot_of c.expect-2.new.self)) _ _
    c.from_residual-in_err-expect-2.ensures.1 (bad_hidden_close c.args.shape
    (spot_of c.args.self.now) (spot_of c.expect.new.self) (spot_of c.several.new.self)
    (spot_of c.expect-2.new.self) c.in_ok-columns.columns _ c.in_ok-expect.ensures.reads
    c.in_ok-columns.ensures.reads c.in_ok-columns.ensures.ends c.in_err-expect-2.ensures.reads)
