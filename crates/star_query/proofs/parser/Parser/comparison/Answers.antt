use Rattle.star_query.{specs.Private.Reads.{spot_of, ReadsNamed}, specs.Private.Machine.unit_wanted, proofs.Filtering.{read_comparison, bad_comparison}, proofs.Descent.failed}
use Rattle.star_query.proofs.parser.Parser.comparison.Goals as goal

pub returns-clause-reads : goal.returns-clause-reads
returns-clause-reads c =
    read_comparison (spot_of c.args.self.now) (spot_of c.counted_name.new.self)
    (spot_of c.compare.new.self) c.in_ok-column.column c.compare.result
    c.in_ok-column.ensures.reads c.compare.ensures.reads

pub returns-in_err-column-clause-reads : goal.returns-in_err-column-clause-reads
returns-in_err-column-clause-reads c =
    failed (ReadsNamed unit_wanted (spot_of c.args.self.now) (spot_of c.counted_name.new.self)) _ _
    c.from_residual.ensures.1 (bad_comparison (spot_of c.args.self.now)
    (spot_of c.counted_name.new.self) _ c.requires.no_not c.requires.no_open
    c.in_err-column.ensures.reads)
