use Rattle.std.proofs.Common.{FitsSigned, w64, to_z-of_z, rules}
use Rattle.star_schema.specs.Dictionary.{codes_of}
use Rattle.star_column.proofs.{Coded.least-codes_of, Coded.greatest-codes_of, Extremes.all_between}
use Rattle.star_column.proofs.text.TextColumnColumnData.bounds.Goals as goal

pub returns-clause-low : goal.returns-clause-low
returns-clause-low c = least-codes_of c.args.self.now

pub returns-clause-high : goal.returns-clause-high
returns-clause-high c =
    let fits : FitsSigned w64 c.from.result = search rules in
    rw (to_z-of_z, c.from.ensures, c.saturating_sub.ensures, c.entries.ensures)
    (greatest-codes_of c.args.self.now)

pub returns-clause-held : goal.returns-clause-held
returns-clause-held c =
    all_between _ (codes_of c.args.self.now) (returns-clause-low c) (returns-clause-high c)
