use Rattle.std.proofs.Common.{get_or, ap, sym}
use Rattle.star_schema.specs.Schema.{index_of}
use Rattle.star_verify.proofs.facts.Facts.bounds.Goals as goal

pub returns : goal.returns
returns c = sym (ap (λ d. get_or c.args.self.now.bounds (index_of c.args.column) d)
    (sym c.index-self-column.is))
