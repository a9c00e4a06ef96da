use Rattle.star_schema.specs.Schema.{index_of}
use Rattle.star_verify.proofs.Bits.{either_set}
use Rattle.star_verify.proofs.reach.Reach.joined.Goals as goal

pub returns : goal.returns
returns c = λ i column. either_set c.args.self.columns c.args.other.columns (index_of column) i
