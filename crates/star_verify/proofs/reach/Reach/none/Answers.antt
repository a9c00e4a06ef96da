use Rattle.std.proofs.Common.{ap}
use Rattle.star_verify.proofs.Common.{bit_at-zero, index_of, nat_eq}
use Rattle.star_verify.proofs.reach.Reach.none.Goals as goal

pub returns : goal.returns
returns c = λ i column. ap (λ b. nat_eq b 1) (bit_at-zero (index_of column)) i
