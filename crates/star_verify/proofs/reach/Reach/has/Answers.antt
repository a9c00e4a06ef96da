use Rattle.std.proofs.Common.{ap}
use Rattle.star_verify.proofs.Common.{index_of, nat_eq, shr_and_one}
use Rattle.star_verify.proofs.reach.Reach.has.Goals as goal

pub returns : goal.returns
returns c = ap (λ b. nat_eq b 1) (shr_and_one c.args.self.columns (index_of c.args.column))
