use Rattle.std.proofs.Common.{ap, ◌∙◌}
use Rattle.star_verify.proofs.{Common.bit_at, Common.index_of, Common.index_within, Common.nat_eq, Bits.bit_alone, Bits.bit_is}
use Rattle.star_verify.proofs.reach.Reach.only.Goals as goal

pub returns : goal.returns
returns c = λ i column.
    (ap (λ n. nat_eq (bit_at n (index_of column)) 1)
    (bit_alone (index_of c.args.column) (index_within c.args.column))
    ∙ bit_is (index_of c.args.column) (index_of column)) i
