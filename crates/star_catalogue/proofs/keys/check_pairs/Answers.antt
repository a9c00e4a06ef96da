use Rattle.std.{proofs.Common.arith, proofs.lemmas.Slice.Zip.length-zip, specs.List.zip}
use Rattle.star_reader.proofs.PassedOn.{passed_on}
use Rattle.star_catalogue.proofs.Apart.{pairs_apart}
use Rattle.star_catalogue.proofs.keys.check_pairs.Goals as goal

pub indexes_of-requires : goal.indexes_of-requires
indexes_of-requires c =
    rw (c.as_slice.ensures.value, c.in_ok-pairs.ensures)
    (omega (arith, length-zip c.args.firsts.now c.args.seconds.now))

pub returns-in_err-indexes_of : goal.returns-in_err-indexes_of
returns-in_err-indexes_of c =
    passed_on _ _ _ c.in_err-indexes_of.ensures c.from_residual-in_err-indexes_of.ensures.1
    (λ first. rw (c.as_slice.ensures.value, c.in_ok-pairs.ensures) at first)

pub returns : goal.returns
returns c = pairs_apart (zip c.args.firsts.now c.args.seconds.now)
    (rw (c.as_slice.ensures.value, c.in_ok-pairs.ensures) at c.in_ok-indexes_of.ensures.1)
