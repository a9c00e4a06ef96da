use Rattle.std.proofs.{Common.arith, lemmas.Option.get_or_from_slice_get}
use Rattle.star_catalogue.proofs.catalogue.Catalogue.referred.Goals as goal

pub row-requires : goal.row-requires
row-requires c = omega (arith, c.referred_rows.ensures.all)

pub returns : goal.returns
returns c = λ t number refers at.
    let here = get_or_from_slice_get c.referred_rows.result.now c.args.row c.row.result 0
    c.row.ensures in
    rw here at (c.referred_rows.ensures.each t c.args.row number refers at)
