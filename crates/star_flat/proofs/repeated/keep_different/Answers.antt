use Rattle.std.proofs.Common.{arith}
use Rattle.star_flat.proofs.RepeatedLemmas.{indexes_coded, indexes_read, texts_of_coded}
use Rattle.star_flat.proofs.repeated.keep_different.Goals as goal

pub renumbered-requires : goal.renumbered-requires
renumbered-requires c = grind (arith, indexes_read)

pub returns-clause-texts : goal.returns-clause-texts
returns-clause-texts c =
    rw (
      c.replace.ensures.after,
      c.replace-2.ensures.after,
      c.in_ok-indexes.ensures,
      c.as_slice.ensures.value,
    )
    (texts_of_coded _ _ _ _ c.requires.repeated c.in_ok-different.ensures.repeated
    c.in_ok-different.ensures.texts)

pub returns-clause-repeated : goal.returns-clause-repeated
returns-clause-repeated c =
    rw (
      c.replace.ensures.after,
      c.replace-2.ensures.after,
      c.in_ok-indexes.ensures,
      c.as_slice.ensures.value,
    )
    (indexes_coded _ _ _ _ c.requires.repeated c.in_ok-different.ensures.repeated
    c.in_ok-different.ensures.texts)
