use Rattle.star_flat.proofs.RepeatedLemmas.{indexes_coded, texts_of_coded}
use Rattle.star_column.proofs.coding.code_each.Goals as goal

pub returns-clause-texts : goal.returns-clause-texts
returns-clause-texts c =
    rw (
      c.of_ordered-dictionary.ensures,
      c.in_ok-each.ensures.numbers,
      c.as_slice.ensures.value,
      ← c.parts.ensures.texts,
    )
    (texts_of_coded _ _ _ _ c.parts.ensures.repeated c.in_ok-different.ensures.repeated
    c.in_ok-different.ensures.texts)

pub returns-clause-repeated : goal.returns-clause-repeated
returns-clause-repeated c =
    rw (c.of_ordered-dictionary.ensures, c.in_ok-each.ensures.numbers, c.as_slice.ensures.value)
    (indexes_coded _ _ _ _ c.parts.ensures.repeated c.in_ok-different.ensures.repeated
    c.in_ok-different.ensures.texts)

pub returns-clause-sorted : goal.returns-clause-sorted
returns-clause-sorted c =
    rw c.of_ordered-dictionary.ensures c.in_ok-different.ensures.sorted
