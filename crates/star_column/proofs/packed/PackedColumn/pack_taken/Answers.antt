use Rattle.std.proofs.{Common.arith, Common.map, lemmas.List.length-map}
use Rattle.star_interval.specs.Interval.{range_of}
use Rattle.star_column.proofs.{Differences.are_packed, Extremes.words_between}
use Rattle.star_column.proofs.packed.PackedColumn.pack_taken.Goals as goal

pub of_taken-requires : goal.of_taken-requires
of_taken-requires g c =
    let are = rw c.as_slice.ensures.value at c.bounds_of-bounds.ensures in
    words_between g.S.SignedWord.number (range_of c.bounds_of-bounds.result) c.args.words.items
    are.low are.high

pub invariant_of-result : goal.invariant_of-result
invariant_of-result g c =
    let are = rw c.as_slice.ensures.value at c.bounds_of-bounds.ensures in
    are_packed c.bounds_of-bounds.result c.in_ok-words.words
    (map g.S.SignedWord.number c.args.words.items)
    (omega (arith, length-map c.args.words.items g.S.SignedWord.number, c.requires))
    are c.in_ok-words.ensures.numbers c.in_ok-words.ensures.width
