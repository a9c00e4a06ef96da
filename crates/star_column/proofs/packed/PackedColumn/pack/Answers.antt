use Rattle.std.proofs.{Common.arith, Common.map, lemmas.List.length-map}
use Rattle.star_interval.specs.Interval.{range_of}
use Rattle.star_column.proofs.{Differences.are_packed, Extremes.words_between}
use Rattle.star_column.proofs.packed.PackedColumn.pack.Goals as goal

pub of_numbers-requires : goal.of_numbers-requires
of_numbers-requires g c =
    words_between g.S.SignedWord.number (range_of c.bounds_of-bounds.result) c.args.words.now
    c.bounds_of-bounds.ensures.low
    c.bounds_of-bounds.ensures.high

pub invariant_of-result : goal.invariant_of-result
invariant_of-result g c =
    are_packed c.bounds_of-bounds.result c.in_ok-words.words
    (map g.S.SignedWord.number c.args.words.now)
    (omega (arith, length-map c.args.words.now g.S.SignedWord.number, c.requires))
    c.bounds_of-bounds.ensures c.in_ok-words.ensures.numbers c.in_ok-words.ensures.width
