use Rattle.std.proofs.{Common.{◌≡◌, ◌∷◌, [], arith, of_z, take, to_z, w64}, lemmas.Bool.and_from, lemmas.Int.{ints, to_z-of_z}, lemmas.List.map-append}
use Rattle.star_schema.specs.Tables.{Number}
use Rattle.star_reader.proofs.Numerals.{number_plain}
use Rattle.star_reader.proofs.column.RawColumn.push_front.Goals as goal

pub returns-in_ok-push-in-Some-clause-pushed : goal.returns-in_ok-push-in-Some-clause-pushed
returns-in_ok-push-in-Some-clause-pushed c =
    let (front, number, is) = c.in-Some.ensures in
    let (short, printable) =
    number_plain (take c.in-Some.number.count c.args.text.now) number in
    let same : to_z w64 (of_z w64 c.in-Some.number.value) ≡ c.in-Some.number.value =
    grind (arith, ints, to_z-of_z) in
    rw c.in-Numbers.is (
      front,
      and_from _ _ (and_from _ _ short printable) number,
      rw (c.in_ok-push-in-Some.ensures.ok, same, is)
          (map-append Number c.in-Numbers.numbers (_ ∷ [])),
    )
