use Rattle.std.proofs.{Common.{◌≡◌, ◌∷◌, [], arith, of_z, to_z, w64}, lemmas.Int.{ints, to_z-of_z}, lemmas.List.map-append}
use Rattle.star_schema.specs.Tables.{Number}
use Rattle.star_reader.proofs.Numerals.{number_cell}
use Rattle.star_reader.proofs.column.RawColumn.push_cell.Goals as goal

pub returns-in_ok-push-in-Some-clause-pushed : goal.returns-in_ok-push-in-Some-clause-pushed
returns-in_ok-push-in-Some-clause-pushed c =
    let (plain, is) =
    number_cell c.args.at_row c.args.field c.args.cell.now c.in-Some.number c.in-Some.ensures in
    let same : to_z w64 (of_z w64 c.in-Some.number) ≡ c.in-Some.number =
    grind (arith, ints, to_z-of_z) in
    rw c.in-Numbers.is (
      plain,
      rw (c.in_ok-push-in-Some.ensures.ok, same, is)
          (map-append Number c.in-Numbers.numbers (_ ∷ [])),
    )
