use Rattle.std.proofs.Common.{◌≡◌, [], ap, ◌∙◌, FitsSigned, w64, to_z-of_z, rules}
use Rattle.star_schema.specs.Bounds.{least, greatest}
use Rattle.star_column.proofs.{Extremes.greatest_word, Extremes.least_word, number.bounds_of.Goals.in_default-via-in-Some+in_default, number.bounds_of.Goals.in_default-via-in_default}
use Rattle.star_column.proofs.number.bounds_of.Goals as goal

pub returns-in_default : goal.returns-in_default
unfolding least greatest
returns-in_default g c =
    let none : c.args.numbers.now ≡ [] = elim c.in_default.branch [
      | in_default-via-in-Some+in_default w ↦ w.in_default.ensures'.reached
      | in_default-via-in_default w ↦ rw w.in_default.is-0 at c.least_of.ensures.reached
    ] in
    rw none (record {
      low = ap (λ r. r.low) c.point.ensures;
      high = ap (λ r. r.high) c.point.ensures;
    })

pub returns : goal.returns
returns g c =
    let fits_low : FitsSigned w64 c.value.result = search rules in
    let fits_high : FitsSigned w64 c.value-2.result = search rules in
    record {
      low = rw to_z-of_z
          (c.value.ensures.value
          ∙ least_word g.S.Ord.cmp g.S.SignedWord.number c.order_law.ensures
          c.args.numbers.now c.in-Some-Some.low c.in-Some-Some.ensures.reached
          c.in-Some-Some.ensures.bound);
      high = rw to_z-of_z
          (c.value-2.ensures.value
          ∙ greatest_word g.S.Ord.cmp g.S.SignedWord.number c.order_law.ensures
          c.args.numbers.now c.in-Some-Some.high c.in-Some-Some.ensures'.reached
          c.in-Some-Some.ensures'.bound);
    }
