use Rattle.std.proofs.{Common.FitsSigned, Common.w64, Common.rules, Common.◌∙◌, lemmas.Int.to_z-of_z}
use Rattle.star_verify.proofs.Reaching.{one_reached}
use Rattle.star_verify.proofs.facts.Facts.with_bounds.Goals as goal

pub returns : goal.returns
returns c = λ w facts.
    let bounds = c.bounds-bounds.result in
    let fits_low : FitsSigned w64 bounds.low = search rules in
    let fits_high : FitsSigned w64 bounds.high = search rules in
    (λ i. record {
      column = c.args.column;
      low = to_z-of_z w64 bounds.low fits_low i;
      high = to_z-of_z w64 bounds.high fits_high i;
    })
    ∙ one_reached w c.args.self.now facts c.args.column bounds c.bounds-bounds.ensures
