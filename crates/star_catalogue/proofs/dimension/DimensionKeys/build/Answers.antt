use Rattle.std.{proofs.Common.{ℤ, List, position, subst, sym}, specs.Ordering.int_eq}
use Rattle.star_catalogue.{specs.Private.Indexes.AreIndexes, proofs.Apart.numbers_apart, proofs.Positions.positions_are_indexes}
use Rattle.star_catalogue.proofs.dimension.DimensionKeys.build.Goals as goal

pub returns-in_ok-far-in-None : goal.returns-in_ok-far-in-None
returns-in_ok-far-in-None c =
    let keys = c.args.keys.now in
    let far = c.in_ok-far-in-None.ensures in (
      subst (λ (ks : List ℤ). AreIndexes int_eq (λ key. position (int_eq key) ks) keys) (sym far.0)
          (positions_are_indexes keys (numbers_apart keys far.1)),
      far.1,
    )
