use Rattle.std.proofs.{Common.arith, lemmas.List.Elements.All-replicate}
use Rattle.star_flat.specs.Private.Met.{IsMet}
use Rattle.star_flat.proofs.met.nothing_met.Goals as goal

pub returns : goal.returns
returns c = λ kept. All-replicate (IsMet kept) 64 _ (λ few. absurd (omega (arith, few)))
