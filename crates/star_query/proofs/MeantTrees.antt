-- What some text means is within the limits, and spelled as the grammar wants.
use Rattle.std.proofs.{Math.Logic.∥∥₁_elim, Props.props}
use Rattle.star_query.{specs.Limits.IsQueryWithinLimits, specs.Meant.IsMeant, specs.Spelled.IsSpelledQuery, specs.Tree.Tree, proofs.Spelled.meant_spelled, proofs.Within.derived_within}

limits_prop : (t : Tree) → IsProp (IsQueryWithinLimits t)
limits_prop t = hlevel props

spelled_prop : (t : Tree) → IsProp (IsSpelledQuery t)
spelled_prop t = hlevel props

pub meant_within : (t : Tree) → ∥ IsMeant t ∥₁ → IsQueryWithinLimits t
meant_within t some = ∥∥₁_elim some (limits_prop t) (λ m. derived_within _ t m.1.derives)

pub meant_spelled_so : (t : Tree) → ∥ IsMeant t ∥₁ → IsSpelledQuery t
meant_spelled_so t some = ∥∥₁_elim some (spelled_prop t) (λ m. meant_spelled m.0 t m.1)
