-- The columns that the planner found, as the definitions see them.
use Rattle.std.specs.Prelude.{List, map}
use Rattle.star_plan.specs.declared.joins.Pair as of_joins
use Rattle.star_plan.specs.declared.uses.Use as of_uses
use Rattle.star_plan.specs.{Joins.Pair, Uses.Use}

abbrev pub pair_view : of_joins.Pair → Pair
pair_view p = record { join = p.join; at = p.at }

abbrev pub use_view : of_uses.Use → Use
use_view u = record { column = u.column; fits = u.fits; at = u.at }

abbrev pub pairs_view : List of_joins.Pair → List Pair
pairs_view pairs = map pair_view pairs

abbrev pub uses_view : List of_uses.Use → List Use
uses_view uses = map use_view uses
