-- Which plans there are.
use Rattle.star_query.specs.{Tree.Tree, Meant.IsMeant}
use Rattle.star_plan.specs.{Meaning.Plan, Resolved.IsResolved, WellNamed.IsWellNamed}

-- it is some well named query with its names resolved, and some text means that query: so its names
-- are spelled as the grammar spells them
pub record IsPlanned (p : Plan) : Type 0 where
  pub tree : Tree
  pub meant : ∥ IsMeant tree ∥₁
  pub named : IsWellNamed tree
  pub resolved : IsResolved tree p
