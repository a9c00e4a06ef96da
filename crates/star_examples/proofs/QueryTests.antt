-- The comparisons of worked queries, as a reader says them.
use Rattle.star_query.specs.{declared.token.Relation.Relation, Tree.{Condition, Name, Test, comparison, test}}
use Rattle.star_schema.specs.Tables.{Value}
use Rattle.star_query.specs.Tree as tree

abbrev pub pair : Name → Name → Condition Test
pair m n = test (tree.pair m n)

abbrev pub compare : Name → Relation → Value → Condition Test
compare n sign literal = test (comparison (tree.compare n sign literal))

abbrev pub between : Name → (from upto : Value) → Condition Test
between n from upto = test (comparison (tree.between n from upto))
