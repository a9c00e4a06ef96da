-- A text that means a query fits where its plan does.
use Rattle.std.proofs.Common.{◌↔◌, ℕ, List, subst}
use Rattle.star_schema.specs.Database.{Database, rows_in}
use Rattle.star_query.proofs.Verdicts.{one_meaning}
use Rattle.star_plan.specs.Meaning.{Plan}
use Rattle.star_query_meaning.specs.Fitting.{FitsTables, PlanFitsTables}
use Rattle.star_engine.specs.Queries.{FitsRows, IsPlanOf}

pub text_fits : (most : ℕ) (database : Database) (query : List ℕ) (p : Plan) (is : IsPlanOf query p)
    → FitsTables most (rows_in database) is.tree ↔ PlanFitsTables most (rows_in database) p
    → FitsRows most database query ↔ PlanFitsTables most (rows_in database) p
text_fits most database query p is of_tree = (
  λ fits. of_tree.0 (subst (FitsTables most (rows_in database))
      (one_meaning query fits.tree is.tree fits.means is.means) fits.fits),
  λ fits. record { tree = is.tree; means = is.means; named = is.named; fits = of_tree.1 fits },
)
