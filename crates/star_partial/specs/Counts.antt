-- The counts of a run.
use Rattle.std.specs.Prelude.{◌++◌, ℕ, List, codes, decimal}

-- the numbers of visits, of look-ups and of updates
unfoldable pub counts_line : (visits lookups updates : ℕ) → List ℕ
counts_line visits lookups updates =
    codes "visits "
    ++ (decimal visits
    ++ (codes " lookups " ++ (decimal lookups ++ (codes " updates " ++ (decimal updates ++ codes "\n")))))
