-- How many rows the run of a query's program looks up by their keys.
use Rattle.std.specs.{Prelude.{◌≡◌, ℕ, ◌+◌, Bool, true, List, ◌∷◌, length, map}, List.sum_by}
use Rattle.star_schema.specs.declared.table.TableId.TheVariants.{Lineorder}
use Rattle.star_query.specs.Tree.{Tree}
use Rattle.star_plan.specs.Meaning.{Joined, Plan, Tables, holds, joined_rows}
use Rattle.star_program.specs.{declared.op.Op.TheVariants.Assign, declared.op.Op.TheVariants.Keep, declared.op.Operation.TheVariants.Find, Code.Code, Code.Then, Effects.State, Run.Ended, Run.run_while, World.World}
use Rattle.star_query_meaning.specs.Rows.{selected}
use Rattle.star_compile_laws.specs.Compiled.{compiled, turn_code}

-- the finds of a turn before the keep that ends it, if its keeps keep by these flags, in their
-- order
abbrev pub lookups_in : Code → List Bool → ℕ
lookups_in (Then (Assign t (Find table key)) rest) flags = lookups_in rest flags + 1
lookups_in (Then (Keep flag) rest) (true ∷ flags) = lookups_in rest flags
lookups_in (Then (Keep flag) rest) flags = 0
lookups_in (Then op rest) flags = lookups_in rest flags
lookups_in _ flags = 0

-- in the turn of a row: a conjunct that doesn't hold of it ends the turn
abbrev pub turn_lookups : Plan → Joined → ℕ
turn_lookups p row = lookups_in (turn_code p) (map (λ c. holds c row) p.conjuncts)

-- in the turns of all rows of lineorder, each with the rows that it joins
abbrev pub lookups_of : Tables → Plan → ℕ
lookups_of ts p = sum_by (turn_lookups p) (joined_rows ts p.joins)

-- a run that comes to its end has visited each row of lineorder once, and made an update of each
-- row that the query selects
pub record HasCounted (ts : Tables) (query : Tree) (p : Plan) (s : State) : Type 0 where
  pub visits : s.visits ≡ length (ts Lineorder)
  pub lookups : s.lookups ≡ lookups_of ts p
  pub updates : s.updates ≡ length (selected ts query)

-- with a bound on its visits or without
abbrev pub CountsTheRows : Tables → World → Tree → Plan → Type 0
CountsTheRows ts w query p =
    (may : ℕ → Bool) (s : State) → run_while w may (compiled p) ≡ Ended s
    → HasCounted ts query p s
