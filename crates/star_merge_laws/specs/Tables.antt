-- Tables with other rows of lineorder.
use Rattle.std.specs.{Prelude.List, List.flat_map}
use Rattle.star_schema.specs.Database.{Database, rows_in}
use Rattle.star_plan.specs.Meaning.{Row, Tables}
use Rattle.star_merge_laws.specs.Parts.{with_lineorder}

-- the tables of a database, with these rows of lineorder
abbrev pub tables_with : Database → List Row → Tables
tables_with database rows = rows_in (with_lineorder database rows)

-- the rows of some parts, one part after another
abbrev pub all_of : List (List Row) → List Row
all_of parts = flat_map (λ part. part) parts
