use Rattle.std.proofs.Common.{◌≡◌, ◌+◌, [], drop, get_or}
use Rattle.star_schema.specs.{declared.table.TableId.TheVariants.Lineorder, Database.rows_in, Loadable.foreign_keys}
use Rattle.star_common.specs.First.{first_answer}
use Rattle.star_catalogue.specs.Load.{foreign_key_fault, row_fault}
use Rattle.star_catalogue.proofs.references.check_row.Given as goal

abbrev pub invariant-loop-column : goal.invariant-loop-column
invariant-loop-column l =
    row_fault l.tables (l.row + 1) (get_or (rows_in l.tables Lineorder) l.row [])
    ≡ first_answer (foreign_key_fault l.tables (l.row + 1)
    (get_or (rows_in l.tables Lineorder) l.row []))
    (drop l.column-index foreign_keys)
