-- Of programs: numbers and reports in texts, the sizes of bodies, cells of reports, equal keys.
use Rattle.std.{proofs.Common.{◌≡◌, ◌⊎◌, ℕ, Bool, List, [], ◌∷◌, Some, None, true, false, negsuc, pos, refl}, specs.Prelude.codes}
use Rattle.star_common.proofs.Tables.{Gives, Gives2}
use Rattle.star_schema.specs.{Groups.GroupRow, Tables.Value, declared.column.ColumnId.TheVariants.CRegion, declared.table.TableId.TheVariants.Date}
use Rattle.star_schema.specs.Tables as value
use Rattle.star_schema.specs.declared.group.GroupColumn.TheVariants as column
use Rattle.star_program.specs.declared.outcome.Cell.TheVariants as cell
use Rattle.star_program.specs.{Code.{Code, Each, Stop, Then, code_size, scan_depth}, Keys.same_keys, Reads.IsTaken, RowCells.cell_of, declared.op.Op.TheVariants.Keep, declared.value.Kind.Kind, Values.{flag_read, key_read, number_read, register_kind, row_read}, Text.FirstFaults.{FirstTextFault, IsFirstTextFault, begins_report}, Text.Numerals.constant_of, declared.spelling.fault.TextFault.TextFault, declared.spelling.fault.TextFault.TheVariants.OutOfMemory, declared.key.KeyValue.TheVariants.{Code as code, Number as number}}
use Rattle.star_program.specs.declared.value.Kind.TheVariants as kind
use Rattle.star_program.specs.declared.value.Value.TheVariants as in_register

-- 19 digits after a minus, and no more
small_texts : Gives constant_of (
    (codes "-0000000000000000001", Some (negsuc 0)) ∷ (codes "-00000000000000000001", None) ∷ [])
    × Gives begins_report (([], false) ∷ (codes "report" ∷ codes "0" ∷ [], true)
    ∷ (codes "show" ∷ codes "report" ∷ [], false) ∷ [])
    × ((text : List ℕ) (fault : TextFault) → IsFirstTextFault text fault
    ≡ ((fault ≡ OutOfMemory) ⊎ FirstTextFault text fault))
unfolding constant_of
small_texts = (refl, refl, λ text fault. refl)

-- a row with a key that ALL hides, and a total over nothing
abbrev a_row : GroupRow Value
a_row = record { keys = Some (value.Number (pos 7)) ∷ None ∷ []; totals = Some (pos 9) ∷ None ∷ [] }

cells : Gives (cell_of a_row) (
    (column.Key 0, cell.Number (pos 7)) ∷ (column.Key 1, cell.All)
    ∷ (column.Aggregate 0, cell.Number (pos 9)) ∷ (column.Aggregate 1, cell.Null) ∷ [])
    × ((takes : Kind → Bool) (k : Kind) → IsTaken takes (Some k) ≡ (takes k ≡ true))
cells = (refl, λ takes k. refl)

-- a scan of one instruction, and what follows it; the depth is that of the deepest scan
abbrev scan : Code → Code → Code
scan body rest = Each Date 0 body rest

bodies : Gives code_size ((Stop, 0)
    ∷ (Then (Keep 0) (scan (Then (Keep 0) Stop) (Then (Keep 0) Stop)), 4) ∷ [])
    × Gives scan_depth ((Then (Keep 0) Stop, 0) ∷ (scan Stop Stop, 1)
    ∷ (scan (scan Stop Stop) (scan Stop Stop), 2) ∷ (scan Stop (scan (scan Stop Stop) Stop), 2)
    ∷ []) × Gives2 same_keys ((number (pos 1) ∷ code 2 ∷ [], number (pos 1) ∷ code 2 ∷ [], true)
    ∷ (code 1 ∷ [], code 2 ∷ [], false) ∷ (number (pos 1) ∷ [], code 1 ∷ [], false)
    ∷ (code 1 ∷ [], number (pos 1) ∷ [], false) ∷ [])
bodies = (refl, refl, refl)

-- the kind of a value, and what is read of a register of another kind
reads : Gives register_kind (
    (in_register.Number (pos 7), kind.Number) ∷ (in_register.Text CRegion 4, kind.Text CRegion)
    ∷ (in_register.Place CRegion 4, kind.Place CRegion) ∷ (in_register.Row Date 2, kind.Row Date)
    ∷ (in_register.Flag true, kind.Flag) ∷ [])
    × Gives key_read ((Some (in_register.Number (pos 7)), number (pos 7))
    ∷ (Some (in_register.Text CRegion 4), code 4) ∷ (None, code 0) ∷ [])
    × Gives number_read ((None, pos 0) ∷ []) × Gives flag_read ((None, false) ∷ [])
    × Gives row_read ((None, 0) ∷ [])
reads = (refl, refl, refl, refl, refl)
