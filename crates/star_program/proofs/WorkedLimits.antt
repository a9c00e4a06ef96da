-- The limits of programs; how keys compare; what cells and codes say; and worlds that are loaded.
use Rattle.std.{proofs.Common.{◌≡◌, ◌↔◌, ◌<◌, ◌≤◌, ℕ, List, [], ◌∷◌, Some, None, true, false, length, pos, negsuc, refl}, specs.Prelude.{All, codes}, specs.Borrow.Bor, specs.declared.cmp.Ordering.TheVariants.{Less, Equal, Greater}}
use Rattle.star_common.proofs.Tables.{Gives, Gives2}
use Rattle.star_schema.specs.{declared.column.ColumnId.ColumnId, declared.column.ColumnId.TheVariants.CRegion, declared.group.Aggregate.TheVariants.{Count, Max, Sum}, declared.table.TableId.TableId, declared.table.TableId.TheVariants.{Customer, Date}, Schema.{references, table_of}, Tables.{Number, Text}}
use Rattle.star_interval.specs.Range.{Holds, is_i64, is_i128}
use Rattle.star_program.{specs.World.{IsLoaded, IsRowNumberOf, World, edge_of, is_text}, specs.declared.group.GroupDecl.GroupDecl, specs.declared.op.Edge.Edge, specs.declared.program.Parts.Parts, specs.CellViews.cell_viewed, specs.Code.{code_size, scan_depth}, specs.Faults.is_row_of, specs.Keys.key_value_cmp, specs.Limits.{IsSmall, IsWithinLimits}, specs.Outcome.{decoded, decoded_keys}, specs.Puts.leaves, proofs.Sample.sample}
use Rattle.star_program.specs.declared.group.GroupKey.TheVariants as declared
use Rattle.star_program.specs.declared.key.KeyValue.TheVariants as key
use Rattle.star_program.specs.declared.outcome.Cell.TheVariants as cell
use Rattle.star_program.specs.declared.outcome.CellView.TheVariants as lent
use Rattle.star_program.specs.declared.value.Kind.TheVariants as kind

-- ---- limits, and worlds that are loaded: a column's bounds hold its numbers, and each code is
-- less than how many texts there are

small : (group : GroupDecl)
    → IsSmall group ↔ ((length group.keys ≤ 6) × (length group.aggregates ≤ 8))
small group = (λ s. (s.keys, s.aggregates), λ h. record { keys = h.0; aggregates = h.1 })

within : (p : Parts) → IsWithinLimits p ↔ ((p.registers ≤ 4096) × (length p.groups ≤ 8)
    × All IsSmall p.groups × (code_size p.body ≤ 4096) × (scan_depth p.body ≤ 3)
    × (length p.shows ≤ 16) × (length p.sorts ≤ 16))
within p = (
  λ w. (w.registers, w.groups, w.each_group, w.instructions, w.scans, w.shows, w.sorts),
  λ h. record {
    registers = h.0;
    groups = h.1;
    each_group = h.2;
    instructions = h.3;
    scans = h.4;
    shows = h.5;
    sorts = h.6;
  },
)

loaded : (w : World) → IsLoaded w ↔ (((c : ColumnId) (row : ℕ) → row < w.size (table_of c)
    → Holds (w.bounds c) (w.number c row))
    × ((c : ColumnId) (row : ℕ) → is_text c ≡ true → row < w.size (table_of c)
    → w.code c row < w.entries c)
    × ((e : Edge) (c : ColumnId) (text : List ℕ) → edge_of w e c text ≤ w.entries c)
    × ((c : ColumnId) (t : TableId) (row : ℕ) → references c ≡ Some t → row < w.size (table_of c)
    → IsRowNumberOf w t (w.find t (w.number c row))))
loaded w = (
  λ l. (l.held, l.coded, l.counted, l.found),
  λ h. record { held = h.0; coded = h.1; counted = h.2; found = h.3 },
)

found : (n : ℕ) → (IsRowNumberOf sample Customer (Some n) ≡ (n < sample.size Customer))
    × (IsRowNumberOf sample Customer None ≡ ⊥)
found n = (refl, refl)

-- ---- how keys compare, and what leaves its bits: a SUM 128, a COUNT 64

keys : Gives2 key_value_cmp ((key.Number (pos 9), key.Number (pos 10), Less)
    ∷ (key.Number (pos 1), key.Number (negsuc 4), Greater) ∷ (key.Code 9, key.Code 10, Less)
    ∷ (key.Code 3, key.Code 3, Equal) ∷ (key.Number (pos 9), key.Code 0, Less)
    ∷ (key.Code 0, key.Number (pos 9), Greater) ∷ [])
keys = refl

leaving : Gives2 leaves ((Sum, Some (pos 170141183460469231731687303715884105728), true)
    ∷ (Sum, Some (pos 170141183460469231731687303715884105727), false)
    ∷ (Sum, Some (negsuc 170141183460469231731687303715884105728), true)
    ∷ (Sum, Some (negsuc 170141183460469231731687303715884105727), false)
    ∷ (Sum, Some (pos 9223372036854775808), false) ∷ (Sum, None, false)
    ∷ (Count, Some (pos 9223372036854775808), true) ∷ (Count, Some (pos 9223372036854775807), false)
    ∷ (Max, Some (pos 170141183460469231731687303715884105728), false) ∷ [])
unfolding is_i64 is_i128
leaving = refl

-- ---- rows of tables, codes and cells, which are lent as they are

abbrev asia : World
asia = record sample { text = λ c code. codes "ASIA" }

rows_and_codes : Gives (is_row_of Date) (
    (Some (kind.Row Date), true) ∷ (Some (kind.Row Customer), false) ∷ (Some kind.Number, false)
    ∷ (None, false) ∷ [])
    × Gives2 (decoded asia) (
    (declared.Number, key.Number (negsuc 0), Number (negsuc 0))
    ∷ (declared.Text CRegion, key.Code 1, Text (codes "ASIA"))
    ∷ (declared.Number, key.Code 7, Number (pos 7)) ∷ [])
    × (decoded_keys asia (declared.Number ∷ declared.Text CRegion ∷ [])
    (Some (key.Number (pos 3)) ∷ None ∷ []) ≡ Some (Number (pos 3)) ∷ None ∷ [])
rows_and_codes = (refl, refl, refl)

lent_cells : (text : Bor (List ℕ)) → Gives cell_viewed (
    (lent.Text text, cell.Text text.now) ∷ (lent.Number (pos 1997), cell.Number (pos 1997))
    ∷ (lent.All, cell.All) ∷ (lent.Null, cell.Null) ∷ [])
lent_cells text = refl
