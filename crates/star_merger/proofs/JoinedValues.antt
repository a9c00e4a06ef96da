-- The values of joined rows are those of rows of the tables.
use Rattle.std.{proofs.Common.{◌≡◌, ◌∙◌, ◌||◌, ◌⊎◌, Bool, true, false, List, [], ◌∷◌, ap, arith, cond, inl, inr, pos, slice_get, sym, true≢false, ⊎_elim}, proofs.lemmas.Grind.common_steps, proofs.lemmas.List.Elements.{All-get_or, Contains-append_cases}, proofs.lemmas.Option.{get_or_from_slice_get, slice_get-map, slice_get_within}, specs.List.{All, Contains, flat_map}, specs.Prelude.filter}
use Rattle.star_common.proofs.Members.{contains_cases, contains_here, contains_later, contains_none}
use Rattle.star_compile_laws.proofs.Elements.{contains_filtered}
use Rattle.star_plan.{proofs.Options.mapped_gave, specs.declared.tree.Join.Join, specs.Meaning.{Joined, Row, Tables, joined_rows, matches, only_row, partners, value_in, with_row}, specs.Sound.{in_scope, joins_table}}
use Rattle.star_report.specs.Columns.{IsFieldValue}
use Rattle.star_schema.{proofs.KeyColumns.kind_at_index, proofs.Same.table_same, specs.declared.column.ColumnId.ColumnId, specs.declared.table.TableId.TableId, specs.declared.table.TableId.TheVariants.Lineorder, specs.Schema.{is_table, kind_of, position_of, table_of}, specs.Tables.{IsRowOf, Number, Value, kind_of_value}}

from_flat : {X Y : Type 0} (f : X → List Y) (xs : List X) (y : Y) → Contains (flat_map f xs) y
    → (x : X) × Contains xs x × Contains (f x) y
from_flat f [] y h = absurd (contains_none y h)
from_flat {X} f (x ∷ xs) y h =
    ⊎_elim {C = (z : X) × Contains (x ∷ xs) z × Contains (f z) y}
    (λ here. (x, contains_here x xs, here))
    (λ later. let w = from_flat f xs y later in (w.0, contains_later x xs w.0 w.1, w.2))
    (Contains-append_cases (f x) (flat_map f xs) y h)

-- the table has the row; or it is not joined, and the row is the one that was there
abbrev IsTaken : (Has : TableId → Row → Type 0) → (is_joined : Bool) → TableId → (base row : Row)
    → Type 0
IsTaken Has is_joined t base row = Has t row ⊎ ((is_joined ≡ false) × (row ≡ base))

taken_with : (Has : TableId → Row → Type 0) (is_joined : Bool) (t u : TableId) (base d row : Row)
    → Has u d → IsTaken Has is_joined t (cond (is_table t u) d base) row
    → IsTaken Has (is_table t u || is_joined) t base row
taken_with Has is_joined t u base d row there taken = grind (arith, table_same)

module _ (ts : Tables) where
  abbrev HasRow : TableId → Row → Type 0
  HasRow t row = Contains (ts t) row

  partners_taken : (js : List Join) (base row : Joined) → Contains (partners ts js base) row
      → (t : TableId) → IsTaken HasRow (joins_table js t) t (base t) (row t)
  partners_taken [] base row h t = grind (arith, common_steps, contains_cases, contains_none)
  partners_taken (j ∷ js) base row h t =
      let u = table_of j.key in
      let from = from_flat (λ d. partners ts js (with_row base u d))
      (filter (matches base j) (ts u)) row h in
      taken_with HasRow (joins_table js t) t u (base t) from.0 (row t)
      (contains_filtered (matches base j) (ts u) from.0 from.1)
      (partners_taken js (with_row base u from.0) row from.2 t)

  -- each row of a joined row whose table is in scope is a row of the table
  pub joined_there : (js : List Join) (row : Joined) → Contains (joined_rows ts js) row
      → (t : TableId) → in_scope js t ≡ true → Contains (ts t) (row t)
  joined_there js row h t scope =
      let from = from_flat (λ l. partners ts js (only_row Lineorder l)) (ts Lineorder) row h in
      elim (taken_with HasRow (joins_table js t) t Lineorder [] from.0 (row t) from.1
      (partners_taken js (only_row Lineorder from.0) row from.2 t)) [
        | inl there ↦ there
        | inr other ↦ absurd (true≢false (sym scope ∙ other.0))
      ]

-- a value of the column's kind, whose text is a field
pub record IsValueOf (c : ColumnId) (v : Value) : Type 0 where
  pub of_kind : kind_of_value v ≡ kind_of c
  pub field : IsFieldValue v

pub value_there : (c : ColumnId) (row : Row) → IsRowOf (table_of c) row → All IsFieldValue row
    → IsValueOf c (value_in c row)
value_there c row typed fields =
    let index = position_of c in
    let gave = mapped_gave kind_of_value (slice_get row index) (kind_of c)
    (sym (slice_get-map kind_of_value row index) ∙ ap (λ kinds. slice_get kinds index) typed
    ∙ kind_at_index c) in
    record {
      of_kind = ap kind_of_value (get_or_from_slice_get row index gave.0 (Number (pos 0)) gave.1)
          ∙ gave.2;
      field = All-get_or IsFieldValue row index (Number (pos 0))
          (slice_get_within row index gave.0 gave.1) fields;
    }
