-- The columns and the cells of the answer of a plain plan over loaded tables.
use Rattle.std.{proofs.Common.{◌≡◌, ◌∙◌, ◌+◌, ◌++◌, ℕ, suc, ℤ, true, zero-add, List, [], ◌∷◌, Option, Some, None, ap, arith, get_or, length, map, pos, refl, subst, sym, true≢false, ⊎_elim}, proofs.lemmas.List.{length-map, map-append}, proofs.lemmas.List.Elements.{All-contains, All-from_recursion, All-weaker, recursion_from_All}, proofs.lemmas.List.Sums.AllPass-from_list_all, specs.List.{All, AllByRecursion, AllZip, Contains}, specs.Prelude.replicate}
use mathlib.Core.List.{map-map}
use Rattle.star_common.proofs.Members.{contains_mapped, from_contains_map, of_each}
use Rattle.star_compile_laws.proofs.Elements.{contains_filtered}
use Rattle.star_merge_laws.specs.Plain.{columns_at, plain_plan}
use Rattle.star_plan.specs.{Meaning.{Joined, Plan, Tables, aggregate_of, all_hold, entry_of, joined_rows, joined_value, plan_rows}, Sound.{IsSoundPlan, in_scope}}
use Rattle.star_program.specs.{declared.outcome.Cell.Cell, RowCells.cell_of, RowCells.key_cell, RowCells.total_cell}
use Rattle.star_program.specs.declared.outcome.Cell.TheVariants as cell
use Rattle.star_query_meaning.specs.Answers.{IsPlanAnswer, shown_name}
use Rattle.star_report.specs.Columns.{AreRowsOf, IsCellOfKind, IsFieldValue, Total}
use Rattle.star_schema.{specs.declared.column.ColumnId.ColumnId, specs.declared.column.ColumnId.TheVariants.DDatekey, specs.declared.group.Aggregate.Aggregate, specs.declared.group.GroupColumn.GroupColumn, specs.declared.group.Shape.TheVariants.Plain, specs.declared.table.TableId.TableId, specs.Groups.{AreGroups, Entry, GroupRow, is_grouping, totals_from}, proofs.Groupings.shown_masked, specs.Order.value_cmp, specs.Schema.{column_name, table_of}, specs.Tables.{IsRowOf, Number, Text, Value}}
use Rattle.star_schema.specs.declared.group.GroupColumn.TheVariants as column
use Rattle.star_merger.{specs.declared.columns.PartialColumn.PartialColumn, specs.Columns.{column_kinds, column_names, key_column, key_kind, kind_view, plan_columns, total_column}, specs.Private.Digits.HasCellDigits, proofs.JoinedValues.{IsValueOf, joined_there, value_there}}

-- ---- all columns of a plain plan

module _ {X Y Z : Type 0} (show : GroupColumn → Z) (numbered : ℕ → GroupColumn) (g : Y → Z) (d : Y)
  where
    shown_from : (index : ℕ) (xs : List X) (ys : List Y) → length xs ≡ length ys
        → ((n : ℕ) → show (numbered (index + n)) ≡ g (get_or ys n d))
        → map show (columns_at numbered index xs) ≡ map g ys
    shown_from index [] [] long is = refl
    shown_from index [] (y ∷ ys) long is = absurd (omega (arith, long))
    shown_from index (x ∷ xs) [] long is = absurd (omega (arith, long))
    shown_from index (x ∷ xs) (y ∷ ys) long is =
        let first : index ≡ index + 0 = omega arith in
        let next : (n : ℕ) → index + 1 + n ≡ index + suc n = λ n. omega arith in
        λ i. (ap (λ n. show (numbered n)) first ∙ is 0) i
        ∷ shown_from (index + 1) xs ys (omega (arith, long))
        (λ n. ap (λ n. show (numbered n)) (next n) ∙ is (suc n)) i

    shown_all : (xs : List X) (ys : List Y) → length xs ≡ length ys
        → ((n : ℕ) → show (numbered n) ≡ g (get_or ys n d))
        → map show (columns_at numbered 0 xs) ≡ map g ys
    shown_all xs ys long is =
        shown_from 0 xs ys long (λ n. ap (λ n. show (numbered n)) (zero-add n) ∙ is n)

pub names_spelled : (p : Plan) → IsSoundPlan p
    → map (shown_name (plain_plan p)) (plain_plan p).items ≡ column_names (plan_columns p)
names_spelled p sound =
    let show = shown_name (plain_plan p) in
    map-append show (columns_at column.Key 0 p.keys) (columns_at column.Aggregate 0 p.measures)
    ∙ (λ i. (shown_all show column.Key column_name DDatekey p.keys p.keys refl (λ n. refl)
    ∙ sym (map-map (λ column. column.name) key_column p.keys)) i
    ++ (shown_all show column.Aggregate (λ name. name) [] p.measures p.names (sym sound.names)
    (λ n. refl) ∙ sym (map-map (λ column. column.name) total_column p.names)) i)
    ∙ sym (map-append (λ column. column.name) (map key_column p.keys) (map total_column p.names))

-- ---- the keys of a group

record HasKeys (cs : List ColumnId) (keys : List (Option Value)) : Type 0 where
  value : ColumnId → Value
  are : AllByRecursion (λ c. IsValueOf c (value c)) cs
  shown : keys ≡ map Some (map value cs)

no_keys : (cs : List ColumnId) → is_grouping {K = Value} Plain (replicate (length cs) None) ≡ true
    → HasKeys cs (replicate (length cs) None)
no_keys [] plain = record { value = λ c. Number (pos 0); are = tt; shown = refl }
no_keys (c ∷ cs) plain = absurd (true≢false (sym plain))

-- ---- the cells of a group

abbrev AreCells : List PartialColumn → List Cell → Type 0
AreCells columns cells = AllZip IsCellOfKind (column_kinds columns) cells

key_shown : (c : ColumnId) (v : Value) → IsValueOf c v → HasCellDigits (key_cell (Some v))
    → IsCellOfKind (kind_view (key_column c).kind) (key_cell (Some v))
key_shown c (Number z) is digits =
    subst (λ k. IsCellOfKind (kind_view (key_kind k)) (cell.Number z)) is.of_kind digits
key_shown c (Text text) is digits =
    subst (λ k. IsCellOfKind (kind_view (key_kind k)) (cell.Text text)) is.of_kind is.field

total_shown : (total : Option ℤ) → HasCellDigits (total_cell total)
    → IsCellOfKind Total (total_cell total)
total_shown None digits = tt
total_shown (Some z) digits = digits

totals_shown : (names : List (List ℕ)) (totals : List (Option ℤ)) → length names ≡ length totals
    → AllByRecursion HasCellDigits (map total_cell totals)
    → AreCells (map total_column names) (map total_cell totals)
totals_shown [] [] long digits = tt
totals_shown [] (total ∷ totals) long digits = absurd (omega (arith, long))
totals_shown (name ∷ names) [] long digits = absurd (omega (arith, long))
totals_shown (name ∷ names) (total ∷ totals) long digits =
    (total_shown total digits.0, totals_shown names totals (omega (arith, long)) digits.1)

cells_shown : (cs : List ColumnId) (value : ColumnId → Value) (names : List (List ℕ))
    (totals : List (Option ℤ)) → AllByRecursion (λ c. IsValueOf c (value c)) cs
    → length names ≡ length totals → let cells = map key_cell (map Some (map value cs)) in
    AllByRecursion HasCellDigits (cells ++ map total_cell totals)
    → AreCells (map key_column cs ++ map total_column names) (cells ++ map total_cell totals)
cells_shown [] value names totals are long digits = totals_shown names totals long digits
cells_shown (c ∷ cs) value names totals are long digits =
    (key_shown c (value c) are.0 digits.0, cells_shown cs value names totals are.1 long digits.1)

-- ---- the cells of a plain answer

length_totals : (gs : List Aggregate) (index : ℕ) (rows : List (Entry Value))
    → length gs ≡ length (totals_from gs index rows)
length_totals [] index rows = refl
length_totals (g ∷ gs) index rows = ap suc (length_totals gs (index + 1) rows)

module _ (ts : Tables) (p : Plan) (sound : IsSoundPlan p)
    (rows : (t : TableId) → All (IsRowOf t) (ts t))
    (fields : (t : TableId) → All (All IsFieldValue) (ts t)) where
  keys_there : (row : Joined) → Contains (joined_rows ts p.joins) row
      → AllByRecursion (λ c. IsValueOf c (joined_value c row)) p.keys
  keys_there row there =
      recursion_from_All _ p.keys (All-weaker _ (λ c. IsValueOf c (joined_value c row))
      (λ c scope. let t = table_of c in
      let own = joined_there ts p.joins row there t scope in
      value_there c (row t) (All-contains (IsRowOf t) (ts t) (row t) (rows t) own)
      (All-contains (All IsFieldValue) (ts t) (row t) (fields t) own)) p.keys
      (AllPass-from_list_all (λ c. in_scope p.joins (table_of c)) p.keys sound.keys))

  abbrev entries : List (Entry Value)
  entries = map (entry_of p) (plan_rows ts p)

  group_shown : (groups : List (GroupRow Value))
      → AreGroups value_cmp Plain (length p.keys) (map aggregate_of p.measures) entries groups
      → (group : GroupRow Value) → Contains groups group
      → AllByRecursion HasCellDigits (map (cell_of group) (plain_plan p).items)
      → AreCells (plan_columns p) (map (cell_of group) (plain_plan p).items)
  group_shown groups are group there =
      let is = are.each group there in
      let keys : HasKeys p.keys group.keys = ⊎_elim {C = HasKeys p.keys group.keys}
      (λ of_row. let from = from_contains_map (entry_of p) (plan_rows ts p) of_row.0 of_row.1 in
      record {
        value = λ c. joined_value c from.0;
        are = keys_there from.0
            (contains_filtered (all_hold p.conjuncts) (joined_rows ts p.joins) from.0 from.1);
        shown = shown_masked group.keys of_row.0.keys is.0.0 of_row.2
            ∙ ap (λ (entry : Entry Value). map Some entry.keys) (sym from.2);
      })
      (λ none. subst (HasKeys p.keys) (sym none)
      (no_keys p.keys (ap (is_grouping Plain) (sym none) ∙ is.0.0))) is.0.1 in
      let long : length p.measures ≡ length group.totals =
      sym (length-map p.measures aggregate_of) ∙ length_totals (map aggregate_of p.measures) 0 _
      ∙ ap length (sym is.1) in
      subst (λ cells. AllByRecursion HasCellDigits cells → AreCells (plan_columns p) cells)
      (sym (map-append (cell_of group) (columns_at column.Key 0 p.keys)
      (columns_at column.Aggregate 0 p.measures)
      ∙ (λ i. (shown_all (cell_of group) column.Key key_cell None p.keys group.keys
      (sym (ap length keys.shown ∙ length-map (map keys.value p.keys) Some
      ∙ length-map p.keys keys.value)) (λ n. refl) ∙ ap (map key_cell) keys.shown) i
      ++ shown_all (cell_of group) column.Aggregate total_cell None p.measures group.totals long
      (λ n. refl) i)))
      (cells_shown p.keys keys.value p.names group.totals keys.are (sound.names ∙ long))

  pub cells_spelled : (names : List (List ℕ)) (cells : List (List Cell))
      → All (All HasCellDigits) cells → IsPlanAnswer ts (plain_plan p) names cells
      → AreRowsOf (column_kinds (plan_columns p)) cells
  cells_spelled names cells digits is =
      let shown = λ (group : GroupRow Value). map (cell_of group) (plain_plan p).items in
      let all = subst (All (All HasCellDigits)) is.cells digits in
      subst (AreRowsOf (column_kinds (plan_columns p))) (sym is.cells)
      (All-from_recursion (AreCells (plan_columns p)) (map shown is.groups)
      (of_each (AreCells (plan_columns p)) (map shown is.groups) (λ row there.
      let from = from_contains_map shown is.groups row there in
      subst (AreCells (plan_columns p)) from.2 (group_shown is.groups is.each_group from.0 from.1
      (recursion_from_All HasCellDigits (shown from.0)
      (All-contains (All HasCellDigits) (map shown is.groups) (shown from.0) all
      (contains_mapped shown is.groups from.0 from.1)))))))
