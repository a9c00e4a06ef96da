-- One more record of a table.
use Rattle.std.{proofs.Common.{◌≡◌, ◌+◌, ◌<◌, ◌≤◌, ℕ, List, [], ◌∷◌, All, ◌++◌, true, false, Some, None, Result, Ok, Err, MatchResult, length, map, refl, sym, ◌∙◌, inl, inr, arith, append_assoc}, proofs.lemmas.Bool.{and_parts, cases_Bool, eqb-true, le-ltb, lt-ltb, true≢false}, proofs.Math.ListN.get_or-map, proofs.lemmas.List.length-map, proofs.lemmas.List.Elements.All-map, specs.Prelude.{◌==◌, filter, nat_eq}, specs.List.starts_with}
use Rattle.csv.specs.Reading.{is_bom, strip_bom}
use Rattle.star_schema.specs.{declared.table.TableId.TableId, Records.fields_of, Records.is_filled, Schema.kinds_of, Tables.Value, Tables.cells_of, Tables.row_of, Tables.values_of}
use Rattle.star_common.specs.First.{first_answer}
use Rattle.star_reader.{specs.declared.column.RawColumn.RawColumn, specs.declared.fault.ReadFault.ReadFault, specs.Columns.{AreColumnsOf, first_rows, raw_kind, values}, specs.Private.Extended.extended_columns, specs.Faults.{byte_order_mark, record_fault, records_fault}, specs.Private.Steps.{AddsRecord, HasAdded, HasRows}, proofs.Law.width_kinds, proofs.RowLemmas.{extended_full, first_rows-extended}}
use Rattle.star_reader.specs.declared.fault.ReadFault.TheVariants as fault

-- a text with no byte order mark has none to take off
pub no_mark : (text : List ℕ) → starts_with nat_eq text byte_order_mark ≡ false
    → strip_bom text ≡ text
unfolding strip_bom
no_mark [] h = refl
no_mark (a ∷ []) h = refl
no_mark (a ∷ b ∷ []) h = refl
no_mark (a ∷ b ∷ c ∷ rest) h =
    elim (cases_Bool (is_bom a b c)) [
      | inl mark ↦
          let parts = and_parts _ _ mark in
          let front = and_parts _ _ parts.0 in
          let ea = eqb-true a 0xEF front.0 in
          let eb = eqb-true b 0xBB front.1 in
          let ec = eqb-true c 0xBF parts.1 in
          let bad : true ≡ false = rw (ea, eb, ec) at h in
          absurd (true≢false bad)
      | inr plain ↦ rw plain refl
    ]

-- no record was added yet
pub start : (table : TableId) (most from : ℕ) (all : List (List ℕ)) (columns : List RawColumn)
    → AreColumnsOf table from columns → from ≤ most
    → HasAdded table most from (first_rows from (map values columns)) all all from columns
start table most from all columns full within = record {
  few = within;
  no_fault = refl;
  rows = record { counted = refl; of_table = full; so_far = refl };
}

-- a line with a byte is a record
pub filled_line : (line : List ℕ) (rest : List (List ℕ)) → (length line == 0) ≡ false
    → filter is_filled (line ∷ []) ++ rest ≡ line ∷ rest
filled_line [] rest h = absurd (true≢false h)
filled_line (b ∷ line) rest h = refl

pub empty_line : (line : List ℕ) (rest : List (List ℕ)) → (length line == 0) ≡ true
    → filter is_filled (line ∷ []) ++ rest ≡ rest
empty_line [] rest h = refl
empty_line (b ∷ line) rest h =
    let bad = eqb-true (length (b ∷ line)) 0 h in absurd (omega (arith, bad))

-- the next record's fault is the first
pub faulty : {table : TableId} {most from : ℕ} {before : List (List Value)} {all : List (List ℕ)}
    {count : ℕ} {columns : List RawColumn} {line : List ℕ} {others : List (List ℕ)} {f : ReadFault}
    → HasAdded table most from before all (line ∷ others) count columns → count < most
    → record_fault (map raw_kind columns) (count + 1) (fields_of line) ≡ Some f
    → records_fault table most (from + 1) all ≡ Some f
unfolding first_answer
faulty {table} {most} {from} {before} {all} {count} {columns} {line} {others} {f} h within e =
    let room = le-ltb most (count + 1) (omega arith) in
    let here : record_fault (kinds_of table) (count + 1) (fields_of line) ≡ Some f =
    rw h.rows.of_table.kinds at e in
    h.no_fault ∙ rw (room, here) refl

-- the row of one more record
pub row_on : {table : TableId} {from : ℕ} {before : List (List Value)}
    {all others : List (List ℕ)} {line : List ℕ} {count : ℕ} {columns later : List RawColumn}
    → HasRows table from before all (line ∷ others) count columns
    → AddsRecord (count + 1) (fields_of line) columns later
    → HasRows table from before all others (count + 1) later
row_on {table} {from} {before} {all} {others} {line} {count} {columns} {later} was adds =
    let row : values_of (map raw_kind columns)
    (cells_of (length (map raw_kind columns)) (fields_of line))
    ≡ row_of table line = rw (was.of_table.kinds, width_kinds table) refl in
    let holds : map values later ≡ extended_columns (map values columns) (row_of table line) =
    rw row at adds.columns in
    let width : length (row_of table line) ≡ length (map values columns) =
    rw row at adds.width ∙ sym (length-map columns values) in
    let full : All (λ (c : List Value). length c ≡ count) (map values columns) =
    All-map (λ (c : List Value). length c ≡ count) values columns was.of_table.full in
    let longer : All (λ (c : List Value). length c ≡ count + 1) (map values later) =
    rw holds (extended_full (map values columns) (row_of table line) count full width) in
    record {
      counted = omega (arith, was.counted);
      of_table = record {
        kinds = adds.kinds ∙ was.of_table.kinds;
        full = λ k d within. let here : k < length (map values later) =
            omega (arith, within, length-map later values) in
            rw (← get_or-map values later k d) (longer k (values d) here);
      };
      so_far = rw (
        holds,
        first_rows-extended (map values columns) (row_of table line) count full width,
      )
          (append_assoc (first_rows count (map values columns)) (row_of table line ∷ []) _
          ∙ was.so_far);
    }

-- the next record has no fault
pub more : {table : TableId} {most from : ℕ} {before : List (List Value)} {all : List (List ℕ)}
    {count : ℕ} {columns later : List RawColumn} {line : List ℕ} {others : List (List ℕ)}
    → HasAdded table most from before all (line ∷ others) count columns → count < most
    → AddsRecord (count + 1) (fields_of line) columns later
    → HasAdded table most from before all others (count + 1) later
unfolding first_answer
more {table} {most} {from} {before} {all} {count} {columns} {later} {line} {others} h within adds =
    let room = le-ltb most (count + 1) (omega arith) in
    let here : record_fault (kinds_of table) (count + 1) (fields_of line) ≡ None =
    rw h.rows.of_table.kinds at adds.no_fault in
    record {
      few = omega (arith, within);
      no_fault = h.no_fault ∙ rw (room, here) refl;
      rows = row_on h.rows adds;
    }

-- there is no other record
pub whole : {table : TableId} {most from : ℕ} {before : List (List Value)} {all : List (List ℕ)}
    {count : ℕ} {columns : List RawColumn} → HasAdded table most from before all [] count columns
    → (records_fault table most (from + 1) all ≡ None)
    × HasRows table from before all [] count columns
unfolding first_answer
whole {table} {most} {from} {before} {all} {count} {columns} h = (h.no_fault, h.rows)

-- one record is too many
pub too_many : {table : TableId} {most from : ℕ} {before : List (List Value)}
    {all : List (List ℕ)} {count : ℕ} {columns : List RawColumn} {line : List ℕ}
    {others : List (List ℕ)} → HasAdded table most from before all (line ∷ others) count columns
    → most ≤ count → records_fault table most (from + 1) all ≡ Some fault.TooManyRows
unfolding first_answer
too_many {table} {most} {from} {before} {all} {count} h full =
    let over = lt-ltb most (count + 1) (omega arith) in
    h.no_fault ∙ rw over refl

-- the lines with a byte, from a line on
pub lines_from : (line : List ℕ) (later rest : List (List ℕ))
    → filter is_filled (line ∷ later) ++ rest
    ≡ filter is_filled (line ∷ []) ++ (filter is_filled later ++ rest)
lines_from line later rest = elim (cases_Bool (is_filled line))
    [ inl some ↦ rw some refl | inr none ↦ rw none refl ]

-- what follows of a result
pub matched : {T F : Type 0} (P R : T → Type 0) (Q : F → Type 0) (result : Result T F)
    → ((x : T) → P x → R x) → MatchResult result P Q → MatchResult result R Q
matched P R Q (Ok x) follows h = follows x h
matched P R Q (Err e) follows h = h
