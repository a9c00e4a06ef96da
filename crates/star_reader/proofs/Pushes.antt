-- One more cell of a record.
use Rattle.std.{proofs.Common.{◌≡◌, ◌+◌, ◌≤◌, ℕ, zero, suc, List, [], ◌∷◌, ◌++◌, Some, None, drop, length, map, set, refl, sym, ap, ◌∙◌, arith, append_assoc, length-append}, proofs.Math.Seq.map-set_same, proofs.lemmas.List.{append-nil, drop_all, map-set}, proofs.lemmas.Option.{get_or_from_slice_get, slice_get-map}, specs.List.slice_get, specs.Option.option_map}
use Rattle.star_schema.specs.{declared.column.Kind.Kind, Tables.Value, Tables.value_of, Tables.values_of}
use Rattle.star_common.{specs.First.first_answer, proofs.Lists.drop_at_index}
use Rattle.star_reader.specs.{declared.column.RawColumn.RawColumn, declared.fault.ReadFault.ReadFault, Columns.raw_kind, Columns.values, Private.Extended.extended_columns, Faults.cell_fault, Faults.cells_fault, Private.Steps.HasPushed}

extended-nil : (columns : List (List Value)) → extended_columns columns [] ≡ columns
unfolding extended_columns
extended-nil [] = refl
extended-nil (column ∷ columns) = refl

-- one more value goes to the next column
extended-more : (columns : List (List Value)) (vs : List Value) (i : ℕ) (v : Value)
    (column : List Value) → length vs ≡ i → slice_get (extended_columns columns vs) i ≡ Some column
    → extended_columns columns (vs ++ v ∷ [])
    ≡ set (extended_columns columns vs) i (column ++ v ∷ [])
unfolding extended_columns
extended-more [] [] i v column e at = cc
extended-more [] (w ∷ vs) i v column e at = cc
extended-more (c ∷ columns) [] zero v column e at =
    let same : c ≡ column = cc in
    rw (same, extended-nil columns) refl
extended-more (c ∷ columns) [] (suc i) v column e at = absurd (omega arith)
extended-more (c ∷ columns) (w ∷ vs) zero v column e at = absurd (omega arith)
extended-more (c ∷ columns) (w ∷ vs) (suc i) v column e at =
    let fewer : length vs ≡ i = omega arith in
    rw (extended-more columns vs i v column fewer at) refl

pub start : (at_row : ℕ) (ks : List Kind) (cells : List (List ℕ)) (columns : List RawColumn)
    → HasPushed at_row ks cells 0 columns columns
start at_row ks cells columns =
    record {
      no_fault = refl;
      pushed = [];
      count = refl;
      rest = refl;
      columns = sym (extended-nil (map values columns));
      kinds = refl;
    }

-- what a column is, by its position
pub kind_there : (old new : List RawColumn) (i : ℕ) (column : RawColumn)
    → map raw_kind new ≡ map raw_kind old → slice_get new i ≡ Some column
    → slice_get (map raw_kind old) i ≡ Some (raw_kind column)
kind_there old new i column kinds at =
    rw (← kinds) (slice_get-map raw_kind new i ∙ ap (option_map raw_kind) at)

-- another column of the same kind
pub kinds_kept : (old new : List RawColumn) (i : ℕ) (column next : RawColumn)
    → map raw_kind new ≡ map raw_kind old → slice_get new i ≡ Some column
    → raw_kind next ≡ raw_kind column → map raw_kind (set new i next) ≡ map raw_kind old
kinds_kept old new i column next kinds at kind =
    map-set_same raw_kind new i next column
    (kind ∙ ap raw_kind (sym (get_or_from_slice_get new i column column at))) ∙ kinds

-- the next cell's fault is the first
pub faulty : (at_row : ℕ) (ks : List Kind) (cells : List (List ℕ)) (i : ℕ)
    (old new : List RawColumn) (k : Kind) (cell : List ℕ) (f : ReadFault)
    → HasPushed at_row ks cells i old new → slice_get ks i ≡ Some k → slice_get cells i ≡ Some cell
    → cell_fault at_row (i + 1) k cell ≡ Some f → cells_fault at_row 1 ks cells ≡ Some f
unfolding first_answer
faulty at_row ks cells i old new k cell f h at_k at_cell e =
    h.no_fault ∙ rw (drop_at_index ks i k at_k, drop_at_index cells i cell at_cell, e) refl

-- the next cell has no fault
pub more : (at_row : ℕ) (ks : List Kind) (cells : List (List ℕ)) (i : ℕ) (old new : List RawColumn)
    (k : Kind) (cell : List ℕ) (column next : RawColumn) → HasPushed at_row ks cells i old new
    → slice_get ks i ≡ Some k → slice_get cells i ≡ Some cell
    → cell_fault at_row (i + 1) k cell ≡ None → slice_get new i ≡ Some column
    → values next ≡ values column ++ value_of k cell ∷ [] → raw_kind next ≡ raw_kind column
    → HasPushed at_row ks cells (i + 1) old (set new i next)
unfolding first_answer
more at_row ks cells i old new k cell column next h at_k at_cell e at holds kind =
    let dk = drop_at_index ks i k at_k in
    let dc = drop_at_index cells i cell at_cell in
    let there : slice_get (extended_columns (map values old) h.pushed) i ≡ Some (values column) =
    rw (← h.columns) (slice_get-map values new i ∙ ap (option_map values) at) in
    record {
      no_fault = h.no_fault ∙ rw (dk, dc, e) refl;
      pushed = h.pushed ++ value_of k cell ∷ [];
      count = omega (arith, length-append h.pushed (value_of k cell ∷ []), h.count);
      rest = append_assoc h.pushed (value_of k cell ∷ []) _ ∙ rw (dk, dc) at h.rest;
      columns = map-set values new i next
          ∙ rw (holds, h.columns)
          (sym (extended-more (map values old) h.pushed i (value_of k cell)
          (values column) h.count there));
      kinds = kinds_kept old new i column next h.kinds at kind;
    }

length-values_of : (ks : List Kind) (cells : List (List ℕ)) → length cells ≡ length ks
    → length (values_of ks cells) ≡ length ks
length-values_of [] cells e = refl
length-values_of (k ∷ ks) [] e = absurd (omega arith)
length-values_of (k ∷ ks) (cell ∷ cells) e = let rest : length cells ≡ length ks =
    omega arith in rw (length-values_of ks cells rest) refl

-- each cell was read
pub record IsPushed (at_row : ℕ) (ks : List Kind) (cells : List (List ℕ))
    (old new : List RawColumn) : Type 0 where
  pub no_fault : cells_fault at_row 1 ks cells ≡ None
  pub columns : map values new ≡ extended_columns (map values old) (values_of ks cells)
  pub width : length (values_of ks cells) ≡ length ks

pub whole : (at_row : ℕ) (ks : List Kind) (cells : List (List ℕ)) (i : ℕ) (old new : List RawColumn)
    → HasPushed at_row ks cells i old new
    → length ks ≤ i → length cells ≡ length ks → IsPushed at_row ks cells old new
unfolding first_answer
whole at_row ks cells i old new h past all =
    let none : drop i ks ≡ [] = drop_all i ks past in
    let pushed : h.pushed ≡ values_of ks cells = sym (append-nil h.pushed) ∙ rw none at h.rest in
    record {
      no_fault = h.no_fault ∙ rw none refl;
      columns = rw pushed at h.columns;
      width = length-values_of ks cells all;
    }
