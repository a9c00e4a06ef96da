-- The row of an open line that ends.
use Rattle.std.{proofs.Common.{◌≡◌, ◌+◌, ◌≤◌, ◌∙◌, ◌&&◌, ℕ, List, [], ◌∷◌, ◌++◌, Bool, true, false, Some, None, length, map, refl, sym, ap, inl, inr, arith}, proofs.lemmas.Bool.{cases_Bool, true≢false}, proofs.lemmas.List.append-nil, specs.Prelude.{filter, nat_eq, nat_lt}, specs.List.{list_all, starts_with}}
use Rattle.star_common.{specs.First.first_answer, proofs.Firsts.or_none}
use Rattle.star_schema.specs.{declared.column.Kind.Kind, declared.table.TableId.TableId, Records.fields_of, Records.is_filled, Records.records_of, Schema.kinds_of, Tables.Value, Tables.row_of}
use Rattle.star_reader.specs.{declared.column.RawColumn.RawColumn, declared.fault.ReadFault.ReadFault, declared.open_line.OpenLine.OpenLine, declared.progress.Progress.Progress, Columns.{AreColumnsOf, first_rows, values}, Faults.{byte_order_mark, record_fault, records_fault}, Partway.left_fault, Carried.{is_inner, AreOneRecord, StandsFor}, Private.Ended.HasEnded, Private.Steps.{HasAdded, HasRows}}
use Rattle.star_reader.proofs.{Cuts.inner_records, Law.marked_fault, Law.plain_fault, Law.records_sound, Law.width_kinds, TableSteps.start as begin}
use Rattle.star_reader.specs.declared.fault.ReadFault.TheVariants as fault

-- the row of one line is to be added
pub open_start : (table : TableId) (most start : ℕ) (line : List ℕ) (columns : List RawColumn)
    → AreColumnsOf table start columns → start ≤ most
    → HasAdded table most start (first_rows start (map values columns))
    (filter is_filled (line ∷ [])) (filter is_filled (line ∷ []) ++ []) start columns
open_start table most start line columns full within =
    rw (append-nil (filter is_filled (line ∷ [])))
    (begin table most start (filter is_filled (line ∷ [])) columns full within)

-- lines that are one record have the same fault
same_fault : (table : TableId) (most from : ℕ) (a b : List ℕ) → AreOneRecord (kinds_of table) a b
    → is_filled a ≡ is_filled b
    → records_fault table most from (filter is_filled (a ∷ []))
    ≡ records_fault table most from (filter is_filled (b ∷ []))
unfolding first_answer
same_fault table most from a b same filled = elim (cases_Bool (is_filled b)) [
  | inl some ↦ rw (filled, some, same.fault from) refl
  | inr none ↦ rw (filled, none) refl
]

-- and, where that is none, the same row
same_rows : (table : TableId) (most from : ℕ) (a b : List ℕ) → AreOneRecord (kinds_of table) a b
    → is_filled a ≡ is_filled b → records_fault table most from (filter is_filled (a ∷ [])) ≡ None
    → map (row_of table) (filter is_filled (a ∷ []))
    ≡ map (row_of table) (filter is_filled (b ∷ []))
unfolding first_answer
same_rows table most from a b same filled none = elim (cases_Bool (is_filled b)) [
  | inr empty ↦ rw (filled, empty) refl
  | inl some ↦ elim (cases_Bool (nat_lt most from)) [
    | inl over ↦ let bad : Some fault.TooManyRows ≡ None = rw (filled, some, over) at none in
        absurd (cc bad)
    | inr within ↦
        let here = or_none (record_fault (kinds_of table) from (fields_of a)) None
        (rw (filled, some, within) at none) in
        rw (filled, some)
        (ap (λ (row : List Value). row ∷ []) (rw (width_kinds table) at (same.values from here.0)))
  ]
]

same_count : (a b : List ℕ) → is_filled a ≡ is_filled b
    → length (filter is_filled (a ∷ [])) ≡ length (filter is_filled (b ∷ []))
same_count a b filled = elim (cases_Bool (is_filled b))
    [ inl some ↦ rw (filled, some) refl | inr none ↦ rw (filled, none) refl ]

-- what is left from a position that is not marked
left_plain : (is_start : Bool) (table : TableId) (most from : ℕ) (bytes : List ℕ)
    → (is_start && starts_with nat_eq bytes byte_order_mark) ≡ false
    → left_fault is_start table most from bytes ≡ records_fault table most from (records_of bytes)
left_plain false table most from bytes h = refl
left_plain true table most from bytes h = plain_fault table most from bytes h

left_marked : (is_start : Bool) (table : TableId) (most from : ℕ) (bytes : List ℕ)
    → (is_start && starts_with nat_eq bytes byte_order_mark) ≡ true
    → left_fault is_start table most from bytes ≡ Some fault.ByteOrderMark
left_marked false table most from bytes h = absurd (true≢false (sym h))
left_marked true table most from bytes h = marked_fault table most from bytes h

at_hand : {ks : List Kind} {line : OpenLine} {bytes : List ℕ} → StandsFor ks line bytes
    → AreOneRecord ks line.kept.items bytes
at_hand {ks} {line} {bytes} h = rw (append-nil line.kept.items, append-nil bytes) at (h.same [])

mark_at_hand : {ks : List Kind} {line : OpenLine} {bytes : List ℕ} → StandsFor ks line bytes
    → starts_with nat_eq line.kept.items byte_order_mark ≡ starts_with nat_eq bytes byte_order_mark
mark_at_hand {ks} {line} {bytes} h =
    rw (append-nil line.kept.items, append-nil bytes) at (h.mark [])

-- the part is marked
pub end_marked : (table : TableId) (most : ℕ) (old : Progress) (bytes : List ℕ)
    → StandsFor (kinds_of table) old.line bytes
    → (old.is_start && starts_with nat_eq old.line.kept.items byte_order_mark) ≡ true
    → left_fault old.is_start table most (old.rows + 1) bytes ≡ Some fault.ByteOrderMark
end_marked table most old bytes stands marked =
    left_marked old.is_start table most (old.rows + 1) bytes (rw (mark_at_hand stands) at marked)

-- the first fault of the line is that of what was kept of it
kept_fault : (table : TableId) (most : ℕ) (old : Progress) (bytes : List ℕ)
    → StandsFor (kinds_of table) old.line bytes → list_all is_inner bytes ≡ true
    → (old.is_start && starts_with nat_eq old.line.kept.items byte_order_mark) ≡ false
    → left_fault old.is_start table most (old.rows + 1) bytes
    ≡ records_fault table most (old.rows + 1) (filter is_filled (old.line.kept.items ∷ []))
kept_fault table most old bytes stands inner plain =
    left_plain old.is_start table most (old.rows + 1) bytes (rw (mark_at_hand stands) at plain)
    ∙ ap (records_fault table most (old.rows + 1)) (inner_records bytes inner)
    ∙ sym (same_fault table most (old.rows + 1) old.line.kept.items bytes (at_hand stands)
    stands.filled)

pub end_faulty : (table : TableId) (most : ℕ) (old : Progress) (bytes : List ℕ) (f : ReadFault)
    → StandsFor (kinds_of table) old.line bytes → list_all is_inner bytes ≡ true
    → (old.is_start && starts_with nat_eq old.line.kept.items byte_order_mark) ≡ false
    → records_fault table most (old.rows + 1) (filter is_filled (old.line.kept.items ∷ [])) ≡ Some f
    → left_fault old.is_start table most (old.rows + 1) bytes ≡ Some f
end_faulty table most old bytes f stands inner plain e =
    kept_fault table most old bytes stands inner plain ∙ e

-- the line has ended
pub ended : (table : TableId) (most : ℕ) (old new : Progress) (bytes : List ℕ)
    (columns after : List RawColumn) → StandsFor (kinds_of table) old.line bytes
    → list_all is_inner bytes ≡ true
    → (old.is_start && starts_with nat_eq old.line.kept.items byte_order_mark) ≡ false
    → old.rows ≤ most
    → (records_fault table most (old.rows + 1) (filter is_filled (old.line.kept.items ∷ [])) ≡ None)
    × HasRows table old.rows (first_rows old.rows (map values columns))
    (filter is_filled (old.line.kept.items ∷ [])) [] new.rows after
    → StandsFor (kinds_of table) new.line [] → new.is_start ≡ false
    → HasEnded table most old bytes columns new after
ended table most old new bytes columns after stands inner plain within added fresh behind =
    let kept : List (List ℕ) = filter is_filled (old.line.kept.items ∷ []) in
    let is = inner_records bytes inner in
    let count = same_count old.line.kept.items bytes stands.filled in
    let rows = same_rows table most (old.rows + 1) old.line.kept.items bytes (at_hand stands)
    stands.filled added.0 in
    let sound = records_sound table most (old.rows + 1) kept (omega (arith, within)) added.0 in
    record {
      no_fault = kept_fault table most old bytes stands inner plain ∙ added.0;
      rows = rw is (record {
        counted = omega (arith, added.1.counted, count);
        of_table = added.1.of_table;
        so_far = added.1.so_far
            ∙ ap (λ (more : List (List Value)). first_rows old.rows (map values columns) ++ more)
            rows;
      });
      few = omega (arith, sound.0, added.1.counted);
      fresh = fresh;
      behind = behind;
    }
