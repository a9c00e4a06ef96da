-- One more piece of a table's text.
use Rattle.std.{proofs.Common.{◌≡◌, ◌+◌, ◌-◌, ◌∙◌, ℕ, List, [], ◌∷◌, ◌++◌, Bool, true, false, Some, None, drop, length, map, take, refl, sym, ap, inl, inr, arith, append_assoc}, proofs.lemmas.List.{append-nil, drop-drop, length-append, length-map, map-append, take-append-drop}, proofs.lemmas.Bool.{and_from, cases_Bool}, proofs.lemmas.Grind.flat_map-append, proofs.lemmas.List.Folds.list_all-append, specs.Prelude.nat_eq, specs.List.{list_all, starts_with}, specs.Option.option_or}
use Rattle.star_schema.specs.{declared.table.TableId.TableId, Records.records_in, Records.records_of, Schema.kinds_of, Tables.row_of}
use Rattle.star_reader.{specs.declared.column.RawColumn.RawColumn, specs.declared.fault.ReadFault.ReadFault, specs.declared.progress.Progress.Progress, specs.Columns.{AreColumnsOf, first_rows, raw_kind, values}, specs.Faults.{byte_order_mark, parts_fault, records_fault, text_fault}, specs.Partway.{IsFaultOf, IsPartway, left_fault}, specs.Carried.{is_inner, StandsFor}, specs.Private.Cut.{AreLinesOf, EndsInLineEnd, IsBegun}, specs.Private.Ended.HasEnded, specs.Private.Steps.HasRows, proofs.Cuts.{mark_ends, records_begun, records_ended, records_fault-append}, proofs.Law.{marked_fault, plain_fault, records_sound}}

-- a table has as many columns as kinds of them
pub as_wide : {table : TableId} {rows : ℕ} {columns : List RawColumn}
    → AreColumnsOf table rows columns → length (kinds_of table) ≡ length columns
as_wide {table} {rows} {columns} full =
    sym (ap length full.kinds) ∙ length-map columns raw_kind

-- bytes without a line end were carried
pub carried_on : (table : TableId) (most : ℕ) (parts : List (List ℕ)) (text : List ℕ)
    (old new : Progress) (columns : List RawColumn) (bytes : List ℕ)
    → (h : IsPartway table most parts text old columns) → new.rows ≡ old.rows
    → new.is_start ≡ old.is_start → StandsFor (kinds_of table) new.line (h.carried ++ bytes)
    → list_all is_inner bytes ≡ true → IsPartway table most parts (text ++ bytes) new columns
carried_on table most parts text old new columns bytes h rows start stands inner = record {
  of_table = rw rows h.of_table;
  few = rw rows h.few;
  carried = h.carried ++ bytes;
  of_text = omega (arith, h.of_text, length-append h.carried bytes, length-append text bytes);
  stands = stands;
  inner = list_all-append is_inner h.carried bytes ∙ and_from _ _ h.inner inner;
  no_fault = λ more later. rw (
    append_assoc text bytes more,
    append_assoc h.carried bytes more,
    rows,
    start,
  ) (h.no_fault (bytes ++ more) later);
  so_far = λ more. rw (
    append_assoc text bytes more,
    append_assoc h.carried bytes more,
    rows,
  ) (h.so_far (bytes ++ more));
}

records_left : (table : TableId) (most from : ℕ) (bytes x : List ℕ) → IsBegun x
    → records_fault table most from (records_of (bytes ++ x))
    ≡ option_or (records_fault table most from (records_of bytes))
    (records_fault table most (from + length (records_of bytes)) (records_of x))
records_left table most from bytes x begun =
    ap (records_fault table most from) (records_begun bytes x begun)
    ∙ records_fault-append table most from (records_of bytes) (records_of x)

-- the first fault of what is left, where a line end cuts it
left_cut : (is_start : Bool) (table : TableId) (most from : ℕ) (bytes x : List ℕ) → IsBegun x
    → left_fault is_start table most from (bytes ++ x)
    ≡ option_or (left_fault is_start table most from bytes)
    (records_fault table most (from + length (records_of bytes)) (records_of x))
left_cut false table most from bytes x begun = records_left table most from bytes x begun
left_cut true table most from bytes x begun =
    elim (cases_Bool (starts_with nat_eq bytes byte_order_mark)) [
      | inl mark ↦
          rw (
            marked_fault table most from (bytes ++ x) (same ∙ mark),
            marked_fault table most from bytes mark,
          ) refl
      | inr plain ↦
          rw (
            plain_fault table most from (bytes ++ x) (same ∙ plain),
            plain_fault table most from bytes plain,
          ) (records_left table most from bytes x begun)
    ]
  where
    same : starts_with nat_eq (bytes ++ x) byte_order_mark
        ≡ starts_with nat_eq bytes byte_order_mark
    same = rw begun.is (mark_ends bytes begun.byte begun.rest begun.ends)

begun_more : (lines more : List ℕ) → IsBegun lines → IsBegun (lines ++ more)
begun_more lines more h = record {
  byte = h.byte;
  rest = h.rest ++ more;
  ends = h.ends;
  is = rw h.is refl;
}

-- the fault of the open line is the first, where a line end comes
pub line_faulty : (table : TableId) (most : ℕ) (parts : List (List ℕ)) (text : List ℕ)
    (old : Progress) (columns : List RawColumn) (lines : List ℕ) (f : ReadFault)
    → (h : IsPartway table most parts text old columns) → IsBegun lines
    → left_fault old.is_start table most (old.rows + 1) h.carried ≡ Some f
    → IsFaultOf table most parts (text ++ lines) f
line_faulty table most parts text old columns lines f h begun e = λ more later.
    rw (append_assoc text lines more)
    (h.no_fault (lines ++ more) later
    ∙ rw (
      left_cut old.is_start table most (old.rows + 1) h.carried (lines ++ more)
          (begun_more lines more begun),
      e,
    ) refl)

-- the line ended: what comes behind a line end
behind_line : (table : TableId) (most : ℕ) (parts : List (List ℕ)) (text : List ℕ)
    (old mid : Progress) (columns after : List RawColumn)
    → (h : IsPartway table most parts text old columns)
    → HasEnded table most old h.carried columns mid after → (x : List ℕ) (later : List (List ℕ))
    → IsBegun x → text_fault table most (parts ++ (text ++ x) ∷ later)
    ≡ option_or (records_fault table most (mid.rows + 1) (records_of x))
    (parts_fault table most (mid.rows + 1 + length (records_of x)) later)
behind_line table most parts text old mid columns after h e x later begun =
    let counted : old.rows + 1 + length (records_of h.carried) ≡ mid.rows + 1 =
    omega (arith, e.rows.counted) in
    let all : length (records_of (h.carried ++ x))
    ≡ length (records_of h.carried) + length (records_of x) =
    rw (records_begun h.carried x begun)
    (length-append (records_of h.carried) (records_of x)) in
    let index : old.rows + 1 + length (records_of (h.carried ++ x))
    ≡ mid.rows + 1 + length (records_of x) =
    omega (arith, all, counted) in
    h.no_fault x later
    ∙ rw (
      left_cut old.is_start table most (old.rows + 1) h.carried x begun,
      e.no_fault,
      counted,
      index,
    ) refl

-- the first fault is one of the lines that ended
pub lines_faulty : (table : TableId) (most : ℕ) (parts : List (List ℕ)) (text : List ℕ)
    (old mid : Progress) (columns after : List RawColumn) (lines : List ℕ) (f : ReadFault)
    → (h : IsPartway table most parts text old columns)
    → HasEnded table most old h.carried columns mid after → IsBegun lines → EndsInLineEnd lines
    → records_fault table most (mid.rows + 1) (records_of lines) ≡ Some f
    → IsFaultOf table most parts (text ++ lines) f
lines_faulty table most parts text old mid columns after lines f h e begun closed bad =
    λ more later.
    rw (append_assoc text lines more)
    (behind_line table most parts text old mid columns after h e (lines ++ more) later
    (begun_more lines more begun)
    ∙ rw (
      records_ended lines more closed,
      records_fault-append table most (mid.rows + 1) (records_of lines) (records_of more),
      bad,
    ) refl)

-- rows behind rows
rows_join : {X R : Type 0} (f : X → R) (a b c : List R) (k l m : List X) → a ++ [] ≡ b ++ map f l
    → b ++ [] ≡ c ++ map f k → a ++ map f m ≡ c ++ map f (k ++ (l ++ m))
rows_join f a b c k l m to_a to_b =
    rw (
      sym (append-nil a) ∙ to_a,
      sym (append-nil b) ∙ to_b,
      map-append f k (l ++ m),
      map-append f l m,
      append_assoc (c ++ map f k) (map f l) (map f m),
      append_assoc c (map f k) (map f l ++ map f m),
    ) refl

-- the lines that ended have no fault
pub lines_on : (table : TableId) (most : ℕ) (parts : List (List ℕ)) (text : List ℕ)
    (old mid new : Progress) (columns between after : List RawColumn) (lines : List ℕ)
    → (h : IsPartway table most parts text old columns)
    → HasEnded table most old h.carried columns mid between → IsBegun lines → EndsInLineEnd lines
    → (records_fault table most (mid.rows + 1) (records_of lines) ≡ None)
    × HasRows table mid.rows (first_rows mid.rows (map values between))
    (records_of lines) [] new.rows after → StandsFor (kinds_of table) new.line []
    → new.is_start ≡ false → IsPartway table most parts (text ++ lines) new after
lines_on table most parts text old mid new columns between after lines h e begun closed read fresh
    start =
    let sound = records_sound table most (mid.rows + 1) (records_of lines)
    (omega (arith, e.few)) read.0 in
    let counted : mid.rows + 1 + length (records_of lines) ≡ new.rows + 1 =
    omega (arith, read.1.counted) in
    record {
      of_table = read.1.of_table;
      few = omega (arith, sound.0, read.1.counted);
      carried = [];
      of_text = omega arith;
      stands = fresh;
      inner = refl;
      no_fault = λ more later.
          let size = length-append (records_of lines) (records_of more) in
          let index : mid.rows + 1 + length (records_of lines ++ records_of more)
          ≡ new.rows + 1 + length (records_of more) =
          omega (arith, size, counted) in
          rw (append_assoc text lines more, start)
          (behind_line table most parts text old mid columns between h e (lines ++ more) later
          (begun_more lines more begun)
          ∙ rw (
            records_ended lines more closed,
            records_fault-append table most (mid.rows + 1) (records_of lines) (records_of more),
            read.0,
            counted,
            index,
          ) refl);
      so_far = λ more.
          let all : records_of (h.carried ++ (lines ++ more))
          ≡ records_of h.carried ++ (records_of lines ++ records_of more) =
          records_begun h.carried (lines ++ more) (begun_more lines more begun)
          ∙ ap (λ (rs : List (List ℕ)). records_of h.carried ++ rs)
          (records_ended lines more closed) in
          rw (append_assoc text lines more)
          (rows_join (row_of table) (first_rows new.rows (map values after))
          (first_rows mid.rows (map values between)) (first_rows old.rows (map values columns))
          (records_of h.carried) (records_of lines) (records_of more) read.1.so_far e.rows.so_far
          ∙ rw (sym all) (h.so_far (lines ++ more)));
    }

-- the fault of the line that its part leaves open is the first
pub part_faulty : (table : TableId) (most : ℕ) (parts : List (List ℕ)) (text : List ℕ)
    (old : Progress) (columns : List RawColumn) (f : ReadFault)
    → (h : IsPartway table most parts text old columns)
    → left_fault old.is_start table most (old.rows + 1) h.carried ≡ Some f
    → IsFaultOf table most (parts ++ text ∷ []) [] f
part_faulty table most parts text old columns f h e = λ more later.
    rw (append_assoc parts (text ∷ []) (more ∷ later))
    (rw (append-nil text, append-nil h.carried, e) at (h.no_fault [] (more ∷ later)))

-- the part has ended
pub part_on : (table : TableId) (most : ℕ) (parts : List (List ℕ)) (text : List ℕ)
    (old mid new : Progress) (columns after : List RawColumn)
    → (h : IsPartway table most parts text old columns)
    → HasEnded table most old h.carried columns mid after → new.rows ≡ mid.rows
    → new.line ≡ mid.line → new.is_start ≡ true
    → IsPartway table most (parts ++ text ∷ []) [] new after
unfolding parts_fault
part_on table most parts text old mid new columns after h e rows line start =
    let counted : old.rows + 1 + length (records_of h.carried) ≡ mid.rows + 1 =
    omega (arith, e.rows.counted) in
    record {
      of_table = rw rows e.rows.of_table;
      few = rw rows e.few;
      carried = [];
      of_text = omega arith;
      stands = rw line e.fresh;
      inner = refl;
      no_fault = λ more later. rw (append_assoc parts (text ∷ []) (more ∷ later), start, rows)
          (rw (append-nil text, append-nil h.carried, e.no_fault, counted)
          at (h.no_fault [] (more ∷ later)));
      so_far = λ more.
          let was : first_rows old.rows (map values columns)
          ++ map (row_of table) (records_of h.carried)
          ≡ map (row_of table) (records_in (parts ++ text ∷ [])) =
          rw (append-nil text, append-nil h.carried) at (h.so_far []) in
          let now : first_rows mid.rows (map values after)
          ≡ map (row_of table) (records_in (parts ++ text ∷ [])) =
          sym (append-nil (first_rows mid.rows (map values after))) ∙ e.rows.so_far ∙ was in
          let all : records_in ((parts ++ text ∷ []) ++ more ∷ [])
          ≡ records_in (parts ++ text ∷ []) ++ records_of more =
          flat_map-append records_of (parts ++ text ∷ []) (more ∷ [])
          ∙ ap (λ (rs : List (List ℕ)). records_in (parts ++ text ∷ []) ++ rs)
          (append-nil (records_of more)) in
          rw (rows, now, all)
          (sym (map-append (row_of table) (records_in (parts ++ text ∷ [])) (records_of more)));
    }

-- a piece is what stands before its lines, these, and what stands behind them
pub piece_is : (piece : List ℕ) (first behind : ℕ) → AreLinesOf piece first behind
    → take first piece ++ (take (behind - first) (drop first piece) ++ drop behind piece) ≡ piece
piece_is piece first behind cut =
    let index : first + (behind - first) ≡ behind = omega (arith, cut.order) in
    let rest : drop behind piece ≡ drop (behind - first) (drop first piece) =
    sym (drop-drop (behind - first) first piece ∙ ap (λ (n : ℕ). drop n piece) index) in
    rw rest
    (ap (λ (bytes : List ℕ). take first piece ++ bytes)
    (take-append-drop (behind - first) (drop first piece))
    ∙ take-append-drop first piece)

-- a fault that is the first stays so
pub fault_on : (table : TableId) (most : ℕ) (parts : List (List ℕ)) (text bytes : List ℕ)
    (f : ReadFault) → IsFaultOf table most parts text f
    → IsFaultOf table most parts (text ++ bytes) f
fault_on table most parts text bytes f h = λ more later.
    rw (append_assoc text bytes more) (h (bytes ++ more) later)

-- a text, and behind it the parts of a piece
text_is : (text piece : List ℕ) (first behind : ℕ) → AreLinesOf piece first behind
    → text ++ take first piece ++ take (behind - first) (drop first piece) ++ drop behind piece
    ≡ text ++ piece
text_is text piece first behind cut =
    append_assoc (text ++ take first piece) (take (behind - first) (drop first piece))
    (drop behind piece)
    ∙ append_assoc text (take first piece)
    (take (behind - first) (drop first piece) ++ drop behind piece)
    ∙ ap (λ (bytes : List ℕ). text ++ bytes) (piece_is piece first behind cut)

-- a fault of the lines of a piece is the first of the piece
pub piece_faulty : (table : TableId) (most : ℕ) (parts : List (List ℕ)) (text piece : List ℕ)
    (first behind : ℕ) (f : ReadFault) → AreLinesOf piece first behind
    → IsFaultOf table most parts (text ++ take first piece
    ++ take (behind - first) (drop first piece)) f → IsFaultOf table most parts (text ++ piece) f
piece_faulty table most parts text piece first behind f cut h =
    rw (text_is text piece first behind cut)
    at (fault_on table most parts
    (text ++ take first piece ++ take (behind - first) (drop first piece)) (drop behind piece) f h)

-- a piece has been read in three
pub piece_on : (table : TableId) (most : ℕ) (parts : List (List ℕ)) (progress : Progress)
    (columns : List RawColumn) (text piece : List ℕ) (first behind : ℕ)
    → AreLinesOf piece first behind
    → IsPartway table most parts (text ++ take first piece
    ++ take (behind - first) (drop first piece) ++ drop behind piece) progress columns
    → IsPartway table most parts (text ++ piece) progress columns
piece_on table most parts progress columns text piece first behind cut h =
    rw (text_is text piece first behind cut) at h
