-- What a reader of a table in pieces begins with, and answers.
use Rattle.std.{proofs.Common.{◌≡◌, ◌+◌, ◌≤◌, ◌∙◌, ℕ, List, [], ◌∷◌, ◌++◌, Bool, true, false, Option, Some, None, length, map, refl, sym, ap, inl, inr, append_assoc, arith}, proofs.lemmas.Bool.true≢false, proofs.lemmas.Grind.flat_map-append, proofs.lemmas.List.append-nil, specs.Prelude.{is_some, MatchOption}, specs.Option.option_or}
use Rattle.star_common.specs.{Memory.UnlessMemory, First.first_answer}
use Rattle.star_schema.{specs.declared.table.TableId.TableId, specs.Records.{pieces, records_in, records_of}, specs.Schema.kinds_of, specs.Tables.{IsTable, row_of, rows_of}, proofs.Indexes.width_few}
use Rattle.star_reader.{specs.Partway.{HasRead, IsFaultOf, IsPartway, Reading, left_fault, parts_with}, specs.declared.column.RawColumn.RawColumn, specs.declared.fault.ReadFault.ReadFault, specs.declared.progress.Progress.Progress, specs.Columns.{AreColumnsOf, first_rows, values}, specs.Faults.{part_fault, parts_fault, text_fault}, specs.Carried.StandsFor, specs.Private.Sound.IsSoundReader, specs.declared.table_reader.TableReader.TheInside.Inside, proofs.Law.{refused, table_sound, width_kinds}, proofs.PieceSteps.as_wide}
use Rattle.star_reader.specs.declared.fault.ReadFault.TheVariants as fault

pub none_of : {X : Type 0} (o : Option X) → is_some o ≡ false → o ≡ None
none_of None h = refl
none_of (Some x) h = absurd (true≢false h)

pub few_columns : {table : TableId} {rows : ℕ} {columns : List RawColumn}
    → AreColumnsOf table rows columns → length columns ≤ 17
few_columns {table} full =
    omega (arith, width_few table, width_kinds table, as_wide full)

-- nothing was read yet
pub begun : (table : TableId) (most : ℕ) (progress : Progress) (columns : List RawColumn)
    → AreColumnsOf table 0 columns → progress.rows ≡ 0 → StandsFor (kinds_of table) progress.line []
    → progress.is_start ≡ true → IsPartway table most [] [] progress columns
unfolding parts_fault first_rows
begun table most progress columns empty rows stands start = record {
  of_table = rw rows empty;
  few = rw rows (omega arith);
  carried = [];
  of_text = omega arith;
  stands = stands;
  inner = refl;
  no_fault = λ more later. rw (rows, start) refl;
  so_far = λ more. rw rows (ap (map (row_of table)) (sym (append-nil (records_of more))));
}

-- a part without a byte has no fault
no_part : (table : TableId) (most from : ℕ) (parts : List (List ℕ))
    → parts_fault table most from (parts ++ [] ∷ []) ≡ parts_fault table most from parts
unfolding parts_fault part_fault first_answer pieces
no_part table most from [] = refl
no_part table most from (part ∷ parts) =
    ap (option_or (part_fault table most from part))
    (no_part table most (from + length (records_of part)) parts)

no_records : (parts : List (List ℕ)) → records_in (parts ++ [] ∷ []) ≡ records_in parts
unfolding pieces
no_records parts = flat_map-append records_of parts ([] ∷ []) ∙ append-nil (records_in parts)

-- what is answered of parts is answered of those that count
counted_fault : (table : TableId) (most : ℕ) (parts : List (List ℕ)) (text : List ℕ)
    → text_fault table most (parts ++ text ∷ []) ≡ text_fault table most (parts_with parts text)
counted_fault table most parts [] = no_part table most 1 parts
counted_fault table most parts (b ∷ text) = refl

counted_records : (parts : List (List ℕ)) (text : List ℕ)
    → records_in (parts ++ text ∷ []) ≡ records_in (parts_with parts text)
counted_records parts [] = no_records parts
counted_records parts (b ∷ text) = refl

-- the first fault of what came
pub at_fault : (table : TableId) (most : ℕ) (parts : List (List ℕ)) (text : List ℕ) (f : ReadFault)
    → IsFaultOf table most (parts ++ text ∷ []) [] f
    → (text_fault table most (parts_with parts text) ≡ Some f)
    × ¬ IsTable table most (parts_with parts text)
at_fault table most parts text f h =
    refused table most (parts_with parts text) f
    (sym (counted_fault table most parts text)
    ∙ sym (no_part table most 1 (parts ++ text ∷ [])) ∙ h [] [])

-- one step of a reader that had no fault
pub sound_step : (before after : Inside) (columns : List RawColumn)
    → before.fault ≡ None → after.fault ≡ before.fault → after.table ≡ before.table
    → after.most ≡ before.most → after.columns.items ≡ columns
    → ((parts : List (List ℕ)) (text : List ℕ)
    → IsPartway before.table before.most parts text before.progress before.columns.items
    → (later : List (List ℕ)) × (more : List ℕ)
    × IsPartway before.table before.most later more after.progress columns)
    → IsSoundReader before → IsSoundReader after
sound_step before after columns none same table limit are step sound =
    let (parts, text, h) = rw none at sound.partway in
    let (later, more, next) = step parts text h in
    record {
      few = rw are (few_columns next.of_table);
      partway = rw (same, none, table, limit, are) (later, more, next);
    }

-- a fault stays the first
pub still_faulty : (reader : Reading) (table : TableId) (most : ℕ) (parts later : List (List ℕ))
    (text more : List ℕ) → is_some reader.fault ≡ true
    → ((f : ReadFault) → IsFaultOf reader.table reader.most parts text f
    → IsFaultOf reader.table reader.most later more f)
    → HasRead reader table most parts text → HasRead reader table most later more
still_faulty reader table most parts later text more some on h = record {
  of_table = h.of_table;
  limit = h.limit;
  come = go reader.fault some h.come;
}
  where
    go : (found : Option ReadFault) → is_some found ≡ true
        → MatchOption found
        (IsPartway reader.table reader.most parts text reader.progress reader.columns)
        (λ f. UnlessMemory fault.OutOfMemory f (IsFaultOf reader.table reader.most parts text f))
        → MatchOption found
        (IsPartway reader.table reader.most later more reader.progress reader.columns)
        (λ f. UnlessMemory fault.OutOfMemory f (IsFaultOf reader.table reader.most later more f))
    go None bad come = absurd (true≢false (sym bad))
    go (Some f) some come = elim come [ inl memory ↦ inl memory | inr first ↦ inr (on f first) ]

-- a step found the first fault
pub step_faulty : (before after : Reading) (table : TableId) (most : ℕ)
    (parts later : List (List ℕ)) (text more : List ℕ) (f : ReadFault) → before.fault ≡ None
    → after.table ≡ before.table → after.most ≡ before.most → after.fault ≡ Some f
    → (IsPartway before.table before.most parts text before.progress before.columns
    → UnlessMemory fault.OutOfMemory f (IsFaultOf before.table before.most later more f))
    → HasRead before table most parts text → HasRead after table most later more
step_faulty before after table most parts later text more f none same limit found step h =
    let was = rw none at h.come in
    record {
      of_table = same ∙ h.of_table;
      limit = limit ∙ h.limit;
      come = rw (found, same, limit) (step was);
    }

-- a step found no fault
pub step_fine : (before after : Reading) (table : TableId) (most : ℕ)
    (parts later : List (List ℕ)) (text more : List ℕ) (columns : List RawColumn)
    → before.fault ≡ None → after.table ≡ before.table → after.most ≡ before.most
    → after.fault ≡ before.fault → after.columns ≡ columns
    → (IsPartway before.table before.most parts text before.progress before.columns
    → IsPartway before.table before.most later more after.progress columns)
    → HasRead before table most parts text → HasRead after table most later more
step_fine before after table most parts later text more columns none same limit still are step h =
    let was = rw none at h.come in
    record {
      of_table = same ∙ h.of_table;
      limit = limit ∙ h.limit;
      come = rw (still, none, same, limit, are) (step was);
    }

-- a fault of what is open is one of the part that ends
pub part_fault_on : (table : TableId) (most : ℕ) (parts : List (List ℕ)) (text : List ℕ)
    (f : ReadFault) → IsFaultOf table most parts text f
    → IsFaultOf table most (parts ++ text ∷ []) [] f
part_fault_on table most parts text f h = λ more later.
    rw (append_assoc parts (text ∷ []) (more ∷ later))
    (rw (append-nil text) at (h [] (more ∷ later)))

no_bytes : (bytes : List ℕ) → length bytes ≤ 0 → bytes ≡ []
no_bytes [] h = refl
no_bytes (b ∷ bytes) h = absurd (omega (arith, h))

nothing_left : (is_start : Bool) (table : TableId) (most from : ℕ)
    → left_fault is_start table most from [] ≡ None
unfolding part_fault first_answer pieces
nothing_left false table most from = refl
nothing_left true table most from = refl

-- the parts have ended, and no fault was found
all_read : (table : TableId) (most : ℕ) (parts : List (List ℕ)) (progress : Progress)
    (columns : List RawColumn) → IsPartway table most parts [] progress columns
    → (text_fault table most parts ≡ None)
    × (first_rows progress.rows (map values columns) ≡ map (row_of table) (records_in parts))
unfolding parts_fault pieces
all_read table most parts progress columns h =
    let none = no_bytes h.carried h.of_text in
    let fine : text_fault table most (parts ++ [] ∷ []) ≡ None =
    h.no_fault [] [] ∙ rw (none, nothing_left progress.is_start table most (progress.rows + 1)) refl
    in
    let rows : first_rows progress.rows (map values columns)
    ≡ map (row_of table) (records_in (parts ++ [] ∷ [])) =
    sym (append-nil (first_rows progress.rows (map values columns)))
    ∙ rw none at (h.so_far []) in (
      sym (no_part table most 1 parts) ∙ fine,
      rows ∙ ap (map (row_of table)) (no_records parts),
    )

-- the table that came
pub at_end : (table : TableId) (most : ℕ) (parts : List (List ℕ)) (text : List ℕ)
    (progress : Progress) (columns : List RawColumn)
    → IsPartway table most (parts ++ text ∷ []) [] progress columns
    → IsTable table most (parts_with parts text)
    × (first_rows progress.rows (map values columns) ≡ rows_of table (parts_with parts text))
at_end table most parts text progress columns h =
    let all = all_read table most (parts ++ text ∷ []) progress columns h in (
      table_sound table most (parts_with parts text)
          (sym (counted_fault table most parts text) ∙ all.0),
      all.1 ∙ ap (map (row_of table)) (counted_records parts text),
    )

-- what a reader with a fault answers
pub fault_answered : (reader : Reading) (table : TableId) (most : ℕ) (parts : List (List ℕ))
    (text : List ℕ) (f : ReadFault) → reader.fault ≡ Some f
    → HasRead reader table most (parts ++ text ∷ []) []
    → UnlessMemory fault.OutOfMemory f ((text_fault table most (parts_with parts text) ≡ Some f)
    × ¬ IsTable table most (parts_with parts text))
fault_answered reader table most parts text f is h = elim (rw is at h.come) [
  | inl memory ↦ inl memory
  | inr first ↦ inr (at_fault table most parts text f (rw (h.of_table, h.limit) at first))
]

-- what a reader without one answers
pub table_answered : (reader : Reading) (table : TableId) (most : ℕ) (parts : List (List ℕ))
    (text : List ℕ) → reader.fault ≡ None → HasRead reader table most (parts ++ text ∷ []) []
    → IsTable table most (parts_with parts text)
    × (first_rows reader.progress.rows (map values reader.columns)
    ≡ rows_of table (parts_with parts text))
table_answered reader table most parts text is h =
    at_end table most parts text reader.progress reader.columns
    (rw (h.of_table, h.limit) at (rw is at h.come))
