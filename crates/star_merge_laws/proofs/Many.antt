-- Tables that are too long together have that fault, and no other before it.
use Rattle.std.proofs.Common.{◌≡◌, ◌∙◌, ℕ, suc, ◌+◌, ◌<◌, ◌≤◌, true, false, List, [], ◌∷◌, ◌++◌, Some, None, All, length, refl, sym, ap, arith, inl, inr}
use Rattle.star_merge_laws.proofs.Common.{All-head, All-tail, AllByRecursion, Customer, Date, IsLoadable, IsLoadablePart, IsRecordOf, Kind, Lineorder, LineorderPart, Part, Supplier, TableId, TableTexts, TooManyRows, and_parts, are_cells, byte_order_mark, cases_Bool, cases_lt, cell_complete, cells_fault, cells_of, fields_of, first_answer, kinds_of, le-ltb, length-append, load_fault, ltb-false, nat_eq, nat_lt, or_none, part_fault, parts_fault, record_fault, records_fault, records_in, records_of, records_sound, right_count, starts_with, table_complete, table_fault, table_none, tables_fault, text_fault, whole_text, width_kinds, with_lineorder_text}
use Rattle.star_reader.specs.declared.fault.ReadFault.TheVariants as fault

-- ---- a record of a table has no fault, whatever its number (as in star_reader's proofs, where it
-- isn't exported)

cells_fine : (at_row from : ℕ) (ks : List Kind) (cells : List (List ℕ)) → are_cells ks cells ≡ true
    → (length cells ≡ length ks) × (cells_fault at_row from ks cells ≡ None)
unfolding first_answer
cells_fine at_row from [] [] e = (refl, refl)
cells_fine at_row from [] (cell ∷ cells) e = cc
cells_fine at_row from (k ∷ ks) [] e = cc
cells_fine at_row from (k ∷ ks) (cell ∷ cells) e =
    let parts = and_parts _ _ e in
    let rest = cells_fine at_row (from + 1) ks cells parts.1 in
    (ap suc rest.0, rw (cell_complete at_row from k cell parts.0) rest.1)

record_fine : (t : TableId) (at_row : ℕ) (line : List ℕ) → IsRecordOf t line
    → record_fault (kinds_of t) at_row (fields_of line) ≡ None
record_fine t at_row line e =
    let h : are_cells (kinds_of t) (cells_of (length (kinds_of t)) (fields_of line)) ≡ true =
    rw (width_kinds t) e in
    let both = cells_fine at_row 1 (kinds_of t)
    (cells_of (length (kinds_of t)) (fields_of line)) h in
    right_count (kinds_of t) at_row (fields_of line) both.0 ∙ both.1

module _ (t : TableId) (most : ℕ) where
  records_fine : (from : ℕ) (lines : List (List ℕ)) → length lines + from ≤ most + 1
      → All (IsRecordOf t) lines → records_fault t most from lines ≡ None
  unfolding first_answer
  records_fine from [] h all = refl
  records_fine from (line ∷ lines) h all =
      let within : nat_lt most from ≡ false = le-ltb most from (omega (arith, h)) in
      let here = record_fine t from line (All-head (IsRecordOf t) line lines all) in
      rw (within, here)
      (records_fine (from + 1) lines (omega (arith, h)) (All-tail (IsRecordOf t) line lines all))

  records_many : (from : ℕ) (lines : List (List ℕ)) → from ≤ most + 1
      → most + 1 < length lines + from → All (IsRecordOf t) lines
      → records_fault t most from lines ≡ Some fault.TooManyRows
  unfolding first_answer
  records_many from [] h many all = absurd (omega (arith, h, many))
  records_many from (line ∷ lines) h many all = elim (cases_Bool (nat_lt most from)) [
    | inl over ↦ rw over refl
    | inr within ↦
        let small = ltb-false most from within in
        let here = record_fine t from line (All-head (IsRecordOf t) line lines all) in
        rw (within, here)
        (records_many (from + 1) lines (omega (arith, small)) (omega (arith, many))
        (All-tail (IsRecordOf t) line lines all))
  ]

  -- a piece of text that begins with no mark, and all records of which are the table's
  abbrev Fine : List ℕ → Type 0
  Fine piece = (starts_with nat_eq piece byte_order_mark ≡ false)
      × All (IsRecordOf t) (records_of piece)

  part_is : (from : ℕ) (piece : List ℕ) → starts_with nat_eq piece byte_order_mark ≡ false
      → part_fault t most from piece ≡ records_fault t most from (records_of piece)
  unfolding part_fault
  part_is from piece e = rw e refl

  no_mark : (from : ℕ) (piece : List ℕ) → part_fault t most from piece ≡ None
      → starts_with nat_eq piece byte_order_mark ≡ false
  unfolding part_fault
  no_mark from piece e = grind (arith, cases_Bool)

  fine_pieces : (from : ℕ) (pieces : List (List ℕ)) → from ≤ most + 1
      → parts_fault t most from pieces ≡ None → AllByRecursion Fine pieces
  unfolding parts_fault
  fine_pieces from [] h e = tt
  fine_pieces from (piece ∷ pieces) h e =
      let both = or_none (part_fault t most from piece)
      (parts_fault t most (from + length (records_of piece)) pieces) e in
      let none = no_mark from piece both.0 in
      let sound = records_sound t most from (records_of piece) h
      (sym (part_is from piece none) ∙ both.0) in
      let fits = sound.0 in (
        (none, sound.1),
        fine_pieces (from + length (records_of piece)) pieces (omega (arith, fits)) both.1,
      )

  pieces_many : (from : ℕ) (pieces : List (List ℕ)) → from ≤ most + 1
      → most + 1 < length (records_in pieces) + from → AllByRecursion Fine pieces
      → parts_fault t most from pieces ≡ Some fault.TooManyRows
  unfolding parts_fault
  pieces_many from [] h many all = absurd (omega (arith, h, many))
  pieces_many from (piece ∷ pieces) h many all =
      let here = length (records_of piece) in
      let count = length-append (records_of piece) (records_in pieces) in
      elim (cases_lt (most + 1) (here + from)) [
        | inl over ↦
            let first = part_is from piece all.0.0
            ∙ records_many from (records_of piece) h over all.0.1 in
            rw first refl
        | inr within ↦
            let first = part_is from piece all.0.0
            ∙ records_fine from (records_of piece) within all.0.1 in
            rw first (pieces_many (from + here) pieces (omega (arith, within))
            (omega (arith, many, count)) all.1)
      ]

-- ---- parts that can each be loaded

both_fine : (most : ℕ) (xs ys : List (List ℕ)) → AllByRecursion (Fine Lineorder most) xs
    → AllByRecursion (Fine Lineorder most) ys → AllByRecursion (Fine Lineorder most) (xs ++ ys)
both_fine most [] ys a b = b
both_fine most (x ∷ xs) ys a b = (a.0, both_fine most xs ys a.1 b)

whole_fine : (most : ℕ) (texts : TableTexts) (parts : List LineorderPart)
    → All (IsLoadablePart most texts) parts
    → AllByRecursion (Fine Lineorder most) (whole_text parts)
whole_fine most texts [] all = tt
whole_fine most texts (part ∷ parts) all =
    both_fine most part.text (whole_text parts)
    (fine_pieces Lineorder most 1 part.text (omega arith)
    (table_complete Lineorder most part.text
    ((All-head (IsLoadablePart most texts) part parts all).loadable.tables Lineorder)))
    (whole_fine most texts parts (All-tail (IsLoadablePart most texts) part parts all))

module _ (most : ℕ) (texts : TableTexts) (text : List (List ℕ)) where
  long_table : text_fault Lineorder most text ≡ Some fault.TooManyRows
      → table_fault Lineorder most text ≡ Some (TooManyRows Lineorder)
  long_table e = rw e refl

  -- the first fault is that of lineorder, where the dimensions have none
  first_fault : (some : List (List ℕ)) → IsLoadable most (with_lineorder_text texts some)
      → table_fault Lineorder most text ≡ Some (TooManyRows Lineorder)
      → load_fault most (with_lineorder_text texts text) ≡ Some (TooManyRows Lineorder)
  unfolding tables_fault first_answer
  first_fault some loads e =
      rw (
        table_none Date most (texts Date) (loads.tables Date) (loads.sound.distinct Date),
        table_none Customer most (texts Customer) (loads.tables Customer)
            (loads.sound.distinct Customer),
        table_none Supplier most (texts Supplier) (loads.tables Supplier)
            (loads.sound.distinct Supplier),
        table_none Part most (texts Part) (loads.tables Part) (loads.sound.distinct Part),
        e,
      ) refl

pub too_many : (most : ℕ) (texts : TableTexts) (part : LineorderPart) (parts : List LineorderPart)
    → All (IsLoadablePart most texts) (part ∷ parts)
    → most < length (records_in (whole_text (part ∷ parts)))
    → load_fault most (with_lineorder_text texts (whole_text (part ∷ parts)))
    ≡ Some (TooManyRows Lineorder)
too_many most texts part parts all many =
    first_fault most texts (whole_text (part ∷ parts)) part.text
    (All-head (IsLoadablePart most texts) part parts all).loadable
    (long_table most texts (whole_text (part ∷ parts))
    (pieces_many Lineorder most 1 (whole_text (part ∷ parts)) (omega arith) (omega (arith, many))
    (whole_fine most texts (part ∷ parts) all)))
