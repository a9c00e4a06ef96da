-- One more byte of an open line.
use Rattle.std.{proofs.Common.{◌≡◌, ◌⊎◌, ◌+◌, ◌<◌, ◌≤◌, ◌∙◌, ℕ, List, [], ◌∷◌, ◌++◌, true, false, length, refl, sym, ap, inl, inr, arith, append_assoc}, proofs.lemmas.Bool.{and_parts, cases_Bool, eqb-true}, proofs.lemmas.List.length-append, specs.Prelude.{◌==◌, nat_eq}, specs.List.{slice_get, starts_with}}
use Rattle.star_schema.specs.{Records.{fields_of, is_bar, is_filled, pieces, with_first}, declared.column.Kind.Kind, Tables.{cells_of, ends_in_bar, is_empty_field}}
use Rattle.star_reader.{specs.Faults.byte_order_mark, specs.Carried.{AreOneRecord, StandsFor, run_from}, specs.Private.Open.HasKeptByte, specs.declared.open_line.OpenLine.OpenLine, proofs.Cuts.pieces_cut, proofs.AlikeLines.{alike_record, long_alike, miscounted_both}}

same_line : (ks : List Kind) (a : List ℕ) → AreOneRecord ks a a
same_line ks a = record { fault = λ at_row. refl; values = λ at_row none. refl }

then_line : (ks : List Kind) (a b c : List ℕ) → AreOneRecord ks a b → AreOneRecord ks b c
    → AreOneRecord ks a c
then_line ks a b c first second = record {
  fault = λ at_row. first.fault at_row ∙ second.fault at_row;
  values = λ at_row none. first.values at_row none
      ∙ second.values at_row (sym (first.fault at_row) ∙ none);
}

pub fresh : (ks : List Kind) (line : OpenLine) → line.kept.items ≡ [] → line.bars ≡ 0 → line.run ≡ 0
    → StandsFor ks line []
unfolding pieces
fresh ks line none bars run = record {
  bars = rw (none, bars) (omega arith);
  run = rw run (omega arith);
  same = λ more. rw none (same_line ks more);
  filled = rw none refl;
  mark = λ more. rw none refl;
}

first_count : (b : ℕ) (ps : List (List ℕ)) → length ps ≤ length (with_first b ps)
first_count b [] = omega arith
first_count b (p ∷ ps) = omega arith

first_count_up : (b : ℕ) (ps qs : List (List ℕ)) → length ps ≤ length qs
    → length (with_first b ps) ≤ length (with_first b qs)
first_count_up b [] [] h = omega arith
first_count_up b [] (q ∷ qs) h = omega arith
first_count_up b (p ∷ ps) [] h = absurd (omega (arith, h))
first_count_up b (p ∷ ps) (q ∷ qs) h = h

some_field : (text : List ℕ) → 1 ≤ length (fields_of text)
unfolding pieces
some_field [] = omega arith
some_field (b ∷ text) = elim (cases_Bool (is_bar b)) [
  | inl bar ↦ rw bar (omega arith)
  | inr plain ↦ rw plain
      (omega (arith, first_count b (pieces is_bar text), some_field text))
]

-- a line that goes on has no fewer fields
fields_grow : (a more : List ℕ) → length (fields_of a) ≤ length (fields_of (a ++ more))
unfolding pieces
fields_grow [] more = some_field more
fields_grow (b ∷ a) more = elim (cases_Bool (is_bar b)) [
  | inl bar ↦ rw bar (omega (arith, fields_grow a more))
  | inr plain ↦ rw plain
      (first_count_up b (pieces is_bar a) (pieces is_bar (a ++ more)) (fields_grow a more))
]

bar_count : (a : List ℕ) (b : ℕ) → is_bar b ≡ true
    → length (fields_of (a ++ b ∷ [])) ≡ length (fields_of a) + 1
unfolding pieces
bar_count a b bar =
    ap length (pieces_cut is_bar a b [] bar) ∙ length-append (fields_of a) ([] ∷ [])

run_bar : (n : ℕ) (a : List ℕ) (b : ℕ) → is_bar b ≡ false
    → run_from n (a ++ b ∷ []) ≡ run_from n a + 1
unfolding run_from
run_bar n [] b plain = rw plain refl
run_bar n (c ∷ a) b plain = elim (cases_Bool (is_bar c)) [
  | inl bar ↦ rw bar (run_bar 0 a b plain)
  | inr other ↦ rw other (run_bar (n + 1) a b plain)
]

filled_more : (a : List ℕ) (b : ℕ) → is_filled (a ++ b ∷ []) ≡ true
filled_more [] b = refl
filled_more (c ∷ a) b = refl

-- one more byte that was kept
pub kept_byte : (ks : List Kind) (old new : OpenLine) (bytes : List ℕ) (b : ℕ)
    → StandsFor ks old bytes → HasKeptByte b old new → StandsFor ks new (bytes ++ b ∷ [])
kept_byte ks old new bytes b h kept = record {
  bars = rw kept.kept (elim (cases_Bool (is_bar b)) [
    | inl bar ↦
        let few : new.bars ≤ old.bars + 1 = rw bar at kept.bars in
        omega (arith, few, h.bars, bar_count old.kept.items b bar)
    | inr plain ↦
        let few : new.bars ≤ old.bars = rw plain at kept.bars in
        omega (arith, few, h.bars, fields_grow old.kept.items (b ∷ []))
  ]);
  run = rw kept.kept (elim (cases_Bool (is_bar b)) [
    | inl bar ↦
        let few : new.run ≤ 0 = rw bar at kept.run in
        omega (arith, few)
    | inr plain ↦
        let few : new.run ≤ old.run + 1 = rw plain at kept.run in
        omega (arith, few, h.run, run_bar 0 old.kept.items b plain)
  ]);
  same = λ more. rw (
    kept.kept,
    append_assoc old.kept.items (b ∷ []) more,
    append_assoc bytes (b ∷ []) more,
  ) (h.same (b ∷ more));
  filled = rw (kept.kept, filled_more old.kept.items b, filled_more bytes b) refl;
  mark = λ more. rw (
    kept.kept,
    append_assoc old.kept.items (b ∷ []) more,
    append_assoc bytes (b ∷ []) more,
  ) (h.mark (b ∷ more));
}

filled_some : (a : List ℕ) → 1 ≤ length a → is_filled a ≡ true
filled_some [] h = absurd (omega (arith, h))
filled_some (b ∷ a) h = refl

-- a mark lies within three bytes
mark_on : (a more later : List ℕ) → 3 ≤ length a
    → starts_with nat_eq (a ++ more) byte_order_mark
    ≡ starts_with nat_eq (a ++ later) byte_order_mark
mark_on [] more later h = absurd (omega (arith, h))
mark_on (b ∷ []) more later h = absurd (omega (arith, h))
mark_on (b ∷ c ∷ []) more later h = absurd (omega (arith, h))
mark_on (b ∷ c ∷ d ∷ a) more later h = refl

-- as many fields as that are too many
many_cells : (width : ℕ) (fields : List (List ℕ)) → width + 2 ≤ length fields
    → length (cells_of width fields) ≡ width → ⊥
many_cells width fields many all = elim (cases_Bool (ends_in_bar width fields)) [
  | inl bar ↦
      let parts = and_parts (length fields == width + 1)
      (is_empty_field (slice_get fields width)) bar in
      let one = eqb-true (length fields) (width + 1) parts.0 in
      omega (arith, many, one)
  | inr plain ↦
      let same : length fields ≡ width = rw plain at all in
      omega (arith, many, same)
]

-- a line is the same record without a byte behind too many fields
many_fields : (ks : List Kind) (a more later : List ℕ) → length ks + 2 ≤ length (fields_of a)
    → AreOneRecord ks (a ++ more) (a ++ later)
many_fields ks a more later many =
    miscounted_both ks (a ++ more) (a ++ later)
    (many_cells (length ks) (fields_of (a ++ more)) (omega (arith, many, fields_grow a more)))
    (many_cells (length ks) (fields_of (a ++ later)) (omega (arith, many, fields_grow a later)))

-- one more byte on which nothing hangs
pub dropped_byte : (ks : List Kind) (line : OpenLine) (bytes : List ℕ) (b : ℕ)
    → StandsFor ks line bytes → 256 ≤ length line.kept.items
    → (length ks < line.bars) ⊎ ((is_bar b ≡ false) × (256 ≤ line.run))
    → StandsFor ks line (bytes ++ b ∷ [])
dropped_byte ks line bytes b h long why = record {
  bars = h.bars;
  run = h.run;
  same = λ more. rw (append_assoc bytes (b ∷ []) more)
      (then_line ks (line.kept.items ++ more) (line.kept.items ++ b ∷ more) (bytes ++ b ∷ more)
      (without more) (h.same (b ∷ more)));
  filled = filled_some line.kept.items (omega (arith, long)) ∙ sym (filled_more bytes b);
  mark = λ more. rw (append_assoc bytes (b ∷ []) more)
      (mark_on line.kept.items more (b ∷ more) (omega (arith, long)) ∙ h.mark (b ∷ more));
}
  where
    without : (more : List ℕ)
        → AreOneRecord ks (line.kept.items ++ more) (line.kept.items ++ b ∷ more)
    without more = elim why [
      | inl many ↦
          many_fields ks line.kept.items more (b ∷ more) (omega (arith, many, h.bars))
      | inr plain ↦
          alike_record ks (line.kept.items ++ more) (line.kept.items ++ b ∷ more)
          (long_alike 0 line.kept.items b more plain.0 (omega (arith, plain.1, h.run)))
    ]
