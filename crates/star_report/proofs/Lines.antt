-- The text of rows tells which rows they are.
use Rattle.std.{proofs.Common.{◌≡◌, ◌++◌, ◌∙◌, ℕ, List, [], ◌∷◌, ap, append_assoc, arith, length, length-append, map, refl, sym}, specs.List.{AllZip, flat_map, join_with_byte}, proofs.lemmas.List.append_cancel_left, proofs.lemmas.List.Elements.{All-head, All-tail}}
use Rattle.star_program.specs.declared.outcome.Cell.{Cell}
use Rattle.star_report.{specs.Columns.{AreRowsOf, ColumnKind, IsCellOfKind}, specs.Report.{cell_text, line_text, report_text, row_text}, proofs.Bytes.{Lacks, Lacks-append, split_first}, proofs.Cells.{cell_lacks_bar, cell_lacks_end, cell_same}}

abbrev fields_text : List Cell → List ℕ
fields_text row = join_with_byte 124 (map cell_text row)

abbrev IsRow : List ColumnKind → List Cell → Type 0
IsRow kinds row = AllZip IsCellOfKind kinds row

fields_lack_end : (kinds : List ColumnKind) (row : List Cell) → IsRow kinds row
    → Lacks 10 (fields_text row)
fields_lack_end [] [] h = tt
fields_lack_end [] (c ∷ cs) h = absurd h
fields_lack_end (k ∷ ks) [] h = absurd h
fields_lack_end (k ∷ []) (c ∷ []) h = cell_lacks_end k c h.0
fields_lack_end (k ∷ []) (c ∷ d ∷ cs) h = absurd h.1
fields_lack_end (k ∷ l ∷ ks) (c ∷ []) h = absurd h.1
fields_lack_end (k ∷ l ∷ ks) (c ∷ d ∷ cs) h =
    Lacks-append 10 (cell_text c) (124 ∷ fields_text (d ∷ cs)) (cell_lacks_end k c h.0)
    (λ e. absurd (omega arith), fields_lack_end (l ∷ ks) (d ∷ cs) h.1)

row_same : (kinds : List ColumnKind) (row other : List Cell) → IsRow kinds row → IsRow kinds other
    → fields_text row ≡ fields_text other → row ≡ other
row_same [] [] [] h g e = refl
row_same [] [] (d ∷ ds) h g e = absurd g
row_same [] (c ∷ cs) other h g e = absurd h
row_same (k ∷ ks) [] other h g e = absurd h
row_same (k ∷ ks) (c ∷ cs) [] h g e = absurd g
row_same (k ∷ []) (c ∷ []) (d ∷ []) h g e = ap (λ x. x ∷ []) (cell_same k c d h.0 g.0 e)
row_same (k ∷ []) (c ∷ []) (d ∷ d' ∷ ds) h g e = absurd g.1
row_same (k ∷ []) (c ∷ c' ∷ cs) (d ∷ ds) h g e = absurd h.1
row_same (k ∷ l ∷ ks) (c ∷ []) (d ∷ ds) h g e = absurd h.1
row_same (k ∷ l ∷ ks) (c ∷ c' ∷ cs) (d ∷ []) h g e = absurd g.1
row_same (k ∷ l ∷ ks) (c ∷ c' ∷ cs) (d ∷ d' ∷ ds) h g e =
    let parts = split_first 124 (cell_text c) (cell_text d) (fields_text (c' ∷ cs))
    (fields_text (d' ∷ ds)) (cell_lacks_bar k c h.0) (cell_lacks_bar k d g.0) e in
    let first = cell_same k c d h.0 g.0 parts.0 in
    let others = row_same (l ∷ ks) (c' ∷ cs) (d' ∷ ds) h.1 g.1 parts.1 in
    cc

line_ends : (row : List Cell) (rest : List ℕ) → row_text row ++ rest ≡ fields_text row ++ 10 ∷ rest
unfolding line_text
line_ends row rest = append_assoc (fields_text row) (10 ∷ []) rest

line_some : (row : List Cell) (rest : List ℕ) → row_text row ++ rest ≡ [] → ⊥
line_some row rest e = let long =
    ap length (sym (line_ends row rest) ∙ e) in
    omega (arith, long, length-append (fields_text row) (10 ∷ rest))

rows_same : (kinds : List ColumnKind) (rows others : List (List Cell)) → AreRowsOf kinds rows
    → AreRowsOf kinds others → flat_map row_text rows ≡ flat_map row_text others → rows ≡ others
rows_same kinds [] [] h g e = refl
rows_same kinds [] (o ∷ os) h g e = absurd (line_some o (flat_map row_text os) (sym e))
rows_same kinds (r ∷ rs) [] h g e = absurd (line_some r (flat_map row_text rs) e)
rows_same kinds (r ∷ rs) (o ∷ os) h g e =
    let row = All-head (IsRow kinds) r rs h in
    let other = All-head (IsRow kinds) o os g in
    let lines = sym (line_ends r (flat_map row_text rs)) ∙ e ∙ line_ends o (flat_map row_text os) in
    let parts = split_first 10 (fields_text r) (fields_text o) (flat_map row_text rs)
    (flat_map row_text os) (fields_lack_end kinds r row)
    (fields_lack_end kinds o other) lines in
    let first = row_same kinds r o row other parts.0 in
    let rest = rows_same kinds rs os (All-tail (IsRow kinds) r rs h)
    (All-tail (IsRow kinds) o os g) parts.1 in
    cc

-- one text has one meaning
pub report_same : (names : List (List ℕ)) (kinds : List ColumnKind) (rows others : List (List Cell))
    → AreRowsOf kinds rows → AreRowsOf kinds others
    → report_text names rows ≡ report_text names others → rows ≡ others
unfolding report_text
report_same names kinds rows others h g e =
    rows_same kinds rows others h g
    (append_cancel_left (line_text names) (flat_map row_text rows) (flat_map row_text others) e)
