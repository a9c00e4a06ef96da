-- Merged rows of plain reports are the answer over all parts.
use Rattle.std.{proofs.Common.{◌≡◌, ◌≢◌, ◌∙◌, AllPairs, append_assoc, ℕ, zero, suc, ◌+◌, ◌<◌, ◌^◌, Bool, true, false, List, [], ◌∷◌, ◌++◌, Option, Some, None, cond, drop, get_or, length, map, refl, sym, subst, ap, inl, inr, ⊎_elim, take, true≢false, arith}, proofs.lemmas.List.{length-append, length-map, length-replicate, map-append, map-id}, proofs.lemmas.List.Elements.{All-append, All-contains, All-cons, All-from_recursion, All-head, All-map, All-nil, All-tail}, specs.Prelude.{ℤ, pos, ◌+ℤ◌, filter, replicate}, specs.Int.{int_min, int_max}, specs.List.{All, Contains, flat_map, list_all}, specs.Option.is_some}
use Rattle.star_common.proofs.Members.{contains_cases, contains_none, map_agree, of_each}
use Rattle.star_schema.specs.{Groups.{AreGroups, Entry, GroupRow, IsMasked, aggregate, belongs, joined, joined_with, members, numbers_for, totals_from, totals_of}, declared.group.Aggregate.Aggregate, declared.group.Aggregate.TheVariants.{Sum, Count, Min, Max}, declared.group.GroupColumn.GroupColumn, declared.group.Shape.TheVariants.Plain, Database.Database, Order.value_cmp, Tables.{Value, Number, Text}}
use Rattle.star_plan.specs.{Meaning.Plan, Meaning.Row, Meaning.aggregate_of, Meaning.entry_of, Meaning.plan_rows, Sound.IsSoundPlan}
use Rattle.star_program.specs.{declared.outcome.Cell.Cell, RowCells.cell_of, RowCells.key_cell, RowCells.total_cell}
use Rattle.star_query_meaning.specs.Answers.{IsPlanAnswer, shown_name}
use Rattle.star_merge_laws.{specs.Merging.{AreMerged, IsPart, Part, all_groups, all_rows}, specs.Plain.{columns_at, plain_plan}, specs.Tables.{all_of, tables_with}, proofs.Merging.{belongs_of, merged_groups}, proofs.Rows.selected_of_parts, proofs.Values.{once_in_order, value_decides}}
use Rattle.star_merge.{proofs.Addends.map_twice, proofs.Reaches.{IsNarrow, parts_reach}, specs.Merged.{AreOfShape, ArePlainReports, AreSmall, IsFull, IsMergedRows, PlainReport, groups_shown, reach}, specs.Cells.{group_of, key_of, total_of}}
use Rattle.star_schema.specs.declared.group.GroupColumn.TheVariants as column

-- ---- cells of a group, and the group of its cells

key_back : (k : Option Value) → key_of (key_cell k) ≡ k
key_back None = refl
key_back (Some (Number z)) = refl
key_back (Some (Text text)) = refl

total_back : (t : Option ℤ) → total_of (total_cell t) ≡ t
total_back None = refl
total_back (Some z) = refl

keys_back : (ks : List (Option Value)) → map key_of (map key_cell ks) ≡ ks
keys_back [] = refl
keys_back (k ∷ ks) = λ i. key_back k i ∷ keys_back ks i

totals_back : (ts : List (Option ℤ)) → map total_of (map total_cell ts) ≡ ts
totals_back [] = refl
totals_back (t ∷ ts) = λ i. total_back t i ∷ totals_back ts i

module _ {V : Type 0} (cell : GroupColumn → Cell) (g : Option V → Cell) (column : ℕ → GroupColumn)
  where
    -- cells of all elements, by their positions
    cells_from : {X : Type 0} (before vs : List (Option V)) (xs : List X)
        → ((n : ℕ) → cell (column n) ≡ g (get_or (before ++ vs) n None)) → length xs ≡ length vs
        → map cell (columns_at column (length before) xs) ≡ map g vs
    cells_from before [] [] is long = refl
    cells_from before [] (x ∷ xs) is long = absurd (omega (arith, long))
    cells_from before (v ∷ vs) [] is long = absurd (omega (arith, long))
    cells_from before (v ∷ vs) (x ∷ xs) is long =
        λ i. (is (length before) ∙ ap g (at_end before v vs)) i
        ∷ (ap (λ n. map cell (columns_at column n xs)) (next before v)
        ∙ cells_from (before ++ v ∷ []) vs xs
        (λ n. is n ∙ ap (λ ws. g (get_or ws n None)) (sym (append_assoc before (v ∷ []) vs)))
        (omega (arith, long))) i
      where
        at_end : (before : List (Option V)) (v : Option V) (vs : List (Option V))
            → get_or (before ++ v ∷ vs) (length before) None ≡ v
        at_end [] v vs = refl
        at_end (b ∷ before) v vs = at_end before v vs

        next : (before : List (Option V)) (v : Option V)
            → length before + 1 ≡ length (before ++ v ∷ [])
        next before v = sym (length-append before (v ∷ []))

take_front : {X : Type 0} (xs ys : List X) → take (length xs) (xs ++ ys) ≡ xs
take_front [] ys = refl
take_front (x ∷ xs) ys = ap (λ zs. x ∷ zs) (take_front xs ys)

drop_front : {X : Type 0} (xs ys : List X) → drop (length xs) (xs ++ ys) ≡ ys
drop_front [] ys = refl
drop_front (x ∷ xs) ys = drop_front xs ys

group_back : {X Y : Type 0} (xs : List X) (ys : List Y) (group : GroupRow Value)
    → length xs ≡ length group.keys → length ys ≡ length group.totals
    → group_of (length xs)
    (map (cell_of group) (columns_at column.Key 0 xs ++ columns_at column.Aggregate 0 ys)) ≡ group
group_back xs ys group keys totals =
    let cells = map-append (cell_of group) (columns_at column.Key 0 xs)
    (columns_at column.Aggregate 0 ys)
    ∙ (λ i. cells_from (cell_of group) key_cell column.Key [] group.keys xs (λ n. refl) keys i
    ++ cells_from (cell_of group) total_cell column.Aggregate [] group.totals ys
    (λ n. refl) totals i) in
    let long = keys ∙ sym (length-map group.keys key_cell) in
    (λ i. group_of (long i) (cells i))
    ∙ (λ i. record {
      keys = (ap (map key_of) (take_front (map key_cell group.keys) (map total_cell group.totals))
          ∙ keys_back group.keys) i;
      totals = (ap (map total_of) (drop_front (map key_cell group.keys)
          (map total_cell group.totals))
          ∙ totals_back group.totals) i;
    })

-- ---- plain groups

same_long : (ms : List (Option Value)) (ks : List Value) → IsMasked ms ks → length ms ≡ length ks
same_long [] [] h = refl
same_long (Some m ∷ ms) (k ∷ ks) h = ap suc (same_long ms ks h.1)
same_long (None ∷ ms) (k ∷ ks) h = ap suc (same_long ms ks h)
same_long [] (k ∷ ks) h = absurd h
same_long (None ∷ ms) [] h = absurd h
same_long (Some m ∷ ms) [] h = absurd h

length_totals : (gs : List Aggregate) (index : ℕ) (rows : List (Entry Value))
    → length (totals_from gs index rows) ≡ length gs
length_totals [] index rows = refl
length_totals (g ∷ gs) index rows = ap suc (length_totals gs (index + 1) rows)

all_shown : (ks : List (Option Value)) → list_all is_some ks ≡ true
    → map is_some ks ≡ replicate (length ks) true
all_shown [] h = refl
all_shown (None ∷ ks) h = absurd (true≢false (sym h))
all_shown (Some k ∷ ks) h = ap (λ bs. true ∷ bs) (all_shown ks h)

some_joined : (f : ℤ → ℤ → ℤ) (x : ℤ) (o : Option ℤ) → is_some (joined_with f x o) ≡ true
some_joined f x None = refl
some_joined f x (Some y) = refl

some_aggregate : (g : Aggregate) (z : ℤ) (zs : List ℤ) → is_some (aggregate g (z ∷ zs)) ≡ true
some_aggregate Count z zs = refl
some_aggregate Sum z zs = some_joined (λ x y. x +ℤ y) z (joined (λ x y. x +ℤ y) zs)
some_aggregate Min z zs = some_joined int_min z (joined int_min zs)
some_aggregate Max z zs = some_joined int_max z (joined int_max zs)

some_totals : (gs : List Aggregate) (index : ℕ) (row : Entry Value) (rows : List (Entry Value))
    → map is_some (totals_from gs index (row ∷ rows)) ≡ map (λ g. true) gs
some_totals [] index row rows = refl
some_totals (g ∷ gs) index row rows =
    λ i. some_aggregate g (get_or row.values index (pos 0)) (numbers_for index rows) i
    ∷ some_totals gs (index + 1) row rows i

-- those that pass a test, where one does
totals_passed : (gs : List Aggregate) (p : Entry Value → Bool) (rows : List (Entry Value))
    (row : Entry Value) → Contains rows row → p row ≡ true
    → map is_some (totals_of gs (filter p rows)) ≡ map (λ g. true) gs
totals_passed gs p [] row c h = absurd (contains_none row c)
totals_passed gs p (first ∷ rows) row c h =
    by (p first) refl (λ later. totals_passed gs p rows row later h)
  where
    by : (b : Bool) → p first ≡ b
        → (Contains rows row → map is_some (totals_of gs (filter p rows)) ≡ map (λ g. true) gs)
        → map is_some (totals_of gs (cond b (first ∷ filter p rows) (filter p rows)))
        ≡ map (λ g. true) gs
    by true e more = some_totals gs 0 first (filter p rows)
    by false e more = more (⊎_elim {C = Contains rows row}
        (λ same. absurd (true≢false (sym h ∙ ap p (sym same) ∙ e))) (λ later. later)
        (contains_cases first rows row c))

module _ (count : ℕ) (gs : List Aggregate) (rows : List (Entry Value))
    (groups : List (GroupRow Value))
    (long : All (λ (row : Entry Value). length row.keys ≡ count) rows)
    (are : AreGroups value_cmp Plain count gs rows groups) where
  keys_long : (group : GroupRow Value) → Contains groups group → length group.keys ≡ count
  keys_long group c =
      ⊎_elim {C = length group.keys ≡ count}
      (λ of_row. same_long group.keys of_row.0.keys of_row.2
      ∙ All-contains (λ (row : Entry Value). length row.keys ≡ count) rows of_row.0 long of_row.1)
      (λ none. ap length none ∙ length-replicate count None)
      (are.each group c).0.1

  totals_long : (group : GroupRow Value) → Contains groups group → length group.totals ≡ length gs
  totals_long group c =
      ap length (are.each group c).1 ∙ length_totals gs 0 (members value_cmp group.keys rows)

  group_full : (n : ℕ) → count ≡ suc n → (group : GroupRow Value) → Contains groups group
      → IsFull count gs group
  group_full n some group c = record {
    keys = all_shown group.keys (are.each group c).0.0
        ∙ ap (λ k. replicate k true) (keys_long group c);
    totals = ap (map is_some) (are.each group c).1
        ∙ ⊎_elim {C = map is_some (totals_of gs (members value_cmp group.keys rows))
        ≡ map (λ g. true) gs}
        (λ of_row. totals_passed gs (λ row. belongs value_cmp group.keys row.keys) rows of_row.0
        of_row.1 (belongs_of value_cmp value_decides group.keys of_row.0.keys of_row.2))
        (λ none. absurd (true≢false (sym (sym (ap (list_all is_some)
        (none ∙ ap (λ k. replicate k None) some))
        ∙ (are.each group c).0.0))))
        (are.each group c).0.1;
  }

-- ---- plain reports

module _ (database : Database) (p : Plan) where
  abbrev count : ℕ
  count = length p.keys

  abbrev gs : List Aggregate
  gs = map aggregate_of p.measures

  abbrev IsReport : PlainReport → Type 0
  IsReport report =
      IsPlanAnswer (tables_with database report.lineorder) (plain_plan p) report.names report.rows

  abbrev entries : PlainReport → List (Entry Value)
  entries report = map (entry_of p) (plan_rows (tables_with database report.lineorder) p)

  abbrev shown : PlainReport → List (GroupRow Value)
  shown report = map (group_of count) report.rows

  long_keys : (report : PlainReport)
      → All (λ (row : Entry Value). length row.keys ≡ count) (entries report)
  long_keys report =
      All-map (λ (row : Entry Value). length row.keys ≡ count) (entry_of p)
      (plan_rows (tables_with database report.lineorder) p) (λ k d within. length-map p.keys _)

  -- what a report shows are its groups
  shown_groups : (report : PlainReport) (is : IsReport report) → shown report ≡ is.groups
  shown_groups report is =
      ap (map (group_of count)) is.cells
      ∙ map_twice (λ group. map (cell_of group) (plain_plan p).items) (group_of count) is.groups
      ∙ map_agree (λ group. group_of count (map (cell_of group) (plain_plan p).items))
      (λ group. group)
      is.groups (All-from_recursion (λ group.
      group_of count (map (cell_of group) (plain_plan p).items) ≡ group)
      is.groups (of_each (λ group. group_of count (map (cell_of group) (plain_plan p).items)
      ≡ group)
      is.groups (λ group c. group_back p.keys p.measures group
      (sym (keys_long count gs (entries report) is.groups (long_keys report) is.each_group group c))
      (sym (totals_long count gs (entries report) is.groups (long_keys report) is.each_group group c
      ∙ length-map p.measures aggregate_of)))))
      ∙ map-id is.groups

  of_count : (n : ℕ) → count ≡ n → (reports : List PlainReport) → ArePlainReports database p reports
      → AreOfShape count gs (groups_shown p reports)
  of_count zero none reports are = inl (none, empty reports)
    where
      first_none : (n : ℕ) (cells : List Cell) → n ≡ 0 → (group_of n cells).keys ≡ []
      first_none n cells e = ap (λ k. (group_of k cells).keys) e

      empty : (reports : List PlainReport)
          → All (λ (group : GroupRow Value). group.keys ≡ []) (groups_shown p reports)
      empty [] = All-nil (λ (group : GroupRow Value). group.keys ≡ [])
      empty (report ∷ reports) =
          All-append (λ (group : GroupRow Value). group.keys ≡ []) (shown report)
          (groups_shown p reports)
          (All-map (λ (group : GroupRow Value). group.keys ≡ []) (group_of count) report.rows
          (λ k d within. first_none count (get_or report.rows k d) none))
          (empty reports)
  of_count (suc n) some reports are = inr (full reports are)
    where
      full : (reports : List PlainReport) → ArePlainReports database p reports
          → All (IsFull count gs) (groups_shown p reports)
      full [] are = All-nil (IsFull count gs)
      full (report ∷ reports) are =
          let is = All-head IsReport report reports are in
          All-append (IsFull count gs) (shown report) (groups_shown p reports)
          (subst (All (IsFull count gs)) (sym (shown_groups report is))
          (All-from_recursion (IsFull count gs) is.groups (of_each (IsFull count gs) is.groups
          (group_full count gs (entries report) is.groups
          (long_keys report) is.each_group n some))))
          (full reports (All-tail IsReport report reports are))

  pub of_shape : (reports : List PlainReport) → ArePlainReports database p reports
      → AreOfShape count gs (groups_shown p reports)
  of_shape reports are = of_count count refl reports are

  -- ---- all parts

  abbrev part_of : PlainReport → Part Value
  part_of report = record { rows = entries report; groups = shown report }

  is_part : (report : PlainReport) → IsReport report → IsPart value_cmp count gs (part_of report)
  is_part report is = record {
    groups = subst (AreGroups value_cmp Plain count gs (entries report))
        (sym (shown_groups report is))
        is.each_group;
    once = subst (λ groups. AllPairs (λ a b. a.keys ≢ b.keys) groups) (sym (shown_groups report is))
        (once_in_order is.groups is.in_order);
  }

  are_parts : (reports : List PlainReport) → ArePlainReports database p reports
      → All (IsPart value_cmp count gs) (map part_of reports)
  are_parts [] are = All-nil (IsPart value_cmp count gs)
  are_parts (report ∷ reports) are =
      All-cons (IsPart value_cmp count gs) (part_of report) (map part_of reports)
      (is_part report (All-head IsReport report reports are))
      (are_parts reports (All-tail IsReport report reports are))

  groups_are : (reports : List PlainReport)
      → all_groups (map part_of reports) ≡ groups_shown p reports
  groups_are [] = refl
  groups_are (report ∷ reports) = ap (λ groups. shown report ++ groups) (groups_are reports)

  rows_are : IsSoundPlan p → (reports : List PlainReport)
      → all_rows (map part_of reports)
      ≡ map (entry_of p) (plan_rows (tables_with database
      (all_of (map (λ report. report.lineorder) reports))) p)
  rows_are sound reports =
      parted reports
      ∙ ap (map (entry_of p)) (sym (selected_of_parts database p sound.joins
      (map (λ report. report.lineorder) reports)))
    where
      parted : (reports : List PlainReport) → all_rows (map part_of reports)
          ≡ map (entry_of p) (flat_map (λ part. plan_rows (tables_with database part) p)
          (map (λ report. report.lineorder) reports))
      parted [] = refl
      parted (report ∷ reports) =
          ap (λ rows. entries report ++ rows) (parted reports)
          ∙ sym (map-append (entry_of p) (plan_rows (tables_with database report.lineorder) p)
          (flat_map (λ part. plan_rows (tables_with database part) p)
          (map (λ report. report.lineorder) reports)))

  -- fewer than 2^64 rows whose values have 64 bits have small totals
  pub reports_small : (reports : List PlainReport) (lines : List Row) → IsSoundPlan p
      → ArePlainReports database p reports
      → all_of (map (λ report. report.lineorder) reports) ≡ lines
      → let rows = plan_rows (tables_with database lines) p in
      length rows < 2 ^ 64 → All IsNarrow (map (entry_of p) rows)
      → AreSmall (groups_shown p reports)
  reports_small reports lines sound are same short narrow = λ index.
      let rows = rows_are sound reports
      ∙ ap (λ lines. map (entry_of p) (plan_rows (tables_with database lines) p)) same in
      omega (
        arith,
        short,
        ap length rows,
        length-map (plan_rows (tables_with database lines) p) (entry_of p),
        ap (reach index) (groups_are reports),
        parts_reach count gs index (map part_of reports) (are_parts reports are)
            (subst (All IsNarrow) (sym rows) narrow),
      )

  pub merged_answer : (reports : List PlainReport) (rows : List (List Cell)) → IsSoundPlan p
      → ArePlainReports database p reports
      → IsMergedRows p.shape count gs p.sorts p.items (groups_shown p reports) rows
      → IsPlanAnswer (tables_with database (all_of (map (λ report. report.lineorder) reports))) p
      (map (shown_name p) p.items) rows
  merged_answer reports rows sound are h = record {
    headed = refl;
    groups = h.groups;
    each_group = subst (λ entries. AreGroups value_cmp p.shape count gs entries h.groups)
        (rows_are sound reports)
        ((merged_groups value_cmp value_decides count gs p.shape (map part_of reports)
        (are_parts reports are) h.groups).0
        (subst (λ told. AreMerged value_cmp p.shape count gs told h.groups)
        (sym (groups_are reports))
        h.merged));
    in_order = h.in_order;
    cells = h.cells;
  }
