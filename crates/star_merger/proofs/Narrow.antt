-- The values of the rows that a plan selects have 64 bits, if the plan fits.
use Rattle.std.{proofs.Common.{◌≡◌, ◌∙◌, ℕ, zero, suc, ◌≤◌, ◌^◌, ◌||◌, Bool, true, false, List, [], ◌∷◌, ap, arith, get_or, map, refl, subst, sym, true≢false}, proofs.lemmas.Bool.and_parts, proofs.lemmas.Int.ints, proofs.lemmas.List.Elements.{All-append, All-cons, All-filter, All-head, All-map, All-nil, All-tail}, specs.Prelude.{ℤ, pos, ◌≤ℤ◌, filter, if◌then◌else◌, slice_get, unsigned_abs}, specs.List.{All, flat_map, list_all}}
use Rattle.star_interval.{specs.Range.{Holds, Range, fits_i64, is_i64}, proofs.Products.products_held, proofs.Sums.{differences_held, sums_held}}
use Rattle.star_schema.{specs.declared.column.ColumnId.ColumnId, specs.declared.table.TableId.TableId, specs.declared.table.TableId.TheVariants.Lineorder, specs.Bounds.{greatest, least, number_in, numbers_at, numbers_of}, specs.Columns.bounds_in, specs.Schema.{is_table, kind_of, position_of, table_of}, specs.Tables.{Number, Value}, proofs.Extremes.{greatest_above, least_below}, proofs.Same.table_same}
use Rattle.star_query.specs.Tree.{Expression, Measure, add, column, constant, count, fold, mul, sub}
use Rattle.star_plan.specs.{declared.tree.Join.Join, Fits.expression_range, Fits.measure_fits, Fits.nodes_fit, Meaning.Joined, Meaning.Plan, Meaning.Row, Meaning.Tables, Meaning.entry_of, Meaning.joined_rows, Meaning.joined_value, Meaning.matches, Meaning.measured, Meaning.number_with, Meaning.partners, Meaning.plan_rows, Meaning.all_hold, Meaning.value_in, Meaning.value_number, Meaning.with_row, Names.same_kind, Sound.IsSoundPlan, Sound.expression_is_sound, Sound.in_scope, Sound.joins_table, Sound.measure_is_sound}
use Rattle.star_query_meaning.specs.Fitting.{PlanFitsTables}
use Rattle.star_schema.specs.declared.column.Kind.TheVariants as kind
use Rattle.star_merge.proofs.Reaches.{IsNarrow}
use Rattle.star_merger.proofs.TextParts.{all_unmapped}

-- ---- each column of a joined row is within its bounds

number_at : (row : Row) (index : ℕ)
    → number_in (slice_get row index) ≡ value_number (get_or row index (Number (pos 0)))
number_at [] index = refl
number_at (value ∷ row) zero = grind arith
number_at (value ∷ row) (suc index) = number_at row index

module _ (ts : Tables) (c : ColumnId) where
  abbrev IsHeld : Row → Type 0
  IsHeld row = Holds (bounds_in ts c) (value_number (value_in c row))

  abbrev HasHeld : Joined → Type 0
  HasHeld row = IsHeld (row (table_of c))

  column_held : All IsHeld (ts (table_of c))
  unfolding numbers_at
  column_held = λ k d within.
      let rows = ts (table_of c) in
      let numbers = numbers_of c rows in
      let number = λ (row : Row). number_in (slice_get row (position_of c)) in
      subst (Holds (bounds_in ts c)) (number_at (get_or rows k d) (position_of c)) (record {
        from = all_unmapped (λ z. least numbers ≤ℤ z) number rows (least_below numbers) k d within;
        to = all_unmapped (λ z. z ≤ℤ greatest numbers) number rows
            (greatest_above numbers) k d within;
      })

  if_own : (t : TableId) → All (λ d. is_table (table_of c) t ≡ true → IsHeld d) (ts t)
  if_own t = λ k d within same.
      subst (λ s. All IsHeld (ts s)) (table_same (table_of c) t same) column_held k d within

  each_held : (js : List Join) (t : TableId) (base : Joined)
      → ((row : Joined) → (joins_table js (table_of c) ≡ false → HasHeld row)
      → All HasHeld (partners ts js row))
      → (is_table (table_of c) t ≡ false → joins_table js (table_of c) ≡ false → HasHeld base)
      → (ds : List Row) → All (λ d. is_table (table_of c) t ≡ true → IsHeld d) ds
      → All HasHeld (flat_map (λ d. partners ts js (with_row base t d)) ds)
  each_held js t base more other [] own = All-nil HasHeld
  each_held js t base more other (d ∷ ds) own =
      All-append HasHeld (partners ts js (with_row base t d))
      (flat_map (λ d. partners ts js (with_row base t d)) ds)
      (more (with_row base t d) (by (is_table (table_of c) t) refl))
      (each_held js t base more other ds
      (All-tail (λ d. is_table (table_of c) t ≡ true → IsHeld d) d ds own))
    where
      by : (b : Bool) → is_table (table_of c) t ≡ b → joins_table js (table_of c) ≡ false
          → IsHeld (if b then d else base (table_of c))
      by true e none = All-head (λ d. is_table (table_of c) t ≡ true → IsHeld d) d ds own e
      by false e none = other e none

  partners_held : (js : List Join) (row : Joined)
      → (joins_table js (table_of c) ≡ false → HasHeld row) → All HasHeld (partners ts js row)
  partners_held [] row h = All-cons HasHeld row [] (h refl) (All-nil HasHeld)
  partners_held (j ∷ js) row h =
      each_held js (table_of j.key) row (partners_held js)
      (λ beside none. h (ap (λ b. b || joins_table js (table_of c)) beside ∙ none))
      (filter (matches row j) (ts (table_of j.key)))
      (All-filter (matches row j) (λ d. is_table (table_of c) (table_of j.key) ≡ true → IsHeld d)
      (ts (table_of j.key)) (if_own (table_of j.key)))

  joined_held : (js : List Join) → in_scope js (table_of c) ≡ true → All HasHeld (joined_rows ts js)
  joined_held js scope =
      each_held js Lineorder (λ s. []) (partners_held js)
      (λ beside none. absurd (true≢false (sym scope ∙ (λ i. beside i || none i)))) (ts Lineorder)
      (if_own Lineorder)

-- ---- each value is within its range

fits_narrow : (r : Range) (z : ℤ) → fits_i64 r ≡ true → Holds r z → unsigned_abs z ≤ 2 ^ 63
unfolding is_i64
fits_narrow r z fits held = grind (arith, ints, and_parts)

module _ (js : List Join) (bounds : ColumnId → Range) (values : ColumnId → Value)
    (held : (c : ColumnId) → in_scope js (table_of c) ≡ true
    → Holds (bounds c) (value_number (values c))) where
  number_held : (e : Expression ColumnId) → expression_is_sound js e ≡ true
      → Holds (expression_range bounds e) (number_with values e)
  number_held (column c) h =
      held c (and_parts (in_scope js (table_of c)) (same_kind (kind_of c) kind.Number) h).0
  number_held (constant z) h = record { from = omega (arith, ints); to = omega (arith, ints) }
  number_held (add a b) h =
      let parts = and_parts (expression_is_sound js a) (expression_is_sound js b) h in
      sums_held (expression_range bounds a) (expression_range bounds b) (number_with values a)
      (number_with values b) (number_held a parts.0) (number_held b parts.1)
  number_held (sub a b) h =
      let parts = and_parts (expression_is_sound js a) (expression_is_sound js b) h in
      differences_held (expression_range bounds a) (expression_range bounds b)
      (number_with values a)
      (number_with values b) (number_held a parts.0) (number_held b parts.1)
  number_held (mul a b) h =
      let parts = and_parts (expression_is_sound js a) (expression_is_sound js b) h in
      products_held (expression_range bounds a) (expression_range bounds b) (number_with values a)
      (number_with values b) (number_held a parts.0) (number_held b parts.1)

  range_fits : (e : Expression ColumnId) → nodes_fit bounds e ≡ true
      → fits_i64 (expression_range bounds e) ≡ true
  range_fits (column c) h = h
  range_fits (constant z) h = h
  range_fits (add a b) h = grind (arith, and_parts)
  range_fits (sub a b) h = grind (arith, and_parts)
  range_fits (mul a b) h = grind (arith, and_parts)

  measure_narrow : (m : Measure ColumnId) → measure_is_sound js m ≡ true
      → measure_fits bounds m ≡ true → unsigned_abs (measured values m) ≤ 2 ^ 63
  measure_narrow count sound fits = omega arith
  measure_narrow (fold f e) sound fits =
      fits_narrow (expression_range bounds e) (number_with values e) (range_fits e fits)
      (number_held e sound)

  values_narrow : (ms : List (Measure ColumnId)) → list_all (measure_is_sound js) ms ≡ true
      → list_all (measure_fits bounds) ms ≡ true → (index : ℕ)
      → unsigned_abs (get_or (map (measured values) ms) index (pos 0)) ≤ 2 ^ 63
  values_narrow [] sound fits index = omega arith
  values_narrow (m ∷ ms) sound fits zero = grind (arith, and_parts, measure_narrow m)
  values_narrow (m ∷ ms) sound fits (suc index) = grind (arith, and_parts, values_narrow ms)

pub rows_narrow : (most : ℕ) (ts : Tables) (p : Plan) → IsSoundPlan p → PlanFitsTables most ts p
    → All IsNarrow (map (entry_of p) (plan_rows ts p))
rows_narrow most ts p sound fits =
    All-map IsNarrow (entry_of p) (plan_rows ts p) (λ k d within.
    let row = get_or (plan_rows ts p) k d in
    values_narrow p.joins (bounds_in ts) (λ c. joined_value c row)
    (λ c scope. All-filter (all_hold p.conjuncts) (HasHeld ts c) (joined_rows ts p.joins)
    (joined_held ts c p.joins scope) k d within) p.measures sound.measures fits.nodes)
