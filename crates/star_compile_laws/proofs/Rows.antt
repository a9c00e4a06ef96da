-- The joined rows are the fact's rows, each with the rows that are found for it.
use Rattle.std.{proofs.Common.{◌≡◌, ℕ, zero, suc, ◌+◌, ◌<◌, Bool, true, false, List, [], ◌∷◌, ◌++◌, length, Option, Some, None, refl, sym, ap, subst, ◌∙◌, arith, append-nil, zero-add, cond}, proofs.lemmas.Bool.{and_parts, cond-true, cond-false, false_from_ne_true, true≢false}, proofs.lemmas.List.length-map, proofs.lemmas.List.Sums.sum_by-cons, proofs.lemmas.Cmp.tied_itself, proofs.lemmas.Grind.common_steps, specs.Prelude.{ℤ, ◌||◌, map, filter, if◌then◌else◌, unwrap_or}, specs.List.{flat_map, AllByRecursion, sum_by}, specs.Ordering.is_eq, specs.Cmp.int_cmp_total, proofs.lemmas.Int.ints}
use mathlib.Core.List.{reverse_aux, map-map}
use Rattle.star_schema.{specs.declared.table.TableId.TableId, specs.declared.table.TableId.TheVariants.Lineorder, specs.declared.column.ColumnId.ColumnId, specs.Order.value_cmp, specs.Schema.{is_table, key_of, table_of}, specs.Tables.{Value, Number, Text}, proofs.KeyColumns.foreign_key, proofs.Same.table_same}
use Rattle.star_plan.specs.{Meaning.{Row, Tables, Joined, value_in, joined_value, with_row, only_row, matches, partners, joined_rows, all_hold, plan_rows, Plan}, declared.tree.Join.Join, Joins.{is_foreign, is_lone_key}, Sound.{joins_table, IsSoundPlan}}
use Rattle.star_program.specs.{Run.{End, Ended, unless_unshown, meaning_of, run_while}, World.{World, IsRowNumberOf, is_text}, Values.no_registers, Effects.{State, empty_state}, ShowLines.shown_fault}
use Rattle.star_query_meaning.proofs.{Choices.IsStar, Choices.is_star, Choices.no_key_of_fact, Choices.table_turned, OwnTables.among_dimensions}
use Rattle.star_compile_laws.{proofs.TurnRows.{Sees, Shows, IsTurn, row_at, numbers, place_in}, proofs.ForeignKeys.{each_passes, join_of}, proofs.Joins.foreign_refers, proofs.Turns.{Scanned, scan_runs, updates_of_rows}, proofs.Programs.shows_what_is_there, specs.Compiled.{foreign_of, compiled}, specs.Answers.{PutsTheRows, update_of_row}, specs.Counts.{lookups_of, turn_lookups}}

-- what a join of the plan gives
record IsJoin (ts : Tables) (w : World) (j : Join) : Type 0 where
  fact : table_of j.foreign ≡ Lineorder
  number : is_text j.foreign ≡ false
  lone : is_lone_key j.key (key_of (table_of j.key)) ≡ true
  dimension : is_table Lineorder (table_of j.key) ≡ false
  found : (n : ℕ) → n < length (ts Lineorder)
      → IsRowNumberOf w (table_of j.key) (w.find (table_of j.key) (w.number j.foreign n))

is_join : (ts : Tables) (w : World) → Sees ts w → (j : Join) → is_foreign j.foreign j.key ≡ true
    → IsJoin ts w j
is_join ts w seen j e =
    grind (arith, common_steps, foreign_refers, foreign_key, and_parts, no_key_of_fact)

-- ---- lists

filter_none : (p : Row → Bool) (xs : List Row)
    → ((m : ℕ) → m < length xs → p (row_at xs m) ≡ true → ⊥) → filter p xs ≡ []
filter_none p [] h = refl
filter_none p (x ∷ xs) h = cond-false (p x) (x ∷ filter p xs) (filter p xs)
    (false_from_ne_true (p x) (h 0 (omega arith)))
    ∙ filter_none p xs (λ m b e. h (suc m) (omega arith) e)

-- one alone passes
pub filter_one : (p : Row → Bool) (xs : List Row) (n : ℕ) → n < length xs → p (row_at xs n) ≡ true
    → ((m : ℕ) → m < length xs → p (row_at xs m) ≡ true → m ≡ n) → filter p xs ≡ row_at xs n ∷ []
filter_one p [] n b e h = absurd (omega arith)
filter_one p (x ∷ xs) zero b e h = cond-true (p x) (x ∷ filter p xs) (filter p xs) e
    ∙ ap (λ l. x ∷ l) (filter_none p xs
    (λ m c q. let r : suc m ≡ 0 = h (suc m) (omega arith) q in absurd (omega arith)))
filter_one p (x ∷ xs) (suc n) b e h = cond-false (p x) (x ∷ filter p xs) (filter p xs)
    (false_from_ne_true (p x)
    (λ q. let r : 0 ≡ suc n = h 0 (omega arith) q in absurd (omega arith)))
    ∙ filter_one p xs n (omega arith) e
    (λ m c q. let r : suc m ≡ suc n = h (suc m) (omega arith) q in omega arith)

cond-map : {A B : Type 0} (f : A → B) (b : Bool) (x : A) (xs : List A) (ys : List B) → ys ≡ map f xs
    → cond b (f x ∷ ys) ys ≡ map f (cond b (x ∷ xs) xs)
cond-map f true x xs ys e = ap (λ l. f x ∷ l) e
cond-map f false x xs ys e = e

pub filter-map : {A B : Type 0} (p : B → Bool) (f : A → B) (xs : List A)
    → filter p (map f xs) ≡ map f (filter (λ x. p (f x)) xs)
filter-map p f [] = refl
filter-map p f (x ∷ xs) =
    cond-map f (p (f x)) x (filter (λ y. p (f y)) xs) (filter p (map f xs)) (filter-map p f xs)

-- one for each, by its number
flat_rows : (each : Row → List Joined) (one : ℕ → Joined) (xs : List Row) (i : ℕ)
    → ((j : ℕ) → j < length xs → each (row_at xs j) ≡ one (i + j) ∷ [])
    → flat_map each xs ≡ map one (numbers (length xs) i)
flat_rows each one [] i h = refl
flat_rows each one (x ∷ xs) i h =
    let first : each x ≡ one i ∷ [] = h 0 (omega arith) ∙ ap (λ n. one n ∷ []) (omega arith) in
    ap (λ l. l ++ flat_map each xs) first
    ∙ ap (λ l. one i ∷ l) (flat_rows each one xs (i + 1)
    (λ j b. h (suc j) (omega arith) ∙ ap (λ n. one n ∷ []) (omega arith)))

-- ---- one row

pub value_same : (z : ℤ) (v : Value) → is_eq (value_cmp (Number z) v) ≡ true → v ≡ Number z
value_same z it e = grind (arith, common_steps, ints)

same_compared : (z : ℤ) (v : Value) → v ≡ Number z → is_eq (value_cmp (Number z) v) ≡ true
same_compared z v e =
    ap (λ u. is_eq (value_cmp (Number z) u)) e ∙ ap is_eq (tied_itself int_cmp_total z)

number_shown : (w : World) (c : ColumnId) (n : ℕ) (v : Value) → is_text c ≡ false → Shows w c n v
    → v ≡ Number (w.number c n)
number_shown w c n (Number z) e shows = ap Number (sym shows.1)
number_shown w c n (Text t) e shows = let a : true ≡ false = sym shows.0 ∙ e in absurd (cc)

found_some : (w : World) (t : TableId) (o : Option ℕ) → IsRowNumberOf w t o
    → o ≡ Some (unwrap_or o 0)
found_some w t None h = absurd h
found_some w t (Some n) h = refl

module _ (ts : Tables) (w : World) (seen : Sees ts w) (i : ℕ)
    (below : i < length (ts Lineorder)) where
  partner : (j : Join) (n : ℕ) (base : Joined) → IsJoin ts w j
      → w.find (table_of j.key) (w.number j.foreign i) ≡ Some n
      → base Lineorder ≡ row_at (ts Lineorder) i
      → filter (matches base j) (ts (table_of j.key)) ≡ row_at (ts (table_of j.key)) n ∷ []
  partner j n base is found fact =
      let z = w.number j.foreign i in
      let t = table_of j.key in
      let is_at : joined_value j.foreign base ≡ Number z =
      (ap (λ q. value_in j.foreign (base q)) is.fact ∙ ap (value_in j.foreign) fact
      ∙ ap (λ q. value_in j.foreign (row_at (ts q) i)) (sym is.fact))
      ∙ number_shown w j.foreign i _ is.number
      (seen.shows j.foreign i (subst (λ q. i < length (ts q)) (sym is.fact) below)) in
      let same : matches base j ≡ λ d. is_eq (value_cmp (Number z) (value_in j.key d)) =
      λ k d. is_eq (value_cmp (is_at k) (value_in j.key d)) in
      let f = seen.finds j.key z n is.lone found in
      ap (λ p. filter p (ts t)) same
      ∙ filter_one (λ d. is_eq (value_cmp (Number z) (value_in j.key d))) (ts t) n f.0
      (same_compared z _ f.1)
      (λ m b e. seen.keys j.key m n is.lone b f.0 (value_same z _ e ∙ sym f.1))

  -- the row of a fact with those that are found for it
  abbrev row_with : List Join → Joined → Joined
  row_with js base t = if joins_table js t then row_at (ts t) (place_in w js i t) else base t

  one_more : (j : Join) (js : List Join) (base : Joined) (u : TableId) → IsJoin ts w j
      → joins_table js (table_of j.key) ≡ false
      → row_with js (with_row base (table_of j.key) (row_at (ts (table_of j.key))
      (unwrap_or (w.find (table_of j.key) (w.number j.foreign i)) 0))) u
      ≡ row_with (j ∷ js) base u
  one_more j js base u is alone =
      grind (arith, common_steps, row_at, true≢false, table_same, table_turned)

  partners_are : (js : List Join) (base : Joined) → AllByRecursion (IsJoin ts w) js → IsStar js
      → base Lineorder ≡ row_at (ts Lineorder) i → partners ts js base ≡ row_with js base ∷ []
  partners_are [] base ok star fact = refl
  partners_are (j ∷ js) base ok star fact =
      let t = table_of j.key in
      let z = w.number j.foreign i in
      let d = row_at (ts t) (unwrap_or (w.find t z) 0) in
      ap (flat_map (λ d. partners ts js (with_row base t d)))
      (partner j (unwrap_or (w.find t z) 0) base ok.0
      (found_some w t (w.find t z) (ok.0.found i below)) fact)
      ∙ append-nil (partners ts js (with_row base t d))
      ∙ partners_are js (with_row base t d) ok.1 star.3
      (cond-false (is_table Lineorder t) d (base Lineorder) ok.0.dimension ∙ fact)
      ∙ λ k. (λ u. one_more j js base u ok.0 (among_dimensions js t ∙ star.2) k) ∷ []

-- ---- the joins of a plan

-- a join by a foreign key, whose key is of a table
abbrev Joins : Tables → World → ColumnId → TableId → Type 0
Joins ts w c t =
    (key : ColumnId) × (table_of key ≡ t) × IsJoin ts w (record { foreign = c; key = key })

module _ (ts : Tables) (w : World) (seen : Sees ts w) (p : Plan) (sound : IsSoundPlan p) where
  joined_by : (t : TableId) → joins_table p.joins t ≡ true → Joins ts w (foreign_of p.joins t) t
  joined_by = join_of (Joins ts w) p.joins
      (each_passes (λ j. is_foreign j.foreign j.key)
      (λ j. Joins ts w j.foreign (table_of j.key)) (λ j e. (j.key, refl, is_join ts w seen j e))
      p.joins sound.joins)

  -- the rows that go with row i of the fact
  abbrev pub row_of_fact : ℕ → Joined
  row_of_fact i t =
      if joins_table p.joins t then row_at (ts t) (place_in w p.joins i t) else only_row Lineorder
      (row_at (ts Lineorder) i) t

  -- a dimension's row is found at its position
  found_at : (i : ℕ) → i < length (ts Lineorder) → (t : TableId) → joins_table p.joins t ≡ true
      → w.find t (w.number (foreign_of p.joins t) i) ≡ Some (place_in w p.joins i t)
  found_at i below t joined =
      grind (arith, common_steps, joined_by, t, found_some, cond-false, table_turned)

  row_there : (i : ℕ) → i < length (ts Lineorder) → (t : TableId) (a b : Bool)
      → is_table t Lineorder ≡ a → joins_table p.joins t ≡ b → (a || b) ≡ true
      → (place_in w p.joins i t < length (ts t))
      × ((if b then row_at (ts t) (place_in w p.joins i t) else only_row Lineorder
      (row_at (ts Lineorder) i) t) ≡ row_at (ts t) (place_in w p.joins i t))
  row_there i below t a it e j q =
      grind (arith, common_steps, joined_by, t, place_in, found_at, table_same, cond-true, row_at)

  pub is_turn : (i : ℕ) → i < w.size Lineorder
      → IsTurn w p.joins (place_in w p.joins i) (row_of_fact i)
  is_turn i less = grind (arith, common_steps, row_there, place_in, joined_by, found_at)

  -- one joined row for each row of the fact, in order
  pub joined_are : joined_rows ts p.joins ≡ map row_of_fact (numbers (length (ts Lineorder)) 0)
  joined_are = grind (arith, flat_rows, partners_are, row_at, each_passes, is_join, is_star)

  pub rows_are : map (update_of_row w p) (plan_rows ts p) ≡ map
      (λ i. update_of_row w p (row_of_fact i))
      (filter (λ i. all_hold p.conjuncts (row_of_fact i)) (numbers (length (ts Lineorder)) 0))
  rows_are = ap (λ rows. map (update_of_row w p) (filter (all_hold p.conjuncts) rows)) joined_are
      ∙ ap (map (update_of_row w p))
      (filter-map (all_hold p.conjuncts) row_of_fact (numbers (length (ts Lineorder)) 0))
      ∙ map-map (update_of_row w p) row_of_fact
      (filter (λ i. all_hold p.conjuncts (row_of_fact i)) (numbers (length (ts Lineorder)) 0))

  -- the report names what is there, so it runs
  shown_runs : (o : Option ℕ) (go : Unit {0} → End) → o ≡ None → (e : State)
      → unless_unshown o go ≡ Ended e → go tt ≡ Ended e
  shown_runs None go q e h = h
  shown_runs (Some n) go q e h = absurd (cc)

  -- the run of its scan
  scanned : (may : ℕ → Bool) (e : State) → run_while w may (compiled p) ≡ Ended e
      → Scanned (updates_of_rows w may p sound row_of_fact is_turn (numbers (w.size Lineorder) 0))
      (w.size Lineorder)
      (sum_by (λ i. turn_lookups p (row_of_fact i)) (numbers (w.size Lineorder) 0)) empty_state e
  scanned may e h = scan_runs w may p sound row_of_fact is_turn 1 false no_registers empty_state e
      (shown_runs (shown_fault (compiled p)) (λ _. meaning_of w may (compiled p))
      (shows_what_is_there p sound) e h)

  -- the laws
  pub puts_the_rows : PutsTheRows ts w p
  puts_the_rows may e h = grind (arith, common_steps, scanned, numbers, rows_are)

  looked_up_in : (is : List ℕ) → sum_by (turn_lookups p) (map row_of_fact is)
      ≡ sum_by (λ i. turn_lookups p (row_of_fact i)) is
  looked_up_in [] = refl
  looked_up_in (i ∷ is) = grind (arith, common_steps, sum_by-cons, looked_up_in is)

  pub counts_the_rows : (may : ℕ → Bool) (e : State) → run_while w may (compiled p) ≡ Ended e
      → (e.visits ≡ length (ts Lineorder)) × (e.lookups ≡ lookups_of ts p)
      × (e.updates ≡ length (plan_rows ts p))
  counts_the_rows may e h =
      let s = scanned may e h in
      let size = seen.size Lineorder in
      let rows = λ (n : ℕ). numbers n 0 in (
        s.visits ∙ zero-add (w.size Lineorder) ∙ size,
        s.lookups
            ∙ zero-add (sum_by (λ i. turn_lookups p (row_of_fact i)) (rows (w.size Lineorder)))
            ∙ ap (λ n. sum_by (λ i. turn_lookups p (row_of_fact i)) (rows n)) size
            ∙ sym (looked_up_in (rows (length (ts Lineorder))))
            ∙ ap (sum_by (turn_lookups p)) (sym joined_are),
        s.updates
            ∙ zero-add (length (map (λ i. update_of_row w p (row_of_fact i))
            (filter (λ i. all_hold p.conjuncts (row_of_fact i)) (rows (w.size Lineorder)))))
            ∙ ap (λ n. length (map (λ i. update_of_row w p (row_of_fact i))
            (filter (λ i. all_hold p.conjuncts (row_of_fact i)) (rows n)))) size
            ∙ ap length (sym rows_are)
            ∙ length-map (plan_rows ts p) (update_of_row w p),
      )
