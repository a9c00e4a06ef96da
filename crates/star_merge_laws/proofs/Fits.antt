-- A plan that fits the rows of lineorder fits those of a part that has a row.
use Rattle.std.proofs.Common.{◌≡◌, ℕ, ℤ, ◌≤◌, Bool, true, ◌&&◌, List, [], ◌∷◌, ◌++◌, length, ◌≤ℤ◌, ◌+ℤ◌, ◌-ℤ◌, ◌*ℤ◌, refl, subst, arith}
use Rattle.star_merge_laws.proofs.{Common.{All-head, ColumnId, Database, Expression, Fits, IsOrdered, IsWithin, Measure, Plan, Range, Row, add, and_from, and_parts, bounds_in, clamps, column, constant, corner_range, count, differences_within, expression_range, fits_held, fits_i64, fits_i64_fits, fold, greatest, greatest_above, holds_high, holds_low, holds_within, hull_of_rows, ints, least, least_below, length-append, list_all, measure_fits, mul, nodes_fit, numbers_of, products_within, sub, sums_within, table_of, tables_with, within_hull_left, within_hull_right}, Facts.in_table}

corners_ordered : (op : ℤ → ℤ → ℤ) (a b : Range) → IsOrdered (corner_range op a b)
corners_ordered op a b = grind (arith, ints, clamps)

-- ---- smaller ranges fit where greater ones do

smaller_fits : (a b : Range) → IsOrdered a → IsWithin a b → fits_i64 b ≡ true → fits_i64 a ≡ true
smaller_fits a b ordered inside h =
    grind (arith, fits_i64_fits, fits_held, holds_within, holds_low, holds_high)

module _ (small great : ColumnId → Range) (ordered : (c : ColumnId) → IsOrdered (small c))
    (inside : (c : ColumnId) → IsWithin (small c) (great c)) where
  range_ordered : (e : Expression ColumnId) → IsOrdered (expression_range small e)
  range_ordered (column c) = ordered c
  range_ordered (constant z) = omega (arith, ints)
  range_ordered (add a b) =
      corners_ordered ◌+ℤ◌ (expression_range small a) (expression_range small b)
  range_ordered (sub a b) =
      corners_ordered ◌-ℤ◌ (expression_range small a) (expression_range small b)
  range_ordered (mul a b) =
      corners_ordered ◌*ℤ◌ (expression_range small a) (expression_range small b)

  range_inside : (e : Expression ColumnId)
      → IsWithin (expression_range small e) (expression_range great e)
  range_inside (column c) = inside c
  range_inside (constant z) = record { from = omega (arith, ints); to = omega (arith, ints) }
  range_inside (add a b) = sums_within (expression_range small a) (expression_range small b)
      (expression_range great a) (expression_range great b) (range_ordered a) (range_ordered b)
      (range_inside a) (range_inside b)
  range_inside (sub a b) = differences_within (expression_range small a)
      (expression_range small b) (expression_range great a) (expression_range great b)
      (range_ordered a) (range_ordered b) (range_inside a) (range_inside b)
  range_inside (mul a b) = products_within (expression_range small a) (expression_range small b)
      (expression_range great a) (expression_range great b) (range_ordered a) (range_ordered b)
      (range_inside a) (range_inside b)

  at_node : (e : Expression ColumnId) → fits_i64 (expression_range great e) ≡ true
      → fits_i64 (expression_range small e) ≡ true
  at_node e h = smaller_fits (expression_range small e) (expression_range great e)
      (range_ordered e) (range_inside e) h

  both_nodes : (p q r s t u : Bool) → (p ≡ true → s ≡ true) → (q ≡ true → t ≡ true)
      → (r ≡ true → u ≡ true) → (p && (q && r)) ≡ true → (s && (t && u)) ≡ true
  both_nodes p q r s t u one two three h = grind (arith, and_parts, and_from)

  nodes_smaller : (e : Expression ColumnId) → nodes_fit great e ≡ true → nodes_fit small e ≡ true
  nodes_smaller (column c) h = at_node (column c) h
  nodes_smaller (constant z) h = h
  nodes_smaller (add a b) h = both_nodes (nodes_fit great a) (nodes_fit great b)
      (fits_i64 (expression_range great (add a b))) (nodes_fit small a) (nodes_fit small b)
      (fits_i64 (expression_range small (add a b))) (nodes_smaller a) (nodes_smaller b)
      (at_node (add a b)) h
  nodes_smaller (sub a b) h = both_nodes (nodes_fit great a) (nodes_fit great b)
      (fits_i64 (expression_range great (sub a b))) (nodes_fit small a) (nodes_fit small b)
      (fits_i64 (expression_range small (sub a b))) (nodes_smaller a) (nodes_smaller b)
      (at_node (sub a b)) h
  nodes_smaller (mul a b) h = both_nodes (nodes_fit great a) (nodes_fit great b)
      (fits_i64 (expression_range great (mul a b))) (nodes_fit small a) (nodes_fit small b)
      (fits_i64 (expression_range small (mul a b))) (nodes_smaller a) (nodes_smaller b)
      (at_node (mul a b)) h

  measures_smaller : (ms : List (Measure ColumnId)) → list_all (measure_fits great) ms ≡ true
      → list_all (measure_fits small) ms ≡ true
  measures_smaller [] h = refl
  measures_smaller (count ∷ ms) h = measures_smaller ms h
  measures_smaller (fold f e ∷ ms) h =
      let parts = and_parts (nodes_fit great e) (list_all (measure_fits great) ms) h in
      and_from (nodes_fit small e) (list_all (measure_fits small) ms) (nodes_smaller e parts.0)
      (measures_smaller ms parts.1)

-- ---- the bounds of a part that has a row lie within those of the whole

none_ordered : least [] ≤ℤ greatest []
unfolding least greatest
none_ordered = omega (arith, ints)

bounds_ordered : (zs : List ℤ) → least zs ≤ℤ greatest zs
bounds_ordered [] = none_ordered
bounds_ordered (z ∷ zs) =
    let low = All-head (λ n. least (z ∷ zs) ≤ℤ n) z zs (least_below (z ∷ zs)) in
    let high = All-head (λ n. n ≤ℤ greatest (z ∷ zs)) z zs (greatest_above (z ∷ zs)) in
    omega (arith, ints, low, high)

within_itself : (r : Range) → IsWithin r r
within_itself r = record { from = omega (arith, ints); to = omega (arith, ints) }

module _ (m n : ℕ) (a b : Range) where
  left_inside : 1 ≤ m → IsWithin a (hull_of_rows m n a b)
  left_inside h = grind (arith, within_itself, within_hull_left)

  right_inside : 1 ≤ n → IsWithin b (hull_of_rows m n a b)
  right_inside h = grind (arith, within_itself, within_hull_right)

module _ (database : Database) where
  abbrev bounds_over : List Row → ColumnId → Range
  bounds_over rows c = bounds_in (tables_with database rows) c

  abbrev FitsOver : ℕ → Plan → List Row → Type 0
  FitsOver most p rows = Fits (length rows) most (bounds_over rows) p

  fits_part : (rows whole : List Row) (most : ℕ) (p : Plan) → length rows ≤ length whole
      → ((c : ColumnId) → IsWithin (bounds_over rows c) (bounds_over whole c))
      → FitsOver most p whole → FitsOver most p rows
  fits_part rows whole most p few inside h = record {
    visits = omega (arith, few, h.visits);
    nodes = measures_smaller (bounds_over rows) (bounds_over whole)
        (λ c. bounds_ordered (numbers_of c (tables_with database rows (table_of c)))) inside
        p.measures h.nodes;
  }

  module _ (xs ys : List Row) (most : ℕ) (p : Plan) where
    pub first_fits : 1 ≤ length xs → FitsOver most p (xs ++ ys) → FitsOver most p xs
    first_fits some =
        fits_part xs (xs ++ ys) most p (omega (arith, length-append xs ys))
        (λ c. subst (IsWithin (bounds_over xs c)) (in_table database xs ys c (table_of c))
        (left_inside (length xs) (length ys) (bounds_over xs c) (bounds_over ys c) some))

    pub second_fits : 1 ≤ length ys → FitsOver most p (xs ++ ys) → FitsOver most p ys
    second_fits some =
        fits_part ys (xs ++ ys) most p (omega (arith, length-append xs ys))
        (λ c. subst (IsWithin (bounds_over ys c)) (in_table database xs ys c (table_of c))
        (right_inside (length xs) (length ys) (bounds_over xs c) (bounds_over ys c) some))
