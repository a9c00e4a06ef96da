-- What stands at positions, with the numbers of more puts.
use Rattle.star_group.{proofs.Common.{◌≡◌, ℕ, zero, suc, ◌-◌, ◌<◌, ◌≤◌, ◌^◌, Bool, true, false, nat_eq, cond, FitsSigned, w64, ℤ, pos, negsuc, List, ◌∷◌, Option, Some, length, get_or, set, refl, ap, sym, ◌∙◌, arith, filter, option_eq, unwrap_or, eqb-true, eq-eqb, lt-ltb, ltb-false, ltb-true, ints, int_min_is, int_max_is, get_or-set_same, get_or_past, length-set, Aggregate, numbers_for, KeyValue, leaves, Update, aggregate_at, Span, puts_after, step, has_puts, AreAt, cell_over, neutral, is_at, group_id, AreWithin, CanTake, column_after, taking, Group, HasRoom, put_number}, proofs.Rooms.held_stays, specs.Cells.held, specs.Private.Taken.after_rows}
use Rattle.star_interval.specs.Range.{is_i64}
use Rattle.std.proofs.lemmas.Grind.{common_steps}

-- ---- the puts at a position

pub at_here : (spans : List Span) (keys : List KeyValue) (p q : ℕ) → group_id spans keys ≡ Some q
    → is_at spans p keys ≡ nat_eq q p
at_here spans keys p q e = ap (λ r. option_eq nat_eq r (Some p)) e

abbrev pub puts_there : List Span → ℕ → List Update → List Update
puts_there spans p us = filter (λ w. is_at spans p w.keys) us

pub there_more : (spans : List Span) (u : Update) (us : List Update) (p : ℕ) (b : Bool)
    → is_at spans p u.keys ≡ b
    → puts_there spans p (u ∷ us) ≡ cond b (u ∷ puts_there spans p us) (puts_there spans p us)
there_more spans u us p b e = ap (λ c. cond c (u ∷ puts_there spans p us) (puts_there spans p us)) e

-- ---- rows, one after another

pub length-after_rows : {A : Type 0} (none : A) (change : ℕ → A → A) (at : List ℕ) (items : List A)
    (rows : ℕ) → length (after_rows none change at items rows) ≡ length items
unfolding after_rows
length-after_rows none change at items zero = refl
length-after_rows none change at items (suc row) =
    length-set _ _ _ ∙ length-after_rows none change at items row

module _ {A : Type 0} (none : A) (value : List Update → A) (change : ℕ → A → A) (spans : List Span)
    (u : ℕ → Update) (at : List ℕ) where
  -- one row more
  pub at_more : (row : ℕ) (items : List A) (us : List Update)
      → ((ws : List Update) → change row (value ws) ≡ value (u row ∷ ws))
      → group_id spans (u row).keys ≡ Some (get_or at row 0) → AreAt none value spans items us
      → AreAt none value spans
      (set items (get_or at row 0) (change row (get_or items (get_or at row 0) none))) (u row ∷ us)
  at_more row items us changes is are p h =
      grind (arith, common_steps, length-set, eqb-true, get_or-set_same, there_more, at_here)

  pub at_after : (items : List A) (us : List Update) (rows : ℕ)
      → ((row : ℕ) → row < rows → (ws : List Update) → change row (value ws) ≡ value (u row ∷ ws))
      → ((row : ℕ) → row < rows → group_id spans (u row).keys ≡ Some (get_or at row 0))
      → AreAt none value spans items us
      → AreAt none value spans (after_rows none change at items rows) (puts_after u us rows)
  unfolding after_rows
  at_after items us zero changes is are = are
  at_after items us (suc row) changes is are =
      at_more row (after_rows none change at items row) (puts_after u us row)
      (changes row (omega arith)) (is row (omega arith))
      (at_after items us row (λ r h. changes r (omega (arith, h))) (λ r h. is r (omega (arith, h)))
      are)

-- ---- cells

neutral_step : (g : Aggregate) (v : ℤ) (r : Option ℤ) → is_i64 v ≡ true
    → step g v (Some (unwrap_or r (neutral g))) ≡ step g v r
unfolding is_i64
neutral_step g v it h = grind (arith, ints, ltb-true, int_min_is, int_max_is)

-- a vector has the numbers of some rows' puts for an aggregate
pub record IsVector (a : ℕ) (u : ℕ → Update) (vector : List ℤ) (rows : ℕ) : Type 0 where
  pub is : (row : ℕ) → row < rows → get_or vector row (pos 0) ≡ put_number a (u row)
  pub narrow : (row : ℕ) → row < rows → is_i64 (put_number a (u row)) ≡ true

module _ (d : Group) (a : ℕ) (spans : List Span) (u : ℕ → Update) (at : List ℕ) (vector : List ℤ)
    (rows : ℕ) (are : IsVector a u vector rows)
    (is : (row : ℕ) → row < rows → group_id spans (u row).keys ≡ Some (get_or at row 0)) where
  abbrev g : Aggregate
  g = aggregate_at d.aggregates a

  held_more : (row : ℕ) → row < rows → (ws : List Update)
      → Some (taking g vector row (cell_over d a ws)) ≡ held g (numbers_for a (u row ∷ ws))
  unfolding held
  held_more row h ws = ap Some
      (ap (λ v. step g v (Some (cell_over d a ws))) (are.is row h)
      ∙ neutral_step g (put_number a (u row)) (held g (numbers_for a ws)) (are.narrow row h))

  cell_more : (row : ℕ) → row < rows → (ws : List Update)
      → taking g vector row (cell_over d a ws) ≡ cell_over d a (u row ∷ ws)
  cell_more row h ws = ap (λ r. unwrap_or r (neutral g)) (held_more row h ws)

  pub column_at : (cells : List ℤ) (us : List Update) (n : ℕ) → n ≤ rows
      → AreAt (pos 0) (cell_over d a) spans cells us
      → AreAt (pos 0) (cell_over d a) spans (column_after g vector at cells n) (puts_after u us n)
  column_at cells us n few =
      at_after (pos 0) (cell_over d a) (taking g vector) spans u at cells us n
      (λ row h. cell_more row (omega (arith, h, few))) (λ row h. is row (omega (arith, h, few)))

  pub can_take : (cells : List ℤ) (us : List Update) → length at ≡ rows → a < length d.aggregates
      → AreWithin at (length cells)
      → ((row : ℕ) → row < rows → HasRoom d (u row ∷ puts_after u us row))
      → AreAt (pos 0) (cell_over d a) spans cells us → CanTake g vector at cells
  can_take cells us long declared within room so_far row h =
      let few : row < rows = omega (arith, h, long) in
      let q : ℕ = get_or at row 0 in
      let there : q < length (column_after g vector at cells row) =
      omega (arith, within row h, length-after_rows (pos 0) (taking g vector) at cells row) in
      let cell = column_at cells us row (omega (arith, few)) so_far q there in
      ap (λ z. leaves g (Some (taking g vector row z))) cell
      ∙ ap (leaves g) (held_more row few (puts_there spans q (puts_after u us row)))
      ∙ ap (λ ws. leaves g (held g (numbers_for a ws)))
      (sym (there_more spans (u row) (puts_after u us row) q true
      (at_here spans (u row).keys q q (is row few) ∙ eq-eqb q q refl)))
      ∙ held_stays d (u row ∷ puts_after u us row) (room row few) (is_at spans q) a declared

-- ---- which positions have puts

pub seen_at : (spans : List Span) (u : ℕ → Update) (at : List ℕ) (seen : List Bool)
    (us : List Update) (rows : ℕ)
    → ((row : ℕ) → row < rows → group_id spans (u row).keys ≡ Some (get_or at row 0))
    → AreAt false has_puts spans seen us
    → AreAt false has_puts spans (after_rows false (λ row was. true) at seen rows)
    (puts_after u us rows)
seen_at spans u at seen us rows is =
    at_after false has_puts (λ row was. true) spans u at seen us rows (λ row h ws. refl) is

-- ---- numbers of 64 bits

pub is_narrow : (z : ℤ) → FitsSigned w64 z → is_i64 z ≡ true
unfolding is_i64
is_narrow (pos n) f = lt-ltb n (2 ^ 63) (omega (arith, f.sfits))
is_narrow (negsuc n) f = lt-ltb n (2 ^ 63) (omega (arith, f.sfits))

zero_narrow : is_i64 (pos 0) ≡ true
unfolding is_i64
zero_narrow = refl

pub each_narrow : (words : List ℤ) (n : ℕ) → length words ≤ n
    → ((at : ℕ) → at < n → is_i64 (get_or words at (pos 0)) ≡ true) → (at : ℕ)
    → is_i64 (get_or words at (pos 0)) ≡ true
each_narrow words n few each at = grind (arith, ints, ltb-true, get_or_past, ltb-false, zero_narrow)
