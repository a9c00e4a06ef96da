-- The keys of a table as numbers and as pairs of numbers.
use Rattle.std.{proofs.Common.{◌≡◌, ◌≢◌, ◌&&◌, ◌∷◌, ◌∙◌, ℕ, ℤ, List, [], All, AllPairs, Bool, true, false, Option, Some, None, length, map, refl, ap}, proofs.lemmas.List.Elements.All-map, specs.Cmp.Rules.signed_items, specs.List.zip, specs.Option.option_map, specs.Ordering.int_eq}
use Rattle.star_schema.specs.{declared.column.ColumnId.ColumnId, declared.table.Key.TheVariants.{One, Two}, declared.table.TableId.TableId, Bounds.numbers_at, Loadable.{HasDistinctKeys, key_numbers, keys_of}, Schema.{key_of, position_of}, Tables.Value}
use Rattle.star_catalogue.{specs.declared.fault.LoadFault.TheVariants.DuplicateKey, specs.Load.{first_repeat, repeated_key_fault, same_key}, specs.Private.Keys.same_pair, proofs.Apart.apart-map, proofs.Repeats.{apart_no_repeat, first_repeat-map, no_repeat_apart}}

-- keys of one number, and of two
abbrev pub one : ℤ → List ℤ
one n = n ∷ []

abbrev pub two : ℤ × ℤ → List ℤ
two p = p.0 ∷ p.1 ∷ []

pub keys_of_one : (t : TableId) (c : ColumnId) (rows : List (List Value)) → key_of t ≡ One c
    → keys_of t rows ≡ map one (numbers_at (position_of c) rows)
unfolding keys_of numbers_at
keys_of_one t c [] e = refl
keys_of_one t c (row ∷ rows) e = λ i. key_numbers (e i) row ∷ keys_of_one t c rows e i

pub keys_of_two : (t : TableId) (c d : ColumnId) (rows : List (List Value)) → key_of t ≡ Two c d
    → keys_of t rows ≡ map two (zip (numbers_at (position_of c) rows)
    (numbers_at (position_of d) rows))
unfolding keys_of numbers_at
keys_of_two t c d [] e = refl
keys_of_two t c d (row ∷ rows) e = λ i. key_numbers (e i) row ∷ keys_of_two t c d rows e i

and_true : (b : Bool) → b && true ≡ b
and_true true = refl
and_true false = refl

same_one : (m n : ℤ) → same_key (one m) (one n) ≡ int_eq m n
same_one m n = and_true (int_eq m n)

same_two : (p q : ℤ × ℤ) → same_key (two p) (two q) ≡ same_pair p q
same_two p q = ap (λ b. int_eq p.0 q.0 && b) (and_true (int_eq p.1 q.1))

pub fault_of_one : (t : TableId) (c : ColumnId) (rows : List (List Value)) → key_of t ≡ One c
    → repeated_key_fault t rows
    ≡ option_map (DuplicateKey t) (first_repeat int_eq (numbers_at (position_of c) rows))
fault_of_one t c rows e =
    ap (option_map (DuplicateKey t))
    (ap (first_repeat same_key) (keys_of_one t c rows e)
    ∙ first_repeat-map int_eq same_key one same_one (numbers_at (position_of c) rows))

pub fault_of_two : (t : TableId) (c d : ColumnId) (rows : List (List Value)) → key_of t ≡ Two c d
    → repeated_key_fault t rows
    ≡ option_map (DuplicateKey t)
    (first_repeat same_pair (zip (numbers_at (position_of c) rows)
    (numbers_at (position_of d) rows)))
fault_of_two t c d rows e =
    ap (option_map (DuplicateKey t))
    (ap (first_repeat same_key) (keys_of_two t c d rows e)
    ∙ first_repeat-map same_pair same_key two same_two
    (zip (numbers_at (position_of c) rows) (numbers_at (position_of d) rows)))

pub apart_of_one : (t : TableId) (c : ColumnId) (rows : List (List Value)) → key_of t ≡ One c
    → AllPairs (λ a b. a ≢ b) (numbers_at (position_of c) rows) → HasDistinctKeys t rows
apart_of_one t c rows e h =
    rw (keys_of_one t c rows e) (apart-map one (λ m n same. cc) (numbers_at (position_of c) rows) h)

pub apart_of_two : (t : TableId) (c d : ColumnId) (rows : List (List Value)) → key_of t ≡ Two c d
    → AllPairs (λ a b. a ≢ b)
    (zip (numbers_at (position_of c) rows) (numbers_at (position_of d) rows))
    → HasDistinctKeys t rows
apart_of_two t c d rows e h =
    rw (keys_of_two t c d rows e)
    (apart-map two pair_is (zip (numbers_at (position_of c) rows)
    (numbers_at (position_of d) rows)) h)
  where
    pair_is : (p q : ℤ × ℤ) → two p ≡ two q → p ≡ q
    pair_is p q same = let first : p.0 ≡ q.0 = cc in let second : p.1 ≡ q.1 =
        cc in λ i. (first i, second i)

pub length_of_two : (t : TableId) (c d : ColumnId) (rows : List (List Value)) → key_of t ≡ Two c d
    → All (λ key. length key ≡ 2) (keys_of t rows)
length_of_two t c d rows e =
    rw (keys_of_two t c d rows e)
    (All-map (λ (key : List ℤ). length key ≡ 2) two
    (zip (numbers_at (position_of c) rows) (numbers_at (position_of d) rows)) (λ k p within. refl))

-- different keys have no fault
pub distinct_no_fault : (t : TableId) (rows : List (List Value)) → HasDistinctKeys t rows
    → repeated_key_fault t rows ≡ None
distinct_no_fault t rows h =
    ap (option_map (DuplicateKey t)) (apart_no_repeat same_key signed_items (keys_of t rows) h)

-- keys without a fault differ
pub no_fault_distinct : (t : TableId) (rows : List (List Value)) → repeated_key_fault t rows ≡ None
    → HasDistinctKeys t rows
no_fault_distinct t rows none =
    no_repeat_apart same_key signed_items (keys_of t rows)
    (unmapped (first_repeat same_key (keys_of t rows)) none)
  where
    unmapped : (o : Option ℕ) → option_map (DuplicateKey t) o ≡ None → o ≡ None
    unmapped None e = refl
    unmapped (Some n) e = cc e
