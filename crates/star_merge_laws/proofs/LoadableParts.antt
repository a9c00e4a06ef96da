-- Parts whose keys lie apart can be loaded together.
use Rattle.std.proofs.{Common.{◌≡◌, ◌≢◌, ◌∙◌, ℕ, ℤ, suc, ◌+◌, ◌≤◌, true, List, [], ◌∷◌, ◌++◌, Option, Some, None, AllPairs, length, get_or, map, refl, sym, subst, ap, arith, ⊎_elim, true≢false}, lemmas.Int.ints}
use Rattle.star_merge_laws.proofs.Common.{All, All-append, All-cons, All-head, All-nil, All-tail, AllPairs-cons, AreDisjoint, AreWithin, ColumnId, Contains, Customer, Database, Date, Equal, Greater, HasDistinctKeys, IsLoadable, IsLoadablePart, IsRecordOf, IsSound, IsTable, IsTotalOrder, Less, Lineorder, LineorderPart, Ordering, Part, RefersTo, Span, Supplier, TableId, TableTexts, Value, alike_right, append-nil, are_disjoint, column_of, database_of, flat_map-append, foreign_key, int_cmp_total, is_le, is_lt, key_list_cmp, key_numbers, key_of, keys_of, length-append, lists_total, map-append, numbers_at, numbers_of, or_cases, records_in, records_of, references, row_of, rows_in, rows_of, table_of, tied_itself, whole_text, with_lineorder, with_lineorder_text}

-- ---- lists

module _ {X : Type 0} (R : X → X → Type 0) where
  pub pairs_joined : (xs ys : List X) → AllPairs R xs → AllPairs R ys
      → All (λ x. All (R x) ys) xs → AllPairs R (xs ++ ys)
  pairs_joined [] ys first second across = second
  pairs_joined (x ∷ xs) ys first second across =
      AllPairs-cons R x (xs ++ ys)
      (All-append (R x) xs ys
      (λ k d within. first 0 (suc k) d (omega arith) (omega (arith, within)))
      (All-head (λ z. All (R z) ys) x xs across))
      (pairs_joined xs ys
      (λ i j d before within.
      first (suc i) (suc j) d (omega (arith, before)) (omega (arith, within)))
      second (All-tail (λ z. All (R z) ys) x xs across))

  pub all_first : (P : X → Type 0) (xs ys : List X) → All P (xs ++ ys) → All P xs
  all_first P [] ys h = All-nil P
  all_first P (x ∷ xs) ys h =
      All-cons P x xs (All-head P x (xs ++ ys) h) (all_first P xs ys (All-tail P x (xs ++ ys) h))

  pub all_second : (P : X → Type 0) (xs ys : List X) → All P (xs ++ ys) → All P ys
  all_second P [] ys h = h
  all_second P (x ∷ xs) ys h = all_second P xs ys (All-tail P x (xs ++ ys) h)

  pub pairs_head : (x : X) (xs : List X) → AllPairs R (x ∷ xs) → All (R x) xs
  pairs_head x xs h = λ k d within. h 0 (suc k) d (omega arith) (omega (arith, within))

  pub pairs_tail : (x : X) (xs : List X) → AllPairs R (x ∷ xs) → AllPairs R xs
  pairs_tail x xs h =
      λ i j d before within. h (suc i) (suc j) d (omega (arith, before)) (omega (arith, within))

  pub pairs_second : (xs ys : List X) → AllPairs R (xs ++ ys) → AllPairs R ys
  pairs_second [] ys h = h
  pairs_second (x ∷ xs) ys h = pairs_second xs ys (pairs_tail x (xs ++ ys) h)

-- ---- keys of spans that lie apart

module _ {K : Type 0} (R : K → K → Ordering) (o : IsTotalOrder R) where
  upto_less : (a b c : K) → is_le (R a b) ≡ true → R b c ≡ Less → R a c ≡ Less
  upto_less a b c h less = grind (arith, true≢false)

  pub less_upto : (a b c : K) → R a b ≡ Less → is_le (R b c) ≡ true → R a c ≡ Less
  less_upto a b c less h = grind (arith, alike_right, true≢false)

  not_itself : (a b : K) → R a b ≡ Less → a ≢ b
  not_itself a b less same =
      true≢false (sym (ap is_lt less) ∙ ap (λ k. is_lt (R a k)) (sym same)
      ∙ ap is_lt (tied_itself o a))

pub is_less : (r : Ordering) → is_lt r ≡ true → r ≡ Less
is_less Less h = refl
is_less Equal h = absurd (true≢false (sym h))
is_less Greater h = absurd (true≢false (sym h))

order : IsTotalOrder key_list_cmp
order = lists_total int_cmp_total

-- keys of spans of which one ends before the other begins
before_apart : (a b : Span) (k l : List ℤ) → is_lt (key_list_cmp a.high b.low) ≡ true
    → is_le (key_list_cmp k a.high) ≡ true → is_le (key_list_cmp b.low l) ≡ true
    → key_list_cmp k l ≡ Less
before_apart a b k l less from upto = grind (arith, ints, less_upto, order, upto_less, is_less)

keys_apart : (p q : Option Span) (ks ls : List (List ℤ)) → are_disjoint p q ≡ true → AreWithin p ks
    → AreWithin q ls → All (λ k. All (λ l. k ≢ l) ls) ks
keys_apart it q ks ls apart first second =
    grind (arith, ints, ⊎_elim, not_itself, order, before_apart, or_cases)

-- ---- rows, keys and numbers of two texts, one after the other

pub rows_joined : (t : TableId) (xs ys : List (List ℕ))
    → rows_of t (xs ++ ys) ≡ rows_of t xs ++ rows_of t ys
rows_joined t xs ys =
    ap (map (row_of t)) (flat_map-append records_of xs ys)
    ∙ map-append (row_of t) (records_in xs) (records_in ys)

pub keys_joined : (t : TableId) (xs ys : List (List Value))
    → keys_of t (xs ++ ys) ≡ keys_of t xs ++ keys_of t ys
unfolding keys_of
keys_joined t xs ys = map-append (key_numbers (key_of t)) xs ys

pub numbers_joined : (c : ColumnId) (xs ys : List (List Value))
    → numbers_of c (xs ++ ys) ≡ numbers_of c xs ++ numbers_of c ys
unfolding numbers_at
numbers_joined c xs ys = map-append _ xs ys

-- ---- the other tables are as they are

abbrev pub IsBeside : TableId → Type 0
IsBeside Lineorder = ⊥
IsBeside _ = Unit {0}

refers_beside : (c : ColumnId)
    → elim (references c) as (λ _. Type 0) [ Some t ↦ IsBeside t | None ↦ Unit {0} ]
unfolding column_of
refers_beside it = grind arith

pub referred_beside : (c : ColumnId) (t : TableId) → references c ≡ Some t → IsBeside t
referred_beside c t e = rw e at (refers_beside c)

pub rows_beside : (database : Database) (rows : List (List Value)) (t : TableId) → IsBeside t
    → rows_in (with_lineorder database rows) t ≡ rows_in database t
rows_beside database rows it h = grind arith

rows_of_fact : (database : Database) (rows : List (List Value)) (t : TableId) → t ≡ Lineorder
    → rows_in (with_lineorder database rows) t ≡ rows
rows_of_fact database rows t e = ap (rows_in (with_lineorder database rows)) e

-- ---- sound rows

module _ (database : Database) where
  abbrev AllFound : ColumnId → TableId → List (List Value) → Type 0
  AllFound c t rows =
      All (λ n. Contains (keys_of t (rows_in database t)) (n ∷ [])) (numbers_of c rows)

  abbrev Found : ColumnId → TableId → List (List Value) × List (List Value) → Type 0
  Found c t p = All (λ n. Contains (keys_of t p.0) (n ∷ [])) (numbers_of c p.1)

  abbrev Both : Type 0
  Both = List (List Value) × List (List Value)

  abbrev both_of : List (List Value) → List (List Value) → Both
  both_of xs ys = (xs, ys)

  are_both : (rows : List (List Value)) (c : ColumnId) (t : TableId) → references c ≡ Some t
      → both_of (rows_in (with_lineorder database rows) t)
      (rows_in (with_lineorder database rows) (table_of c)) ≡ both_of (rows_in database t) rows
  are_both rows c t e = λ i. (
    rows_beside database rows t (referred_beside c t e) i,
    rows_of_fact database rows (table_of c) (foreign_key c t e).0.table i,
  )

  module _ (xs ys : List (List Value)) (a : IsSound (with_lineorder database xs))
      (b : IsSound (with_lineorder database ys))
      (across : All (λ k. All (λ l. k ≢ l) (keys_of Lineorder ys)) (keys_of Lineorder xs)) where
    joined_distinct : (t : TableId)
        → HasDistinctKeys t (rows_in (with_lineorder database (xs ++ ys)) t)
    joined_distinct Date = a.distinct Date
    joined_distinct Customer = a.distinct Customer
    joined_distinct Supplier = a.distinct Supplier
    joined_distinct Part = a.distinct Part
    joined_distinct Lineorder =
        subst (AllPairs (λ k l. k ≢ l)) (sym (keys_joined Lineorder xs ys))
        (pairs_joined (λ k l. k ≢ l) (keys_of Lineorder xs) (keys_of Lineorder ys)
        (a.distinct Lineorder) (b.distinct Lineorder) across)

    joined_found : (c : ColumnId) (t : TableId) → references c ≡ Some t
        → RefersTo (with_lineorder database (xs ++ ys)) c t
    joined_found c t e =
        let first : AllFound c t xs = subst (Found c t) (are_both xs c t e) (a.found c t e) in
        let second : AllFound c t ys = subst (Found c t) (are_both ys c t e) (b.found c t e) in
        let all : AllFound c t (xs ++ ys) =
        subst (All (λ n. Contains (keys_of t (rows_in database t)) (n ∷ [])))
        (sym (numbers_joined c xs ys))
        (All-append (λ n. Contains (keys_of t (rows_in database t)) (n ∷ [])) (numbers_of c xs)
        (numbers_of c ys) first second) in
        subst (Found c t) (sym (are_both (xs ++ ys) c t e)) all

    pub sound_joined : IsSound (with_lineorder database (xs ++ ys))
    sound_joined = record { distinct = joined_distinct; found = joined_found }

-- ---- texts that can be loaded

module _ (most : ℕ) (texts : TableTexts) where
  module _ (xs ys : List (List ℕ)) (a : IsLoadable most (with_lineorder_text texts xs))
      (b : IsLoadable most (with_lineorder_text texts ys))
      (few : length (records_in (xs ++ ys)) ≤ most) where
    joined_tables : (t : TableId) → IsTable t most (with_lineorder_text texts (xs ++ ys) t)
    joined_tables Date = a.tables Date
    joined_tables Customer = a.tables Customer
    joined_tables Supplier = a.tables Supplier
    joined_tables Part = a.tables Part
    joined_tables Lineorder = (
      few,
      subst (All (IsRecordOf Lineorder)) (sym (flat_map-append records_of xs ys))
          (All-append (IsRecordOf Lineorder) (records_in xs) (records_in ys) (a.tables Lineorder).1
          (b.tables Lineorder).1),
    )

    pub loadable_joined : All (λ k. All (λ l. k ≢ l) (keys_of Lineorder (rows_of Lineorder ys)))
        (keys_of Lineorder (rows_of Lineorder xs))
        → IsLoadable most (with_lineorder_text texts (xs ++ ys))
    loadable_joined across = record {
      tables = joined_tables;
      sound = subst IsSound
          (λ i. with_lineorder (database_of texts) (sym (rows_joined Lineorder xs ys) i))
          (sound_joined (database_of texts) (rows_of Lineorder xs) (rows_of Lineorder ys) a.sound
          b.sound across);
    }

  -- ---- many parts

  abbrev KeysOf : List (List ℕ) → List (List ℤ)
  KeysOf text = keys_of Lineorder (rows_of Lineorder text)

  text_keys_joined : (xs ys : List (List ℕ)) → KeysOf (xs ++ ys) ≡ KeysOf xs ++ KeysOf ys
  text_keys_joined xs ys = ap (keys_of Lineorder) (rows_joined Lineorder xs ys)
      ∙ keys_joined Lineorder (rows_of Lineorder xs) (rows_of Lineorder ys)

  none_in : (k : List ℤ) → All (λ l. k ≢ l) (KeysOf [])
  unfolding keys_of
  none_in k = All-nil (λ l. k ≢ l)

  across_all : (part : LineorderPart) (parts : List LineorderPart) → IsLoadablePart most texts part
      → All (IsLoadablePart most texts) parts
      → All (λ other. are_disjoint part.span other.span ≡ true) parts
      → All (λ k. All (λ l. k ≢ l) (KeysOf (whole_text parts))) (KeysOf part.text)
  across_all part [] is all apart = λ i d within. none_in (get_or (KeysOf part.text) i d)
  across_all part (other ∷ parts) is all apart =
      let here = keys_apart part.span other.span (KeysOf part.text) (KeysOf other.text)
      (All-head (λ other. are_disjoint part.span other.span ≡ true) other parts apart) is.within
      (All-head (IsLoadablePart most texts) other parts all).within in
      let later = across_all part parts is (All-tail (IsLoadablePart most texts) other parts all)
      (All-tail (λ other. are_disjoint part.span other.span ≡ true) other parts apart) in
      λ i d within. subst (λ keys. All (λ l. get_or (KeysOf part.text) i d ≢ l) keys)
      (sym (text_keys_joined other.text (whole_text parts)))
      (All-append (λ l. get_or (KeysOf part.text) i d ≢ l) (KeysOf other.text)
      (KeysOf (whole_text parts)) (here i d within) (later i d within))

  pub records_joined : (xs ys : List (List ℕ))
      → length (records_in (xs ++ ys)) ≡ length (records_in xs) + length (records_in ys)
  records_joined xs ys =
      ap length (flat_map-append records_of xs ys) ∙ length-append (records_in xs) (records_in ys)

  -- parts whose keys lie apart can be loaded together
  pub parts_loadable : (part : LineorderPart) (parts : List LineorderPart)
      → All (IsLoadablePart most texts) (part ∷ parts) → AreDisjoint (part ∷ parts)
      → length (records_in (whole_text (part ∷ parts))) ≤ most
      → IsLoadable most (with_lineorder_text texts (whole_text (part ∷ parts)))
  parts_loadable part [] all apart few =
      subst (λ text. IsLoadable most (with_lineorder_text texts text)) (sym (append-nil part.text))
      (All-head (IsLoadablePart most texts) part [] all).loadable
  parts_loadable part (other ∷ parts) all apart few =
      let is = All-head (IsLoadablePart most texts) part (other ∷ parts) all in
      let rest = All-tail (IsLoadablePart most texts) part (other ∷ parts) all in
      let sum = records_joined part.text (whole_text (other ∷ parts)) in
      loadable_joined part.text (whole_text (other ∷ parts)) is.loadable
      (parts_loadable other parts rest
      (pairs_tail (λ a b. are_disjoint a.span b.span ≡ true) part (other ∷ parts) apart)
      (omega (arith, sum, few))) few
      (across_all part (other ∷ parts) is rest
      (pairs_head (λ a b. are_disjoint a.span b.span ≡ true) part (other ∷ parts) apart))
