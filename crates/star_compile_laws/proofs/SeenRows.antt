-- A world of some rows sees them.
use Rattle.std.{proofs.Common.{◌≡◌, ◌<◌, ℕ, ℤ, true, false, List, [], length, Some, refl, sym, ap, subst, ◌∙◌, arith}, specs.Prelude.{pos, slice_get, All}, proofs.lemmas.Option.{same_Some, slice_get-map, slice_get-get_or, slice_get_within, get_or_from_slice_get}, proofs.lemmas.Grind.common_steps, proofs.lemmas.Int.ints}
use Rattle.star_plan.{proofs.Options.mapped_gave, specs.Joins.is_lone_key, specs.Meaning.{Row, value_in}}
use Rattle.star_schema.{specs.declared.table.TableId.TableId, specs.declared.table.Key.Key, specs.declared.table.Key.TheVariants.{One, Two}, specs.declared.column.ColumnId.ColumnId, specs.Bounds.{number_in, numbers_at}, specs.Database.{Database, rows_in}, specs.Schema.{key_of, kind_of, position_of, table_of}, specs.Texts.texts_at, specs.Tables.{Value, Number, Text, IsRowOf, kind_of_value}, proofs.KeyColumns.{kind_at_index, key_column}, proofs.Same.column_same}
use Rattle.star_schema.specs.declared.column.Kind.TheVariants as kind
use Rattle.star_program.specs.World.{World}
use Rattle.star_world.{specs.RowsSeen.{HasNumber, HasText, IsWorldOf}, proofs.Loaded.numbers_len}
use Rattle.star_compile_laws.proofs.{Joins.of_text, TurnRows.Sees, TurnRows.Shows, TurnRows.row_at}

-- a row has a value for a column, of its kind
record Holds (c : ColumnId) (row : Row) : Type 0 where
  value : Value
  there : slice_get row (position_of c) ≡ Some value
  of_kind : kind_of_value value ≡ kind_of c

holds : (c : ColumnId) (row : Row) → IsRowOf (table_of c) row → Holds c row
holds c row h =
    let gave = mapped_gave kind_of_value (slice_get row (position_of c)) (kind_of c)
    (sym (slice_get-map kind_of_value row (position_of c))
    ∙ ap (λ ks. slice_get ks (position_of c)) h
    ∙ kind_at_index c) in
    record { value = gave.0; there = gave.1; of_kind = gave.2 }

value_is : (c : ColumnId) (row : Row) (h : Holds c row) → value_in c row ≡ h.value
value_is c row h = get_or_from_slice_get row (position_of c) h.value (Number (pos 0)) h.there

-- the key of a table, where it is one column
lone : (k : ColumnId) (o : Key) → is_lone_key k o ≡ true → o ≡ One k
lone k (One j) e = ap One (sym (column_same k j e))
lone k (Two i j) e = absurd (cc)

module _ (database : Database) (w : World) (rows : (t : TableId) → All (IsRowOf t)
    (rows_in database t)) (world : IsWorldOf database w) where
  row_holds : (c : ColumnId) (n : ℕ) → n < length (rows_in database (table_of c))
      → Holds c (row_at (rows_in database (table_of c)) n)
  row_holds c n below =
      holds c (row_at (rows_in database (table_of c)) n) (rows (table_of c) n [] below)

  number_there : (c : ColumnId) (n : ℕ) (z : ℤ) → n < length (rows_in database (table_of c))
      → slice_get (row_at (rows_in database (table_of c)) n) (position_of c) ≡ Some (Number z)
      → HasNumber database c n z
  unfolding numbers_at
  number_there c n z below e = grind (arith, common_steps, ints, slice_get-map, slice_get-get_or)

  text_there : (c : ColumnId) (n : ℕ) (v : List ℕ) → n < length (rows_in database (table_of c))
      → slice_get (row_at (rows_in database (table_of c)) n) (position_of c) ≡ Some (Text v)
      → HasText database c n v
  unfolding texts_at
  text_there c n v below e = grind (arith, common_steps, slice_get-map, slice_get-get_or)

  shows_value : (c : ColumnId) (n : ℕ) (v : Value) → n < length (rows_in database (table_of c))
      → slice_get (row_at (rows_in database (table_of c)) n) (position_of c) ≡ Some v
      → kind_of_value v ≡ kind_of c → Shows w c n v
  shows_value c n it below e k = grind (arith, common_steps, number_there, text_there)

  shows : (c : ColumnId) (n : ℕ) → n < length (rows_in database (table_of c))
      → Shows w c n (value_in c (row_at (rows_in database (table_of c)) n))
  shows c n below =
      let h = row_holds c n below in
      subst (Shows w c n) (sym (value_is c (row_at (rows_in database (table_of c)) n) h))
      (shows_value c n h.value below h.there h.of_kind)

  -- ---- keys

  number_of : (k : ColumnId) (n : ℕ) (z : ℤ) (v : Value) → kind_of k ≡ kind.Number
      → n < length (rows_in database (table_of k))
      → slice_get (row_at (rows_in database (table_of k)) n) (position_of k) ≡ Some v
      → kind_of_value v ≡ kind_of k → (y : ℤ) × (v ≡ Number y) × HasNumber database k n y
  number_of k n z (Number y) q below e h = (y, refl, number_there k n y below e)
  number_of k n z (Text t) q below e h = let a : true ≡ false = ap of_text (h ∙ q) in absurd (cc)

  -- the number of a row's key
  key_value : (k : ColumnId) (n : ℕ) → key_of (table_of k) ≡ One k
      → n < length (rows_in database (table_of k))
      → (y : ℤ) × (value_in k (row_at (rows_in database (table_of k)) n) ≡ Number y)
      × HasNumber database k n y
  key_value k n one below =
      let h = row_holds k n below in
      let q =
      number_of k n (pos 0) h.value (key_column (table_of k) k one).kind below h.there h.of_kind in
      (q.0, value_is k (row_at (rows_in database (table_of k)) n) h ∙ q.1, q.2)

  finds : (k : ColumnId) (z : ℤ) (n : ℕ) → is_lone_key k (key_of (table_of k)) ≡ true
      → w.find (table_of k) z ≡ Some n → (n < length (rows_in database (table_of k)))
      × (value_in k (row_at (rows_in database (table_of k)) n) ≡ Number z)
  finds k z n e f =
      let one = lone k (key_of (table_of k)) e in
      let has : HasNumber database k n z = (world.find k z n one).0 f in
      let within = slice_get_within _ n z has in
      let below : n < length (rows_in database (table_of k)) =
      omega (arith, within, numbers_len k (rows_in database (table_of k))) in
      let q = key_value k n one below in
      (below, q.1 ∙ ap Number (same_Some q.0 z (sym q.2 ∙ has)))

  keys : (k : ColumnId) (m n : ℕ) → is_lone_key k (key_of (table_of k)) ≡ true
      → m < length (rows_in database (table_of k)) → n < length (rows_in database (table_of k))
      → value_in k (row_at (rows_in database (table_of k)) m) ≡ value_in k
      (row_at (rows_in database (table_of k)) n) → m ≡ n
  keys k m n e p q same =
      let one = lone k (key_of (table_of k)) e in
      let a = key_value k m one p in
      let b = key_value k n one q in
      let numbers : a.0 ≡ b.0 = ap (λ v. number_in (Some v)) (sym a.1 ∙ same ∙ b.1) in
      same_Some m n (sym ((world.find k a.0 m one).1 a.2) ∙ ap (w.find (table_of k)) numbers
      ∙ (world.find k b.0 n one).1 b.2)

  pub sees : Sees (rows_in database) w
  sees = record {
    size = world.size;
    shows = shows;
    finds = finds;
    keys = keys;
    found =
        λ c t n e below. world.found c t n e
        (subst (λ m. n < m) (sym (world.size (table_of c))) below);
  }
