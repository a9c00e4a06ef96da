-- The world of sound rows is what programs see of them.
use Rattle.std.{proofs.Common.{◌≡◌, ◌≢◌, ◌↔◌, ℕ, ℤ, pos, List, [], ◌∷◌, Some, None, Option, map, refl, sym, ap, ◌∙◌, arith}, specs.Prelude.{AllPairs, Contains, nat_lt, slice_get, slice_index_or}, specs.Option.option_map, proofs.lemmas.Option.{get_or_from_slice_get, slice_get-map, slice_get_within}}
use Rattle.star_schema.{specs.Bounds.{numbers_at, numbers_of}, specs.Database.{Database, rows_in}, specs.Dictionary.{low_in, high_in}, specs.Loadable.{IsSound, key_numbers, keys_of, number_at}, specs.Schema.{key_of, table_of}, specs.Tables.Value, specs.Columns.{column_dictionary, column_numbers, column_texts}, specs.declared.column.ColumnId.ColumnId, specs.declared.table.Key.TheVariants.One, proofs.Dictionaries.IsDictionary-dictionary_of, proofs.TextIndexes.{has_code, nat_lt-low_in, nat_lt-high_in}}
use Rattle.star_world.{specs.RowsSeen.{HasNumber, HasText, IsCodeOf, IsWorldOf}, specs.WorldOf.world_of, proofs.Found.{IsFound, found_from, one_index}, proofs.Loaded.loaded}

-- ---- codes

coded : (database : Database) (c : ColumnId) (row : ℕ) (text : List ℕ) → HasText database c row text
    → IsCodeOf (world_of database) c text ((world_of database).code c row)
coded database c row text has =
    let texts = column_texts database c in
    let ds = column_dictionary database c in
    let sorted = (IsDictionary-dictionary_of texts).sorted in
    let there : Contains texts text =
    (row, slice_get_within texts row text has, get_or_from_slice_get texts row text text has) in
    let stands = has_code texts text there in
    let code = ap (low_in ds) (get_or_from_slice_get texts row text [] has) in
    record {
      index = code;
      low = λ bound. ap (λ m. nat_lt m (low_in ds bound)) code
          ∙ nat_lt-low_in ds sorted (low_in ds text) text bound stands;
      high = λ bound. ap (λ m. nat_lt m (high_in ds bound)) code
          ∙ nat_lt-high_in ds sorted (low_in ds text) text bound stands;
      shown = ap (λ m. slice_index_or ds m []) code
          ∙ get_or_from_slice_get ds (low_in ds text) text [] stands;
    }

-- ---- keys

-- the keys of a table with one key column are that column's numbers
keys_are_numbers : (key : ColumnId) (rows : List (List Value)) → key_of (table_of key) ≡ One key
    → keys_of (table_of key) rows ≡ map (λ z. z ∷ []) (numbers_of key rows)
unfolding keys_of numbers_at
keys_are_numbers key rows one = ap (λ k. map (key_numbers k) rows) one ∙ mapped rows
  where
    mapped : (rs : List (List Value))
        → map (key_numbers (One key)) rs ≡ map (λ z. z ∷ []) (map (λ r. number_at key r) rs)
    mapped [] = refl
    mapped (r ∷ rs) = ap (λ ks. (number_at key r ∷ []) ∷ ks) (mapped rs)

one_of : (o : Option ℤ) (n : ℤ) → option_map (λ z. z ∷ []) o ≡ Some (n ∷ []) → o ≡ Some n
one_of None n e = absurd (cc)
one_of (Some z) n e = let same : z ≡ n = cc in ap Some same

-- a row has a number for its key exactly where it has it in the key's column
key_there : (database : Database) (key : ColumnId) (row : ℕ) (n : ℤ)
    → key_of (table_of key) ≡ One key
    → (slice_get (keys_of (table_of key) (rows_in database (table_of key))) row ≡ Some (n ∷ []))
    ↔ HasNumber database key row n
key_there database key row n one =
    let zs = column_numbers database key in
    let same = ap (λ ks. slice_get ks row)
    (keys_are_numbers key (rows_in database (table_of key)) one)
    ∙ slice_get-map (λ z. z ∷ []) zs row in (
      λ e. one_of (slice_get zs row) n (sym same ∙ e),
      λ e. same ∙ ap (option_map (λ z. z ∷ [])) e,
    )

-- the answer is each row that has the key, where no two have it
is_found : (n : ℤ) (keys : List (List ℤ)) (row : ℕ) (o : Option ℕ) → AllPairs (λ a b. a ≢ b) keys
    → IsFound n keys 0 o → (o ≡ Some row) ↔ (slice_get keys row ≡ Some (n ∷ []))
is_found n keys row None apart none = (λ e. absurd (cc), λ e. absurd (none row e))
is_found n keys row (Some i) apart (at, is, there) = (
  λ e. let same : i ≡ row = cc in let index : at ≡ row = omega (arith, is, same) in
      ap (slice_get keys) (sym index) ∙ there,
  λ e. let index : at ≡ row = one_index keys at row (n ∷ []) apart there e in let same : i ≡ row =
      omega (arith, is, index) in ap Some same,
)

pub shown : (database : Database) → IsSound database → IsWorldOf database (world_of database)
shown database sound = record {
  size = λ t. refl;
  number = λ c row n is has. get_or_from_slice_get (column_numbers database c) row n (pos 0) has;
  code = λ c row text is has. coded database c row text has;
  find = λ key n row one.
      let t = table_of key in
      let keys = keys_of t (rows_in database t) in
      let answer = is_found n keys row ((world_of database).find t n) (sound.distinct t)
      (found_from n keys 0) in
      let number = key_there database key row n one in
      (λ e. number.0 (answer.0 e), λ e. answer.1 (number.1 e));
  found = (loaded database sound).found;
}
