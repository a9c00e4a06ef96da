-- Rows with texts for codes: they are in the order of the codes.
use Rattle.std.{proofs.Common.{◌≡◌, inl, inr, ℕ, zero, suc, List, [], ◌∷◌, Option, Some, None, length, get_or, map, replicate, sym, subst, refl, ◌∙◌}, proofs.lemmas.Option.slice_get-get_or, specs.List.{AllByRecursion, Contains}, specs.Cmp.Lexicographic.slice_cmp, specs.Option.option_map, specs.Ordering.ordering_then}
use Rattle.star_schema.{specs.Order.{AreInOrder, column_cmp, key_cmp, row_cmp, sort_cmp, value_cmp}, specs.Database.Database, specs.declared.group.GroupColumn.GroupColumn, specs.declared.group.Direction.Direction, specs.declared.group.Direction.TheVariants.{Ascending, Descending}, specs.declared.group.Shape.Shape, specs.declared.group.SortKey.SortKey, proofs.Dictionaries.IsDictionary-dictionary_of, proofs.TextIndexes.nat_cmp-indexes}
use Rattle.star_schema.specs.{Groups.GroupRow as Row, Groups.IsGroup, Groups.IsMasked, Columns.column_dictionary, Columns.column_texts}
use Rattle.star_common.proofs.Members.{at_each}
use Rattle.star_program.specs.{declared.group.GroupDecl.GroupDecl, declared.group.GroupKey.GroupKey, declared.key.KeyValue.KeyValue, declared.key.KeyValue.TheVariants.Number, declared.key.KeyValue.TheVariants.Code, Outcome.decoded, Outcome.decoded_keys, Outcome.decoded_row, Puts.Update}
use Rattle.star_outcome.{specs.Private.Decoded.{AreDecodable, IsDecodable}, specs.SoundKeys.{AreSoundKeys, IsSoundKey}, proofs.SortedRows.sorted_mapped}
use Rattle.star_world.specs.WorldOf.{world_of}
use Rattle.star_schema.specs.declared.group.GroupColumn.TheVariants as column
use Rattle.star_program.specs.declared.group.GroupKey.TheVariants as declared
use Rattle.star_program.specs.Keys as by_code

-- ---- keys as declared

masked_decodable : (db : Database) (ds : List GroupKey) (ms : List (Option KeyValue))
    (ks : List KeyValue) → IsMasked ms ks → AreSoundKeys db ds ks → AreDecodable db ds ms
masked_decodable db [] [] [] h sound = tt
masked_decodable db [] ms (k ∷ ks) h sound = absurd sound
masked_decodable db [] (Some m ∷ ms) [] h sound = absurd h
masked_decodable db [] (None ∷ ms) [] h sound = absurd h
masked_decodable db (d ∷ ds) ms [] h sound = absurd sound
masked_decodable db (d ∷ ds) [] (k ∷ ks) h sound = absurd h
masked_decodable db (d ∷ ds) (Some m ∷ ms) (k ∷ ks) h sound =
    (subst (IsSoundKey db d) (sym h.0) sound.0, masked_decodable db ds ms ks h.1 sound.1)
masked_decodable db (d ∷ ds) (None ∷ ms) (k ∷ ks) h sound =
    (tt, masked_decodable db ds ms ks h sound.1)

all_decodable : (db : Database) (ds : List GroupKey)
    → AreDecodable db ds (replicate (length ds) None)
all_decodable db [] = tt
all_decodable db (d ∷ ds) = (tt, all_decodable db ds)

-- a group of updates with keys as declared has such keys
pub group_decodable : (db : Database) (s : Shape) (ds : List GroupKey) (us : List Update)
    (keys : List (Option KeyValue)) → AllByRecursion (λ u. AreSoundKeys db ds u.keys) us
    → IsGroup s (length ds) us keys → AreDecodable db ds keys
group_decodable db s ds us keys sound (shown, inl is) = masked_decodable db ds keys is.0.keys is.2
    (at_each (λ u. AreSoundKeys db ds u.keys) us is.0 sound is.1)
group_decodable db s ds us keys sound (shown, inr all) =
    subst (AreDecodable db ds) (sym all) (all_decodable db ds)

-- ---- a key at a position

pub decoded_at : (db : Database) (ds : List GroupKey) (ks : List (Option KeyValue)) (index : ℕ)
    → AreDecodable db ds ks → get_or (decoded_keys (world_of db) ds ks) index None
    ≡ option_map (decoded (world_of db) (get_or ds index declared.Number)) (get_or ks index None)
decoded_at db [] [] index h = refl
decoded_at db [] (k ∷ ks) index h = absurd h
decoded_at db (d ∷ ds) [] index h = absurd h
decoded_at db (d ∷ ds) (k ∷ ks) zero h = refl
decoded_at db (d ∷ ds) (k ∷ ks) (suc index) h = decoded_at db ds ks index h.1

pub decodable_at : (db : Database) (ds : List GroupKey) (ks : List (Option KeyValue)) (index : ℕ)
    → AreDecodable db ds ks → IsDecodable db (get_or ds index declared.Number)
    (get_or ks index None)
decodable_at db [] [] index h = tt
decodable_at db [] (k ∷ ks) index h = absurd h
decodable_at db (d ∷ ds) [] index h = absurd h
decodable_at db (d ∷ ds) (k ∷ ks) zero h = h.0
decodable_at db (d ∷ ds) (k ∷ ks) (suc index) h = decodable_at db ds ks index h.1

-- ---- the order of codes is the order of their texts

same_values : (db : Database) (d : GroupKey) (a b : KeyValue) → IsSoundKey db d a
    → IsSoundKey db d b → value_cmp (decoded (world_of db) d a) (decoded (world_of db) d b)
    ≡ by_code.key_value_cmp a b
same_values db declared.Number (Number x) (Number y) sound_a sound_b = refl
same_values db declared.Number (Number x) (Code n) sound_a sound_b = absurd sound_b
same_values db declared.Number (Code m) b sound_a sound_b = absurd sound_a
same_values db (declared.Text c) (Number x) b sound_a sound_b = absurd sound_a
same_values db (declared.Text c) (Code m) (Number y) sound_a sound_b = absurd sound_b
same_values db (declared.Text c) (Code m) (Code n) sound_a sound_b =
    let texts = column_dictionary db c in
    sym (nat_cmp-indexes texts (IsDictionary-dictionary_of (column_texts db c)).sorted m n
    (get_or texts m []) (get_or texts n []) (slice_get-get_or texts m [] sound_a.1)
    (slice_get-get_or texts n [] sound_b.1))

same_keys : (db : Database) (d : GroupKey) (a b : Option KeyValue) → IsDecodable db d a
    → IsDecodable db d b → key_cmp value_cmp (option_map (decoded (world_of db) d) a)
    (option_map (decoded (world_of db) d) b) ≡ key_cmp by_code.key_value_cmp a b
same_keys db d (Some a) (Some b) sound_a sound_b = same_values db d a b sound_a sound_b
same_keys db d (Some a) None sound_a sound_b = refl
same_keys db d None (Some b) sound_a sound_b = refl
same_keys db d None None sound_a sound_b = refl

same_lists : (db : Database) (ds : List GroupKey) (xs ys : List (Option KeyValue))
    → AreDecodable db ds xs → AreDecodable db ds ys
    → slice_cmp (key_cmp value_cmp) (decoded_keys (world_of db) ds xs)
    (decoded_keys (world_of db) ds ys) ≡ slice_cmp (key_cmp by_code.key_value_cmp) xs ys
same_lists db [] [] [] h k = refl
same_lists db [] [] (y ∷ ys) h k = absurd k
same_lists db [] (x ∷ xs) ys h k = absurd h
same_lists db (d ∷ ds) [] ys h k = absurd h
same_lists db (d ∷ ds) (x ∷ xs) [] h k = absurd k
same_lists db (d ∷ ds) (x ∷ xs) (y ∷ ys) h k =
    λ i. ordering_then (same_keys db d x y h.0 k.0 i) (same_lists db ds xs ys h.1 k.1 i)

module _ (db : Database) (d : GroupDecl) where
  same_column : (c : GroupColumn) (a b : Row KeyValue) → AreDecodable db d.keys a.keys
      → AreDecodable db d.keys b.keys
      → column_cmp value_cmp c (decoded_row (world_of db) d a) (decoded_row (world_of db) d b)
      ≡ column_cmp by_code.key_value_cmp c a b
  same_column (column.Key index) a b h k =
      (λ i. key_cmp value_cmp (decoded_at db d.keys a.keys index h i)
      (decoded_at db d.keys b.keys index k i))
      ∙ same_keys db (get_or d.keys index declared.Number) (get_or a.keys index None)
      (get_or b.keys index None) (decodable_at db d.keys a.keys index h)
      (decodable_at db d.keys b.keys index k)
  same_column (column.Aggregate index) a b h k = refl

  same_directed : (c : GroupColumn) (way : Direction) (a b : Row KeyValue)
      → AreDecodable db d.keys a.keys → AreDecodable db d.keys b.keys
      → sort_cmp value_cmp (record { column = c; direction = way }) (decoded_row (world_of db) d a)
      (decoded_row (world_of db) d b)
      ≡ sort_cmp by_code.key_value_cmp (record { column = c; direction = way }) a b
  same_directed c Ascending a b h k = same_column c a b h k
  same_directed c Descending a b h k = same_column c b a k h

  same_rows : (sorts : List SortKey) (a b : Row KeyValue) → AreDecodable db d.keys a.keys
      → AreDecodable db d.keys b.keys
      → row_cmp value_cmp sorts (decoded_row (world_of db) d a) (decoded_row (world_of db) d b)
      ≡ row_cmp by_code.key_value_cmp sorts a b
  same_rows [] a b h k = same_lists db d.keys a.keys b.keys h k
  same_rows (sort ∷ sorts) a b h k =
      λ i. ordering_then (same_directed sort.column sort.direction a b h k i)
      (same_rows sorts a b h k i)

  pub decoded_in_order : (sorts : List SortKey) (groups : List (Row KeyValue))
      → ((group : Row KeyValue) → Contains groups group → AreDecodable db d.keys group.keys)
      → AreInOrder by_code.key_value_cmp sorts groups
      → AreInOrder value_cmp sorts (map (decoded_row (world_of db) d) groups)
  decoded_in_order sorts groups sound up =
      sorted_mapped (decoded_row (world_of db) d) (row_cmp by_code.key_value_cmp sorts)
      (row_cmp value_cmp sorts) groups
      (λ a b in_a in_b. same_rows sorts a b (sound a in_a) (sound b in_b)) up
