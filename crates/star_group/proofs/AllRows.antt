-- The rows of a deferred store in the end are those of an eager one.
use Rattle.star_group.proofs.{Common.{Entry, Row, RowKey, ◌≡◌, ℕ, ◌-◌, ◌≤◌, List, [], ◌∷◌, length, arith, AllByRecursion, and-false, or-false, ∥∥₁_map, map-id, at_each, Aggregate, Shape, KeyValue, AreGrouped, HasBaseWithRoom, IsRowOver, puts_with, row_found, is_of_put, key_eq, padded, vary, IsRolledUp, IsRolledUpWithRoom, first_hidden, is_among, keys_from, group_with, Update, Group, AreOnce}, GroupKeys.{key_decides, own_grouping, plain_among}, BaseKeyLemmas.vary-start, Filters.filter_each}
use Rattle.std.proofs.lemmas.Grind.{common_steps}

-- ---- the base rows have no ALL

pub base_keys : (count : ℕ) (ks : List KeyValue) → keys_from count count ks ≡ padded 6 ks ∷ []
base_keys count ks =
    let none : count - count ≡ 0 = omega arith in
    rw none (vary-start (padded 6 ks) count)

base_among : (s : Shape) (count : ℕ) (q : RowKey) (ks : List KeyValue)
    → length ks ≡ count → count ≤ 6 → is_among s count count q ks ≡ key_eq q (padded 6 ks)
base_among s count q ks fits few =
    grind (arith, base_keys, or-false, padded, key_decides, own_grouping, and-false)

pub base_rolled : (d : Group) (es : List Entry) (us : List Update)
    → d.count ≤ 6 → AllByRecursion (λ u. length u.keys ≡ d.count) us
    → ((q : RowKey) → IsRowOver d (puts_with q us) (row_found es q)) → AreOnce es
    → IsRolledUp d d.count es us
base_rolled d es us few fit rows once =
    grind (arith, common_steps, row_found, filter_each, base_among, at_each)

pub base_room : (shape : Shape) (count : ℕ) (gs : List Aggregate) (es : List Entry) (all : Row)
    → count ≤ 6 → HasBaseWithRoom (group_with shape count gs) es all → AreOnce es
    → ∥ IsRolledUpWithRoom shape count gs count es ∥₁
base_room shape count gs es all few room once = ∥∥₁_map room (λ r. record {
  puts = r.0;
  below = omega arith;
  few = few;
  rows = base_rolled (group_with shape count gs) es r.0 few r.1.fit r.1.rows once;
  room = r.2;
})

-- ---- a put is in the same rows

pub cube_keys : (count : ℕ) (ks : List KeyValue) → keys_from 0 count ks ≡ vary count (padded 6 ks)
cube_keys count ks =
    let all : count - 0 ≡ count = omega arith in
    rw all (map-id (vary count (padded 6 ks)))

same_rows : (d : Group) (q : RowKey) (u : Update) → length u.keys ≡ d.count → d.count ≤ 6
    → is_among d.shape (first_hidden d.shape d.count) d.count q u.keys ≡ is_of_put d.shape u.keys q
same_rows d q u fits few = grind (arith, padded, cube_keys, base_among, plain_among)

pub grouped : (d : Group) (us : List Update) (es : List Entry)
    → d.count ≤ 6 → IsRolledUp d (first_hidden d.shape d.count) es us → AreGrouped d es us
grouped d us es few rolled = grind (arith, common_steps, row_found, filter_each, same_rows, at_each)
