-- Indexes of key lists: how many there are, and those of the last keys.
use Rattle.star_group.proofs.Common.{◌≡◌, ℕ, zero, suc, ◌+◌, ◌*◌, ◌/◌, ◌%◌, ◌<◌, ◌≤◌, ◌^◌, ℤ, pos, ◌-ℤ◌, List, [], ◌∷◌, Option, Some, None, IfSome, MatchOption, ◌++◌, map, length, take, drop, drop-cons, get_or, refl, ap, sym, ◌∙◌, arith, mul-div-le, mul-le-mul_left, mul_assoc, ltb-false, false_from_ne_true, length-map, subst, div-mul-add, div-add-mod', GroupKey, KeyValue, Number, PutBatch, Span, IsPutBatch, put_in, word_in, IsKeyWord, key_word, batch_keys, IsOf, above, offset_of, group_id, id_count, offset_up_to}
use Rattle.std.proofs.lemmas.{Bool.true_from_ne_false, Int.ints}
use Rattle.star_program.specs.declared.group.GroupKey.TheVariants as declared

-- ---- how many positions there are

up_to_last : (last n : ℕ) (z : ℤ) → offset_up_to last z ≡ Some n → n ≤ last
up_to_last last n it e = grind (arith, ints, ltb-false)

pub offset_last : (s : Span) (k : KeyValue) (n : ℕ) → offset_of s k ≡ Some n → n ≤ s.last
offset_last s it n e = grind (arith, up_to_last)

-- a position in front of others
pub record IsAbove (offset size : ℕ) (rest : Option ℕ) (id : ℕ) : Type 0 where
  pub behind : ℕ
  pub is_rest : rest ≡ Some behind
  pub is : id ≡ offset + size * behind

pub above_parts : (o : Option ℕ) (size : ℕ) (r : Option ℕ) (p : ℕ) → above o size r ≡ Some p
    → (n : ℕ) × (o ≡ Some n) × IsAbove n size r p
above_parts it size r p e = grind arith

pub within : (ss : List Span) (ks : List KeyValue) (p : ℕ) → group_id ss ks ≡ Some p
    → p < id_count ss
within [] [] p e = let is : 0 ≡ p = cc e in omega (arith, is)
within [] (k ∷ ks) p e = absurd (let no : ⊥ = cc e in no)
within (s ∷ ss) [] p e = absurd (let no : ⊥ = cc e in no)
within (s ∷ ss) (k ∷ ks) p e =
    let parts = above_parts (offset_of s k) (s.last + 1) (group_id ss ks) p e in
    let q = parts.2.behind in
    let few = offset_last s k parts.0 parts.1 in
    let less = within ss ks q parts.2.is_rest in
    let most = mul-le-mul_left (s.last + 1)
    (let l : q + 1 ≤ id_count ss = omega (arith, less) in l) in
    omega (arith, few, most, parts.2.is)

pub if_within : (ss : List Span) (ks : List KeyValue) (r : Option ℕ) → r ≡ group_id ss ks
    → IfSome r (λ p. p < id_count ss)
if_within ss ks None e = tt
if_within ss ks (Some p) e = within ss ks p (sym e)

pub fewer : (ss : List Span) (i : ℕ) → id_count (drop i ss) ≤ id_count ss
fewer ss zero = omega arith
fewer [] (suc i) = omega arith
fewer (s ∷ ss) (suc i) = omega (arith, fewer ss i)

pub small : (ss : List Span) (ks : List KeyValue) (i j most : ℕ) → id_count ss ≤ most
    → MatchOption (group_id (drop i ss) (drop j ks)) (Unit {0}) (λ p. p < most)
small ss ks i j most h = grind (arith, fewer, within)

-- ---- one key more in front

pub more : (ss : List Span) (ks : List KeyValue) (i : ℕ) (s : Span) (k : KeyValue) → i < length ss
    → i < length ks → group_id (drop i ss) (drop i ks)
    ≡ above (offset_of (get_or ss i s) (get_or ks i k)) ((get_or ss i s).last + 1)
    (group_id (drop (suc i) ss) (drop (suc i) ks))
more [] ks i s k h l = absurd (omega (arith, h))
more (t ∷ ss) [] i s k h l = absurd (omega (arith, l))
more (t ∷ ss) (j ∷ ks) zero s k h l = refl
more (t ∷ ss) (j ∷ ks) (suc i) s k h l = more ss ks i s k (omega (arith, h)) (omega (arith, l))

pub none_left : (ss : List Span) (ks : List KeyValue) → length ks ≡ length ss
    → group_id (drop (length ss) ss) (drop (length ss) ks) ≡ Some 0
none_left [] [] e = refl
none_left [] (k ∷ ks) e = absurd (omega (arith, e))
none_left (s ∷ ss) [] e = absurd (omega (arith, e))
none_left (s ∷ ss) (k ∷ ks) e = none_left ss ks (omega (arith, e))

-- ---- the first key of a position

pub record HasFirst (s : Span) (ss : List Span) (p : ℕ) (ks : List KeyValue) : Type 0 where
  pub key : KeyValue
  pub keys : List KeyValue
  pub are : ks ≡ key ∷ keys
  pub offset : offset_of s key ≡ Some (p % (s.last + 1))
  pub behind : group_id ss keys ≡ Some (p / (s.last + 1))

pub first_of : (s : Span) (ss : List Span) (ks : List KeyValue) (p : ℕ)
    → group_id (s ∷ ss) ks ≡ Some p → HasFirst s ss p ks
first_of s ss [] p e = absurd (let no : ⊥ = cc e in no)
first_of s ss (k ∷ ks) p e =
    let parts = above_parts (offset_of s k) (s.last + 1) (group_id ss ks) p e in
    let q = parts.2.behind in
    let size = s.last + 1 in
    let few : parts.0 < size = omega (arith, offset_last s k parts.0 parts.1) in
    let turned : p ≡ q * size + parts.0 = omega (arith, parts.2.is) in
    let over : p / size ≡ q = ap (λ n. n / size) turned ∙ div-mul-add q size parts.0 few in
    let left : p % size ≡ parts.0 =
    omega (arith, turned, div-add-mod' p size, ap (λ n. n * size) over) in
    record {
      key = k;
      keys = ks;
      are = refl;
      offset = parts.1 ∙ ap Some (sym left);
      behind = parts.2.is_rest ∙ ap Some (sym over);
    }

pub next_id : (ss : List Span) (i : ℕ) (s : Span) (ks : List KeyValue) (p : ℕ) → i < length ss
    → s ≡ get_or ss i s → group_id (drop i ss) (drop i ks) ≡ Some p
    → HasFirst s (drop (suc i) ss) p (drop i ks)
next_id ss i s ks p h is e = grind (arith, drop-cons, first_of)

-- what is behind the first key
pub behind_first : (ks : List KeyValue) (i : ℕ) (k : KeyValue) (rest : List KeyValue)
    → drop i ks ≡ k ∷ rest → (drop (suc i) ks ≡ rest) × (take (suc i) ks ≡ take i ks ++ (k ∷ []))
behind_first [] zero k rest e = absurd (let no : ⊥ = cc e in no)
behind_first [] (suc i) k rest e = absurd (let no : ⊥ = cc e in no)
behind_first (j ∷ ks) zero k rest e =
    ((let f : ks ≡ rest = cc e in f), ap (λ x. x ∷ []) (let f : j ≡ k = cc e in f))
behind_first (j ∷ ks) (suc i) k rest e = let r = behind_first ks i k rest e in
    (r.0, ap (λ x. j ∷ x) r.1)

pub all_kept : (ss : List Span) (ks : List KeyValue) (p : ℕ)
    → group_id (drop (length ss) ss) (drop (length ss) ks) ≡ Some p → take (length ss) ks ≡ ks
all_kept [] [] p e = refl
all_kept [] (k ∷ ks) p e = absurd (let no : ⊥ = cc e in no)
all_kept (s ∷ ss) [] p e = refl
all_kept (s ∷ ss) (k ∷ ks) p e = ap (λ x. k ∷ x) (all_kept ss ks p e)

-- ---- one range more behind the others

pub ids_more : (ss : List Span) (s : Span) → id_count (ss ++ s ∷ []) ≡ id_count ss * (s.last + 1)
ids_more [] s = omega arith
ids_more (t ∷ ss) s = ap (λ n. (t.last + 1) * n) (ids_more ss s)
    ∙ sym (mul_assoc (t.last + 1) (id_count ss) (s.last + 1))

pub room_left : (count size left most : ℕ) → count * left ≤ most
    → (count * size) * (left / size) ≤ most
room_left count size left most room =
    let fewer = mul-le-mul_left count (mul-div-le left size) in
    omega (arith, mul_assoc count size (left / size), fewer, room)

-- ---- the positions of a batch

pub some_ids : (ss : List Span) → 0 < id_count ss
some_ids [] = omega arith
some_ids (s ∷ ss) = let one = some_ids ss in let most =
    mul-le-mul_left (s.last + 1) (let l : 1 ≤ id_count ss = omega (arith, one) in l) in
    omega (arith, most)

ids_from : (ss : List Span) (i : ℕ) (s : Span) → i < length ss → s ≡ get_or ss i s
    → id_count (drop i ss) ≡ (s.last + 1) * id_count (drop (suc i) ss)
ids_from ss i s h is = ap id_count (drop-cons ss i s h ∙ ap (λ t. t ∷ drop (suc i) ss) (sym is))

-- a range is no longer than there may be positions, and neither is a position in front of others
pub few_values : (ss : List Span) (i : ℕ) (s : Span) → i < length ss → s ≡ get_or ss i s
    → id_count ss ≤ 2 ^ 28 → s.last < 2 ^ 28
few_values ss i s h is few =
    let one = some_ids (drop (suc i) ss) in
    let most = mul-le-mul_left (s.last + 1)
    (let l : 1 ≤ id_count (drop (suc i) ss) = omega (arith, one) in l) in
    omega (arith, most, ids_from ss i s h is, fewer ss i, few)

pub few_ids : (ss : List Span) (i : ℕ) (s : Span) (ks : List KeyValue) (p : ℕ) → i < length ss
    → s ≡ get_or ss i s → id_count ss ≤ 2 ^ 28
    → group_id (drop (suc i) ss) (drop (suc i) ks) ≡ Some p → s.last + (s.last + 1) * p < 2 ^ 32
few_ids ss i s ks p h is few e =
    let less = within (drop (suc i) ss) (drop (suc i) ks) p e in
    let most = mul-le-mul_left (s.last + 1)
    (let l : p + 1 ≤ id_count (drop (suc i) ss) = omega (arith, less) in l) in
    omega (arith, most, ids_from ss i s h is, fewer ss i, few)

length-keys_of : (kinds : List GroupKey) (zs : List ℤ) → length kinds ≡ length zs
    → length (batch_keys kinds zs) ≡ length zs
length-keys_of [] [] e = refl
length-keys_of [] (z ∷ zs) e = absurd (omega (arith, e))
length-keys_of (k ∷ kinds) [] e = refl
length-keys_of (k ∷ kinds) (z ∷ zs) e = ap suc (length-keys_of kinds zs (omega (arith, e)))

key_there : (kinds : List GroupKey) (zs : List ℤ) (i : ℕ) (k : KeyValue) → i < length kinds
    → i < length zs → get_or (batch_keys kinds zs) i k
    ≡ key_word (get_or kinds i declared.Number) (get_or zs i (pos 0))
key_there [] zs i k h l = absurd (omega (arith, h))
key_there (g ∷ kinds) [] i k h l = absurd (omega (arith, l))
key_there (g ∷ kinds) (z ∷ zs) zero k h l = refl
key_there (g ∷ kinds) (z ∷ zs) (suc i) k h l =
    key_there kinds zs i k (omega (arith, h)) (omega (arith, l))

offset_word : (s : Span) (g : GroupKey) (z : ℤ) → IsOf s g → IsKeyWord g z
    → offset_of s (key_word g z) ≡ offset_up_to s.last (z -ℤ s.low)
offset_word s it z own fits = grind (arith, ints)

word_there : (f : ℕ → ℤ) (rs : List ℕ) (i : ℕ) → i < length rs
    → get_or (map f rs) i (pos 0) ≡ f (get_or rs i 0)
word_there f [] i h = absurd (omega (arith, h))
word_there f (r ∷ rs) zero h = refl
word_there f (r ∷ rs) (suc i) h = word_there f rs i (omega (arith, h))

above_none : (o : Option ℕ) (size : ℕ) → above o size None ≡ None
above_none (Some n) size = refl
above_none None size = refl

-- where the last keys have none, all have none
none_before : (ss : List Span) (ks : List KeyValue) (i : ℕ)
    → group_id (drop i ss) (drop i ks) ≡ None → group_id ss ks ≡ None
none_before ss ks zero e = e
none_before [] [] (suc i) e = absurd (let no : ⊥ = cc e in no)
none_before [] (k ∷ ks) (suc i) e = refl
none_before (s ∷ ss) [] (suc i) e = refl
none_before (s ∷ ss) (k ∷ ks) (suc i) e =
    ap (above (offset_of s k) (s.last + 1)) (none_before ss ks i e)
    ∙ above_none (offset_of s k) (s.last + 1)

offset_other : (s : Span) (g : GroupKey) (z : ℤ) → (IsOf s g → ⊥) → IsKeyWord g z
    → offset_of s (key_word g z) ≡ None
offset_other s it z other fits = grind (arith, ints, true_from_ne_false, false_from_ne_true)

-- a row of a batch
module _ (b : PutBatch) (batch : IsPutBatch b) (spans : List Span)
    (keys : length spans ≡ length b.keys.now) (row : ℕ) (h : row < b.rows) where
  abbrev zs : List ℤ
  zs = map (word_in b.vectors.now row) b.keys.now

  abbrev ks : List KeyValue
  ks = (put_in b row).keys

  wide : length zs ≡ length spans
  wide = length-map b.keys.now (word_in b.vectors.now row) ∙ sym keys

  pub batch_long : length ks ≡ length spans
  batch_long = length-keys_of b.declared.now.keys zs (omega (arith, batch.keys, wide, keys)) ∙ wide

  module _ (i : ℕ) (here : i < length spans) (s : Span) (is : s ≡ get_or spans i s) where
    abbrev kind : GroupKey
    kind = get_or b.declared.now.keys i declared.Number

    abbrev word : ℤ
    word = word_in b.vectors.now row (get_or b.keys.now i 0)

    known : get_or zs i (pos 0) ≡ word
    known = word_there (word_in b.vectors.now row) b.keys.now i (omega (arith, here, keys))

    fits : IsKeyWord kind (get_or zs i (pos 0))
    fits = subst (IsKeyWord kind) (sym known) (batch.words row h i (omega (arith, here, keys)))

    first : group_id (drop i spans) (drop i ks)
        ≡ above (offset_of s (key_word kind (get_or zs i (pos 0)))) (s.last + 1)
        (group_id (drop (suc i) spans) (drop (suc i) ks))
    first = more spans ks i s (Number (pos 0)) here (omega (arith, here, batch_long))
        ∙ (λ j. above (offset_of (sym is j) (key_there b.declared.now.keys zs i (Number (pos 0))
        (omega (arith, here, keys, batch.keys)) (omega (arith, here, wide)) j))
        ((sym is j).last + 1) (group_id (drop (suc i) spans) (drop (suc i) ks)))

    inside : IsOf s kind → (z : ℤ) → z ≡ word
        → offset_of s (key_word kind (get_or zs i (pos 0))) ≡ offset_up_to s.last (z -ℤ s.low)
    inside own z same = offset_word s kind (get_or zs i (pos 0)) own fits
        ∙ ap (λ w. offset_up_to s.last (w -ℤ s.low)) (known ∙ sym same)

    none : offset_of s (key_word kind (get_or zs i (pos 0))) ≡ None → group_id spans ks ≡ None
    none e = none_before spans ks i
        (first ∙ ap (λ o. above o (s.last + 1) (group_id (drop (suc i) spans) (drop (suc i) ks))) e)

    pub batch_id : IsOf s kind → (z : ℤ) → z ≡ word → (p q : ℕ)
        → group_id (drop (suc i) spans) (drop (suc i) ks) ≡ Some p
        → above (offset_up_to s.last (z -ℤ s.low)) (s.last + 1) (Some p) ≡ Some q
        → group_id (drop i spans) (drop i ks) ≡ Some q
    batch_id own z same p q behind next =
        first ∙ (λ j. above (inside own z same j) (s.last + 1) (behind j)) ∙ next

    pub batch_other : (IsOf s kind → ⊥) → group_id spans ks ≡ None
    batch_other other = none (offset_other s kind (get_or zs i (pos 0)) other fits)

    pub batch_outside : IsOf s kind → (z : ℤ) → z ≡ word → offset_up_to s.last (z -ℤ s.low) ≡ None
        → group_id spans ks ≡ None
    batch_outside own z same e = none (inside own z same ∙ e)
