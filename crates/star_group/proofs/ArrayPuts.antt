-- The content of a array store, with the puts of more rows.
use Rattle.star_group.{proofs.Common.{Entry, ◌≡◌, ℕ, zero, suc, ◌+◌, ◌*◌, ◌<◌, ◌≤◌, Bool, true, false, nat_eq, cond, ℤ, pos, List, [], ◌∷◌, Some, None, Result, Ok, Err, OnOk, OnErr, length, get_or, replicate, refl, ap, sym, ◌∙◌, subst, arith, ◌&&◌, filter, AllByRecursion, is_none, option_eq, get_or-replicate, length-replicate, ∥∥₁_map, Aggregate, Count, is_i64, KeyValue, cut, PutBatch, ArrayStore, Span, AreOnce, IsBase, HasRoomForRows, puts_after, put_in, has_puts, AreAt, IsArrayContent, IsArrayContentWithRoom, aggregate_cells, cell_over, neutral, is_at, is_outside, group_id, offset_of, group_with, group_view, entries_of, Has, IsRolledUp, AreCellsTaken, AreWithin, CanTake, after_rows, batch_vectors, column_after, vectors_of, Update, aggregate_at, Group, put_number, IsRolledUpWithRoom, IsListed, AreInBits, numbers_for, leaves, HasNarrow}, proofs.ArrayCells.{IsVector, can_take, column_at, length-after_rows, seen_at}, proofs.CutRows.cut_wide, proofs.ArrayVectors.vector_number, proofs.Filters.filter_twice, proofs.Rooms.held_stays, proofs.SpanIds.{above_parts, within}, proofs.KeyedRows.rows_once, specs.Cells.held, specs.declared.deferred.DeferredStore.DeferredStore}
use Rattle.star_group.specs.Deferred as deferred
use Rattle.std.proofs.lemmas.Int.{ints}

-- as many keys have positions as there are ranges
content_long : (ss : List Span) (ks : List KeyValue) (p : ℕ) → group_id ss ks ≡ Some p
    → length ks ≡ length ss
content_long [] [] p e = refl
content_long [] (k ∷ ks) p e = absurd (let no : ⊥ = cc e in no)
content_long (s ∷ ss) [] p e = absurd (let no : ⊥ = cc e in no)
content_long (s ∷ ss) (k ∷ ks) p e = let parts =
    above_parts (offset_of s k) (s.last + 1) (group_id ss ks) p e in
    ap suc (content_long ss ks parts.2.behind parts.2.is_rest)

-- ---- rows with a position each

-- a store has these marks and cells after the puts of some rows
pub record IsAfter (s : ArrayStore) (u : ℕ → Update) (rows : ℕ) (seen : List Bool)
    (cells : List ℤ) :
    Type 0 where
  pub marks : length seen ≡ length s.seen.items
  pub long : length cells ≡ length s.rest.aggregates.items * length seen
  pub has : (us : List Update) → Has s us
      → IsArrayContent (group_view s) s.spans.items seen cells (entries_of s.rest.rows) s.rest.total
      (puts_after u us rows)

module _ (s : ArrayStore) (u : ℕ → Update) (at : List ℕ) (vectors : ℕ → List ℤ) (rows : ℕ)
    (are : (row : ℕ) → row < rows → group_id s.spans.items (u row).keys ≡ Some (get_or at row 0))
    (many : length at ≡ rows) where
  abbrev d : Group
  d = group_view s

  pub there : AreWithin at (length s.seen.items)
  there row h = grind (arith, within)

  -- of parts that are lent
  pub can_take_lent : {gs : List Aggregate} {all : ℕ} {cells : List ℤ} → gs ≡ d.aggregates
      → all ≡ length s.seen.items → cells ≡ s.cells.items → (us : List Update) → Has s us
      → HasRoomForRows d u us rows → (a : ℕ) → a < length gs → IsVector a u (vectors a) rows
      → CanTake (get_or gs a Count) (vectors a) at (get_or (cut all (length gs) cells) a [])
  can_take_lent same size old us has room a h vector =
      let declared : a < length d.aggregates = omega (arith, h, ap length same) in
      let wide = cut_wide (length s.seen.items) (length d.aggregates) s.cells.items a s.long
      declared in
      coe 1 0 (i. CanTake (get_or (same i) a Count) (vectors a) at
      (get_or (cut (size i) (length (same i)) (old i)) a []))
      (can_take d a s.spans.items u at (vectors a) rows vector are
      (aggregate_cells d s.seen.items s.cells.items a) us many declared
      (λ row less. omega (arith, there row less, wide)) room (has.cells_at a declared))

  same_outside : (us : List Update) (n : ℕ) → n ≤ rows
      → filter (λ w. is_outside s.spans.items w.keys) (puts_after u us n)
      ≡ filter (λ w. is_outside s.spans.items w.keys) us
  same_outside us zero h = refl
  same_outside us (suc n) h = grind (arith, same_outside us n (omega (arith, h)))

  all_fit : (us : List Update) → AllByRecursion (λ w. length w.keys ≡ d.count) us
      → (n : ℕ) → n ≤ rows → AllByRecursion (λ w. length w.keys ≡ d.count) (puts_after u us n)
  all_fit us fit zero h = fit
  all_fit us fit (suc n) h = grind (arith, all_fit us fit n (omega (arith, h)), content_long)

  pub after : (seen : List Bool) (cells : List ℤ)
      → seen ≡ after_rows false (λ row was. true) at s.seen.items (length at)
      → AreCellsTaken d.aggregates (length s.seen.items) vectors at s.cells.items cells
      → ((a : ℕ) → a < length d.aggregates → IsVector a u (vectors a) rows)
      → IsAfter s u rows seen cells
  after seen cells marked taken vector =
      let same : length seen ≡ length s.seen.items =
      ap length marked ∙ length-after_rows false (λ row was. true) at s.seen.items (length at) in
      record {
        marks = same;
        long = taken.len ∙ s.long ∙ ap (λ n. length d.aggregates * n) (sym same);
        has = λ us has. record {
          fit = all_fit us has.fit rows (omega arith);
          seen_at = subst (λ xs. AreAt false has_puts s.spans.items xs (puts_after u us rows))
              (sym (marked ∙ ap (after_rows false (λ row was. true) at s.seen.items) many))
              (seen_at s.spans.items u at s.seen.items us rows are has.seen_at);
          cells_at = λ a h. subst
              (λ c. AreAt (pos 0) (cell_over d a) s.spans.items c (puts_after u us rows))
              (sym (ap (λ n. get_or (cut n (length d.aggregates) cells) a []) same
              ∙ taken.columns a h ∙ ap
              (column_after (aggregate_at d.aggregates a) (vectors a) at
              (aggregate_cells d s.seen.items s.cells.items a)) many))
              (column_at d a s.spans.items u at (vectors a) rows (vector a h) are
              (aggregate_cells d s.seen.items s.cells.items a) us rows (omega arith)
              (has.cells_at a h));
          rest = subst (IsBase d (entries_of s.rest.rows) s.rest.total)
              (sym (same_outside us rows (omega arith))) has.rest;
        };
      }

-- there is room where some rows, or none, were put
pub batch_room : (s : ArrayStore) (u : ℕ → Update) (rows : ℕ) (us : List Update)
    (seen : List Bool) (cells : List ℤ) → IsAfter s u rows seen cells → Has s us
    → HasRoomForRows (group_view s) u us rows
    → IsArrayContentWithRoom (group_view s) s.spans.items seen cells
    (entries_of s.rest.rows) s.rest.total
batch_room s u zero us seen cells after has room =
    ∥∥₁_map s.room (λ r. (r.0, after.has r.0 r.1, r.2))
batch_room s u (suc n) us seen cells after has room =
    ∣ (
      puts_after u us (suc n),
      after.has us has,
      held_stays (group_view s) (u n ∷ puts_after u us n) (room n (omega arith)),
    ) ∣₁

pub batch_vector : (b : PutBatch) (a : ℕ) → HasNarrow b a → IsVector a (put_in b)
    (batch_vectors b a) b.rows
batch_vector b a narrow = grind (arith, vector_number)

-- the only row of one put
pub first_row : (P : ℕ → Type 0) → P 0 → (row : ℕ) → row < 1 → P row
first_row P p row h = let first : 0 ≡ row = omega (arith, h) in subst P first p

first_vector : (a : ℕ) (vs : List ℤ) (d : ℤ) → get_or (vectors_of vs a) 0 d ≡ get_or vs a d
first_vector zero [] d = refl
first_vector zero (v ∷ vs) d = refl
first_vector (suc a) [] d = refl
first_vector (suc a) (v ∷ vs) d = first_vector a vs d

pub one_vector : (u : Update) (a : ℕ) → is_i64 (put_number a u) ≡ true
    → IsVector a (λ row. u) (vectors_of u.values a) 1
one_vector u a narrow = grind (arith, first_row, first_vector)

-- ---- a put without a position

module _ (s : ArrayStore) (u : Update) (outside : group_id s.spans.items u.keys ≡ None)
    (us : List Update) where
  more_outside : filter (λ w. is_outside s.spans.items w.keys) (u ∷ us)
      ≡ u ∷ filter (λ w. is_outside s.spans.items w.keys) us
  more_outside = ap (λ r. cond (is_none r) (u ∷ filter (λ w. is_outside s.spans.items w.keys) us)
      (filter (λ w. is_outside s.spans.items w.keys) us)) outside

  pub room_outside : AreInBits (group_view s) (u ∷ us)
      → AreInBits (group_view s) (u ∷ filter (λ w. is_outside s.spans.items w.keys) us)
  room_outside room p id h =
      let g = aggregate_at (group_view s).aggregates id in
      ap (λ ws. leaves g (held g (numbers_for id ws)))
      (ap (filter (λ w. p w.keys)) (sym more_outside)
      ∙ filter_twice (λ w. is_outside s.spans.items w.keys) (λ w. p w.keys) (u ∷ us))
      ∙ room (λ ks. p ks && is_outside s.spans.items ks) id h

  same_at : (p : ℕ) → filter (λ w. is_at s.spans.items p w.keys) (u ∷ us)
      ≡ filter (λ w. is_at s.spans.items p w.keys) us
  same_at p = ap (λ r. cond (option_eq nat_eq r (Some p))
      (u ∷ filter (λ w. is_at s.spans.items p w.keys) us)
      (filter (λ w. is_at s.spans.items p w.keys) us)) outside

  -- what the store of the puts without a position became
  module _ (rest : DeferredStore) (same : deferred.group_view rest ≡ group_view s) where
    abbrev Now : List Update → Type 0
    Now ws = IsArrayContent (deferred.group_view rest) s.spans.items s.seen.items s.cells.items
        (entries_of rest.rows) rest.total ws

    outside_more : length u.keys ≡ s.rest.key_count
        → ((ws : List Update) → deferred.Has s.rest ws → deferred.Has rest (u ∷ ws)) → Has s us
        → Now (u ∷ us)
    outside_more fits more has = grind (arith, seen_at, same_at, more_outside)

    outside_stays : ((ws : List Update) → deferred.Has s.rest ws → deferred.Has rest ws)
        → (ws : List Update) → Has s ws → Now ws
    outside_stays stays ws has = grind (arith, seen_at)

    pub outside_room : {T E : Type 0} (r : Result T E) → length u.keys ≡ s.rest.key_count → Has s us
        → AreInBits (group_view s) (u ∷ us)
        → OnOk r ((ws : List Update) → deferred.Has s.rest ws → deferred.Has rest (u ∷ ws))
        → OnErr r ((ws : List Update) → deferred.Has s.rest ws → deferred.Has rest ws)
        → ∥ ((ws : List Update) × Now ws × AreInBits (deferred.group_view rest) ws) ∥₁
    outside_room (Ok x) fits has room more stays =
        ∣ (u ∷ us, outside_more fits more has, subst (λ g. AreInBits g (u ∷ us)) (sym same) room) ∣₁
    outside_room (Err x) fits has room more stays = ∥∥₁_map s.room
        (λ r. (r.0, outside_stays stays r.0 r.1, subst (λ g. AreInBits g r.0) (sym same) r.2))

-- ---- no puts

pub content_none : (rest : DeferredStore) (spans : List Span) (n : ℕ) {gs : List Aggregate}
    {seen : List Bool} {cells : List ℤ} → gs ≡ rest.aggregates.items → seen ≡ replicate n false
    → ((a : ℕ) → a < length gs
    → get_or (cut n (length gs) cells) a [] ≡ replicate n (neutral (get_or gs a Count)))
    → deferred.Has rest [] → IsArrayContent (deferred.group_view rest) spans seen cells
    (entries_of rest.rows) rest.total []
unfolding held
content_none rest spans n same blank columns base =
    grind (arith, ints, length-replicate, seen_at, get_or-replicate, cut)

-- ---- the rows of all puts, from parts that are lent

module _ (s : ArrayStore) {gs : List Aggregate} {spans : List Span} {seen : List Bool}
    {cells : List ℤ} {es fs : List Entry}
    (same : gs ≡ s.rest.aggregates.items) (ranges : spans ≡ s.spans.items)
    (marks : seen ≡ s.seen.items) (numbers : cells ≡ s.cells.items)
    (reserved : es ≡ entries_of s.rest.rows)
    (listed : AreOnce es → IsListed gs spans seen cells es fs) where
  keys : length spans ≡ s.rest.key_count
  keys = ap length ranges ∙ s.keys

  pub rolled_of : (us : List Update) → Has s us
      → IsRolledUp (group_with s.rest.shape s.rest.key_count gs) s.rest.key_count fs us
  rolled_of us has = subst (λ n. IsRolledUp (group_with s.rest.shape n gs) n fs us) keys
      (listed (subst AreOnce (sym reserved) (rows_once s.rest.rows)) s.rest.shape s.rest.total us
      (coe 1 0 (i. IsArrayContent (group_with s.rest.shape (keys i) (same i)) (ranges i) (marks i)
      (numbers i) (reserved i) s.rest.total us) has))

  pub rolled_room : ∥ IsRolledUpWithRoom s.rest.shape s.rest.key_count gs s.rest.key_count fs ∥₁
  rolled_room = ∥∥₁_map s.room (λ r. record {
    puts = r.0;
    below = omega arith;
    few = omega (arith, s.rest.wide, s.rest.rows.listed.few);
    rows = rolled_of r.0 r.1;
    room = subst (λ g. AreInBits (group_with s.rest.shape s.rest.key_count g) r.0) (sym same) r.2;
  })

pub err_any : {T E P : Type 0} (r : Result T E) → P → OnErr r P
err_any (Ok x) p = tt
err_any (Err x) p = p
