-- What cells hold, which rows a put changes, the keys and positions of rows, batches, and which
-- numbers add up, by computation; and what each relation says.
use Rattle.star_group.{proofs.Common.{RowKey, ◌≡◌, ◌↔◌, ◌<◌, ◌≤◌, ◌+◌, ◌*◌, ◌^◌, ◌-◌, ◌++◌, ◌||◌, ℕ, true, false, true≢false, ℤ, pos, negsuc, List, [], ◌∷◌, Option, Some, None, arith, length, map, replicate, sym, slice_index_or, refl, Bor, AllByRecursion, IsDistinct, list_any, Gives, Gives2, Gives3, PBrand1, Sum, Count, Min, Max, Plain, Cube, Rollup, aggregate, numbers_for, GroupDecl, KeyValue, Number, Code, value_count, same_keys, IsSmall, Update, aggregate_at, PutBatch, Span, IsRowOver, key_value_view, puts_in, puts_with, row_found, HasRoomForRows, IsKeyWord, IsPutBatch, batch_keys, key_word, put_in, puts_after, word_in, cell_over, neutral, step, has_puts, IsWithPut, is_of_put, IsOf, group_id, offset_of, id_count, AddUp, Group, HasRoom, IsContent, combined, group_declared, key_lists, put_number, puts_of}, specs.BaseKeys.{padded, vary}, specs.Cells.held, specs.OneMore.group_aggregate, specs.Stores.{above_zero, below_zero}}
use Rattle.std.specs.Prelude.{All}
use Rattle.star_program.specs.declared.group.GroupKey.TheVariants as declared
use Rattle.star_group.specs.declared.keyed.key.KeyPart.TheVariants as part

-- ---- cells: over no number, over a greater one and over a lesser one

cells : Gives3 step ((Sum, pos 4, None, pos 4) ∷ (Count, pos 4, None, pos 1)
    ∷ (Min, pos 4, None, pos 4) ∷ (Max, pos 4, None, pos 4) ∷ (Sum, pos 3, Some (pos 5), pos 8)
    ∷ (Count, pos 3, Some (pos 5), pos 6) ∷ (Min, pos 3, Some (pos 5), pos 3)
    ∷ (Max, pos 3, Some (pos 5), pos 5) ∷ (Min, pos 7, Some (pos 5), pos 5)
    ∷ (Max, pos 7, Some (pos 5), pos 7) ∷ [])
    × Gives (λ g. held g (pos 4 ∷ negsuc 1 ∷ pos 6 ∷ []))
    ((Sum, Some (pos 8)) ∷ (Count, Some (pos 3)) ∷ (Min, Some (negsuc 1)) ∷ (Max, Some (pos 6))
    ∷ []) × Gives (λ g. held g []) ((Sum, None) ∷ (Count, None) ∷ (Min, None) ∷ (Max, None) ∷ [])
    × Gives neutral ((Sum, pos 0) ∷ (Count, pos 0) ∷ (Min, pos (2 ^ 63 - 1))
    ∷ (Max, negsuc (2 ^ 63 - 1)) ∷ [])
    × Gives2 combined ((Sum, pos 4 ∷ pos 6 ∷ [], Some (pos 10))
    ∷ (Count, pos 4 ∷ pos 6 ∷ [], Some (pos 10)) ∷ (Min, pos 4 ∷ pos 6 ∷ [], Some (pos 4))
    ∷ (Max, pos 4 ∷ pos 6 ∷ [], Some (pos 6)) ∷ (Count, [], Some (pos 0)) ∷ [])
unfolding held
cells = (refl, refl, refl, refl, refl)

-- ---- keys of rows: nothing past the keys, and no position more; the first positions vary

rows_of_keys : Gives2 padded ((
  3,
  Number (pos 7) ∷ Code 2 ∷ [],
  Some (Number (pos 7))
      ∷ Some (Code 2) ∷ None ∷ [],
) ∷ (1, Number (pos 7) ∷ Code 2 ∷ [], Some (Number (pos 7)) ∷ [])
    ∷ []) × Gives2 vary ((
      2,
      Some (Number (pos 7)) ∷ Some (Code 2) ∷ Some (Code 5)
          ∷ [],
      (Some (Number (pos 7)) ∷ Some (Code 2) ∷ Some (Code 5) ∷ [])
          ∷ (Some (Number (pos 7)) ∷ None ∷ Some (Code 5) ∷ [])
          ∷ (None ∷ Some (Code 2) ∷ Some (Code 5) ∷ []) ∷ (None ∷ None ∷ Some (Code 5) ∷ []) ∷ [],
    )
    ∷ (0, Some (Code 2) ∷ [], (Some (Code 2) ∷ []) ∷ []) ∷ (2, [], [] ∷ []) ∷ [])
unfolding padded vary
rows_of_keys = (refl, refl)

abbrev key : Option KeyValue → Option KeyValue → Option KeyValue → RowKey
key a b c = a ∷ b ∷ c ∷ None ∷ None ∷ None ∷ []

abbrev keys_asked : List RowKey
keys_asked = key (Some (Code 2)) (Some (Number (pos 7))) (Some (Code 5))
    ∷ key (Some (Code 2)) (Some (Number (pos 7))) None ∷ key (Some (Code 2)) None None
    ∷ key None None None ∷ key None None (Some (Code 5))
    ∷ key (Some (Code 2)) None (Some (Code 5)) ∷ key (Some (Code 3)) None None ∷ []

-- of a rollup those of the prefixes, that of none among them
keys_of_puts : Gives2 (λ s ks. map (is_of_put s ks) keys_asked) ((
  Plain,
  Code 2 ∷ Number (pos 7) ∷ Code 5 ∷ [],
  true ∷ false ∷ false ∷ false ∷ false ∷ false ∷ false ∷ [],
)
    ∷ (
      Cube,
      Code 2 ∷ Number (pos 7) ∷ Code 5 ∷ [],
      true ∷ true ∷ true ∷ true ∷ true ∷ true ∷ false ∷ [],
    )
    ∷ (
      Rollup,
      Code 2 ∷ Number (pos 7) ∷ Code 5 ∷ [],
      true ∷ true ∷ true ∷ true ∷ false ∷ false ∷ false ∷ [],
    )
    ∷ (Plain, [], false ∷ false ∷ false ∷ true ∷ false ∷ false ∷ false ∷ []) ∷ [])
unfolding padded vary
keys_of_puts = refl

-- ---- the rows that a put changes, and what they hold

abbrev sales : Group
sales = record { shape = Plain; count = 1; aggregates = Sum ∷ Max ∷ [] }

abbrev sale : ℕ → ℤ → Update
sale key z = record { keys = Code key ∷ []; values = z ∷ z ∷ [] }

abbrev puts : List Update
puts = sale 1 (pos 4) ∷ sale 2 (pos 5) ∷ sale 1 (pos 3) ∷ []

abbrev row_of : ℕ → RowKey
row_of n = key (Some (Code n)) None None

changed : Gives (λ q. is_of_put sales.shape (sale 1 (pos 4)).keys q)
    ((row_of 1, true) ∷ (row_of 2, false) ∷ (key None None None, false) ∷ [])
    × (puts_in sales (row_of 1) puts ≡ sale 1 (pos 4) ∷ sale 1 (pos 3) ∷ [])
    × (puts_with (row_of 1) puts ≡ sale 1 (pos 4) ∷ sale 1 (pos 3) ∷ [])
    × Gives has_puts ((puts, true) ∷ ([], false) ∷ [])
    × Gives2 (λ q index. held (aggregate_at sales.aggregates index)
    (numbers_for index (puts_in sales q puts)))
    ((row_of 1, 0, Some (pos 7)) ∷ (row_of 1, 1, Some (pos 4)) ∷ (row_of 3, 0, None) ∷ [])
    × (held Sum (numbers_for 0 puts) ≡ Some (pos 12))
    × Gives key_value_view ((part.All, None) ∷ (part.Number (pos 7), Some (Number (pos 7)))
    ∷ (part.Code 2, Some (Code 2)) ∷ [])
    × Gives (row_found ((part.Code 1 ∷ part.All ∷ [], Some (pos 7) ∷ [])
    ∷ (part.Code 2 ∷ part.All ∷ [], Some (pos 5) ∷ []) ∷ []))
    ((Some (Code 2) ∷ None ∷ [], Some (Some (pos 5) ∷ [])) ∷ (Some (Code 3) ∷ None ∷ [], None)
    ∷ [])
unfolding padded held vary
changed = (refl, refl, refl, refl, refl, refl, refl, refl)

-- a row is there exactly where it has puts
found : IsRowOver sales (puts_in sales (row_of 3) puts) None
    × (IsRowOver sales (puts_in sales (row_of 1) puts) None → ⊥)
unfolding padded vary
found = (refl, λ h. true≢false h)

-- ---- 128 bits of a SUM, 64 of a COUNT

room : (above_zero (pos 4 ∷ negsuc 2 ∷ pos 5 ∷ negsuc 0 ∷ []) ≡ 9)
    × (below_zero (pos 4 ∷ negsuc 2 ∷ pos 5 ∷ negsuc 0 ∷ []) ≡ 4)
    × Gives (λ index. put_number index (sale 1 (pos 4))) ((0, pos 4) ∷ (1, pos 4) ∷ (2, pos 0) ∷ [])
    × (group_declared (record {
      shape = Cube;
      keys = declared.Number ∷ declared.Number ∷ [];
      aggregates = Min ∷ [];
    }) ≡ record { shape = Cube; count = 2; aggregates = Min ∷ [] })
unfolding above_zero below_zero
room = (refl, refl, refl, refl)

module _ (d : Group) (us content : List Update) (zs : List ℤ) where
  contents : (AddUp zs ↔ ((above_zero zs < 2 ^ 127) × (below_zero zs ≤ 2 ^ 127)))
      × (HasRoom d us ↔ (((content : List Update) → IsContent d us content
      → (index : ℕ) → index < length d.aggregates → aggregate_at d.aggregates index ≡ Sum
      → AddUp (numbers_for index content))
      × ((index : ℕ) → index < length d.aggregates → aggregate_at d.aggregates index ≡ Count
      → length us < 2 ^ 63)))
      × (IsContent d us content ↔ (((keys : List KeyValue)
      → list_any (same_keys keys) (key_lists content) ≡ list_any (same_keys keys) (key_lists us))
      × IsDistinct same_keys (key_lists content)
      × AllByRecursion (λ entry. (index : ℕ) → index < length d.aggregates
      → aggregate (aggregate_at d.aggregates index) (numbers_for index (puts_of entry.keys us))
      ≡ Some (put_number index entry)) content))
  contents = (
    (λ a. (a.above, a.below), λ h. record { above = h.0; below = h.1 }),
    (λ r. (r.sums, r.counts), λ h. record { sums = h.0; counts = h.1 }),
    (λ c. (c.keys, c.once, c.numbers), λ h. record { keys = h.0; once = h.1; numbers = h.2 }),
  )

  -- a put's key list has its numbers with those that it had, and the others have what they had
  one_more : (put : Update) (after : List Update) → IsWithPut d put content after
      ↔ (((keys : List KeyValue) → list_any (same_keys keys) (key_lists after)
      ≡ (same_keys keys put.keys || list_any (same_keys keys) (key_lists content)))
      × IsDistinct same_keys (key_lists after)
      × ((index : ℕ) → index < length d.aggregates → group_aggregate put.keys index after
      ≡ Some (step (aggregate_at d.aggregates index) (put_number index put)
      (group_aggregate put.keys index content)))
      × ((keys : List KeyValue) → same_keys keys put.keys ≡ false
      → (index : ℕ) → index < length d.aggregates
      → group_aggregate keys index after ≡ group_aggregate keys index content))
  one_more put after = (
    λ w. (w.keys, w.once, w.own, w.others),
    λ h. record { keys = h.0; once = h.1; own = h.2; others = h.3 },
  )

content_aggregates : Gives2 (λ ks index. group_aggregate ks index puts) (
    (Code 1 ∷ [], 0, Some (pos 4)) ∷ (Code 2 ∷ [], 1, Some (pos 5)) ∷ (Code 3 ∷ [], 0, None) ∷ [])
    × (cell_over sales 1 (sale 1 (pos 4) ∷ []) ≡ pos 4)
    × (cell_over sales 0 (sale 1 (pos 5) ∷ sale 2 (pos 5) ∷ []) ≡ pos 10)
    × (cell_over sales 1 [] ≡ negsuc (2 ^ 63 - 1))
unfolding group_aggregate held
content_aggregates = (refl, refl, refl, refl)

-- ---- the positions of keys that lie in ranges, the numbers from -1 to 2 and the codes 5 and 6;
-- that of the first key counts by one

abbrev numbers : Span
numbers = record {
  is_code = false;
  low = negsuc 0;
  last = 3;
  high = omega arith;
  codes = λ coded. absurd (true≢false (sym coded));
}

abbrev coded : Span
coded = record {
  is_code = true;
  low = pos 5;
  last = 1;
  high = omega arith;
  codes = λ _. (omega arith, omega arith);
}

key_ids : Gives2 offset_of ((numbers, Number (negsuc 1), None)
    ∷ (numbers, Number (negsuc 0), Some 0) ∷ (numbers, Number (pos 0), Some 1)
    ∷ (numbers, Number (pos 2), Some 3) ∷ (numbers, Number (pos 3), None) ∷ (numbers, Code 0, None)
    ∷ (coded, Code 4, None) ∷ (coded, Code 5, Some 0) ∷ (coded, Code 6, Some 1)
    ∷ (coded, Code 7, None) ∷ (coded, Number (pos 5), None) ∷ [])
    × Gives id_count ((numbers ∷ coded ∷ [], 8) ∷ (coded ∷ [], 2) ∷ ([], 1) ∷ [])
    × Gives (group_id (numbers ∷ coded ∷ []))
    ((Number (negsuc 0) ∷ Code 5 ∷ [], Some 0) ∷ (Number (pos 2) ∷ Code 5 ∷ [], Some 3)
    ∷ (Number (negsuc 0) ∷ Code 6 ∷ [], Some 4) ∷ (Number (pos 2) ∷ Code 6 ∷ [], Some 7)
    ∷ (Number (pos 3) ∷ Code 5 ∷ [], None) ∷ (Number (pos 2) ∷ Code 7 ∷ [], None)
    ∷ (Number (pos 0) ∷ [], None) ∷ [])
    × Gives (group_id []) (([], Some 0) ∷ (Code 5 ∷ [], None) ∷ []) × IsOf numbers declared.Number
    × IsOf coded (declared.Text PBrand1)
key_ids = (refl, refl, refl, refl, refl, refl)

-- ---- batches: the word of a register is in its vector of 1,024; a COUNT is 1, and the others take
-- the registers in turn; puts come newest first

abbrev vectors : List ℤ
vectors = replicate 1024 (pos 7) ++ (pos 8 ∷ pos 9 ∷ [])

abbrev numbered : ℕ → Update
numbered row = record { keys = []; values = pos row ∷ [] }

words : Gives2 key_word (
    (declared.Number, pos 5, Number (pos 5)) ∷ (declared.Number, negsuc 4, Number (negsuc 4))
    ∷ (declared.Text PBrand1, pos 5, Code 5) ∷ (declared.Text PBrand1, negsuc 4, Code 0) ∷ [])
    × (batch_keys (declared.Number ∷ declared.Text PBrand1 ∷ []) (pos 5 ∷ pos 6 ∷ [])
    ≡ Number (pos 5) ∷ Code 6 ∷ [])
    × Gives2 (word_in vectors) ((0, 0, pos 7) ∷ (0, 1, pos 8) ∷ (0, 2, pos 0) ∷ (1, 1, pos 9) ∷ [])
    × (puts_after numbered (numbered 9 ∷ []) 2 ≡ numbered 1 ∷ numbered 0 ∷ numbered 9 ∷ [])
words = (refl, refl, refl, refl)

module _ (b : PutBatch) (z : ℤ) (d : Group) (put : ℕ → Update) (us : List Update) (n : ℕ) where
  batches : (IsKeyWord declared.Number z ≡ Unit {0})
      × (IsKeyWord (declared.Text PBrand1) z ≡ ((n : ℕ) × (n < 2 ^ 32) × (z ≡ pos n)))
      × (HasRoomForRows d put us n
      ≡ ((row : ℕ) → row < n → HasRoom d (put row ∷ puts_after put us row)))
      × (IsPutBatch b ↔ ((b.rows ≤ 1024) × IsSmall b.declared.now
      × (length b.keys.now ≡ length b.declared.now.keys)
      × (length b.values.now ≡ value_count b.declared.now.aggregates)
      × All (λ r. r * 1024 + 1024 ≤ length b.vectors.now) b.keys.now
      × All (λ r. r * 1024 + 1024 ≤ length b.vectors.now) b.values.now
      × ((row : ℕ) → row < b.rows → (i : ℕ) → i < length b.keys.now
      → IsKeyWord (slice_index_or b.declared.now.keys i declared.Number)
      (word_in b.vectors.now row (slice_index_or b.keys.now i 0)))))
  batches = (
    refl,
    refl,
    refl,
    (
      λ p. (p.few, p.small, p.keys, p.values, p.key_vectors, p.value_vectors, p.words),
      λ h. record {
        few = h.0;
        small = h.1;
        keys = h.2;
        values = h.3;
        key_vectors = h.4;
        value_vectors = h.5;
        words = h.6;
      },
    ),
  )

row_put : (ws : Bor (List ℤ)) (declaration : Bor GroupDecl) (registers : Bor (List ℕ))
    → put_in (record {
      vectors = record ws { now = vectors };
      rows = 2;
      declared = record declaration {
        now = record {
          shape = Plain;
          keys = declared.Number ∷ [];
          aggregates = Sum ∷ Count ∷ Max ∷ [];
        };
      };
      keys = record registers { now = 1 ∷ [] };
      values = record registers { now = 0 ∷ 1 ∷ [] };
    }) 1
    ≡ record { keys = Number (pos 9) ∷ []; values = pos 7 ∷ pos 1 ∷ pos 9 ∷ [] }
row_put ws declaration registers = refl
