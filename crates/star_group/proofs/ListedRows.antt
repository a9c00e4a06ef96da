-- What stands at a number in rows that nothing finds by their keys.
use Rattle.star_group.{proofs.Common.{Entry, Row, ◌≡◌, ◌≤◌, ◌<◌, ◌+◌, ◌++◌, ◌∷◌, ◌∙◌, ℕ, zero, suc, List, [], None, Some, ap, arith, drop, get_or, length, refl, slice_get, sym, take, ⊎_elim, AllByRecursion, get_or_past, length-take-le, cases_lt, get_or_from_slice_get, slice_get_within, key_value_view, key_view, KeyPart, ListedRows, listed_entries, all_rolled_up, filled, length-cut, take-append-drop, drop_at}, specs.Keyed.keyed, proofs.CutRows.{cut_one, cut_wide, cut_append}}
use Rattle.star_program.specs.Rows.{cut}

-- ---- keys beside rows

pub length-keyed : (ks : List (List KeyPart)) (cs : List Row) → length ks ≡ length cs
    → length (keyed ks cs) ≡ length ks
unfolding keyed
length-keyed [] cs e = refl
length-keyed (k ∷ ks) [] e = absurd (omega (arith, e))
length-keyed (k ∷ ks) (c ∷ cs) e = ap suc (length-keyed ks cs (omega (arith, e)))

pub keyed_at : (ks : List (List KeyPart)) (cs : List Row) (i : ℕ) → length ks ≡ length cs
    → i < length ks → get_or (keyed ks cs) i ([], []) ≡ (filled (get_or ks i []), get_or cs i [])
unfolding keyed
keyed_at [] cs i e h = absurd (omega (arith, h))
keyed_at (k ∷ ks) [] i e h = absurd (omega (arith, e))
keyed_at (k ∷ ks) (c ∷ cs) zero e h = refl
keyed_at (k ∷ ks) (c ∷ cs) (suc i) e h = keyed_at ks cs i (omega (arith, e)) (omega (arith, h))

pub keyed_append : (ks js : List (List KeyPart)) (cs ds : List Row)
    → length ks ≡ length cs → keyed (ks ++ js) (cs ++ ds) ≡ keyed ks cs ++ keyed js ds
unfolding keyed
keyed_append [] js [] ds e = refl
keyed_append [] js (x ∷ cs) ds e = absurd (omega (arith, e))
keyed_append (j ∷ ks) js [] ds e = absurd (omega (arith, e))
keyed_append (j ∷ ks) js (x ∷ cs) ds e =
    ap (λ es. (filled j, x) ∷ es) (keyed_append ks js cs ds (omega (arith, e)))

none_keyed : (w m : ℕ) (ps : List KeyPart) (ns : Row) → keyed (cut w 0 ps) (cut m 0 ns) ≡ []
unfolding cut keyed
none_keyed w m ps ns = refl

pub no_entries : (w m n : ℕ) (ps : List KeyPart) (ns : Row) → n ≡ 0
    → keyed (cut w n ps) (cut m n ns) ≡ []
no_entries w m n ps ns e = ap (λ k. keyed (cut w k ps) (cut m k ns)) e ∙ none_keyed w m ps ns

-- ---- keys in six positions

-- a key in six positions is its first parts, where past them there is ALL
pub narrow_filled : (w : ℕ) (key : List KeyPart) → w ≤ length key
    → drop w key ≡ drop w all_rolled_up → filled (take w key) ≡ key
narrow_filled w key few narrow =
    ap (λ n. take w key ++ drop n all_rolled_up) (length-take-le w key few)
    ∙ ap (λ ps. take w key ++ ps) (sym narrow) ∙ take-append-drop w key

pub filled_narrow : (w : ℕ) (key : List KeyPart) → length key ≡ w
    → drop w (filled key) ≡ drop w all_rolled_up
filled_narrow w key long =
    drop_at key (drop (length key) all_rolled_up) w long ∙ ap (λ n. drop n all_rolled_up) long

-- past a key's own parts there is none
none_past : (parts : List KeyPart) → AllByRecursion (λ p. key_value_view p ≡ None) parts
    → (n index : ℕ) → get_or (key_view (drop n parts)) index None ≡ None
none_past [] h zero index = refl
none_past [] h (suc n) index = refl
none_past (p ∷ parts) h zero zero = h.0
none_past (p ∷ parts) h zero (suc index) = none_past parts h.1 zero index
none_past (p ∷ parts) h (suc n) index = none_past parts h.1 n index

part_filled : (n : ℕ) (parts : List KeyPart) (index : ℕ) → get_or (key_view parts) index None
    ≡ get_or (key_view (parts ++ drop n all_rolled_up)) index None
part_filled n [] index =
    sym (none_past all_rolled_up (refl, (refl, (refl, (refl, (refl, (refl, tt)))))) n index)
part_filled n (p ∷ parts) zero = refl
part_filled n (p ∷ parts) (suc index) = part_filled n parts index

-- ---- the rows

module _ (rows : ListedRows) where
  abbrev ks : List (List KeyPart)
  ks = cut rows.width rows.len rows.keys.items

  abbrev cs : List Row
  cs = cut rows.aggregate_count rows.len rows.cells.items

  pub key_count : length ks ≡ rows.len
  key_count = length-cut rows.width rows.len rows.keys.items

  pub same : length ks ≡ length cs
  same = key_count ∙ sym (length-cut rows.aggregate_count rows.len rows.cells.items)

  pub row_count : length (listed_entries rows) ≡ rows.len
  row_count = length-keyed ks cs same ∙ key_count

  pub entry_at : (number : ℕ) → number < length (listed_entries rows)
      → get_or (listed_entries rows) number ([], [])
      ≡ (filled (get_or ks number []), get_or cs number [])
  entry_at number h = keyed_at ks cs number same (omega (arith, h, row_count, key_count))

  pub key_wide : (number : ℕ) → number < length (listed_entries rows)
      → length (get_or ks number []) ≡ rows.width
  key_wide number h = cut_wide rows.width rows.len rows.keys.items number rows.long_keys
      (omega (arith, h, row_count))

  pub cells_wide : (number : ℕ) → number < length (listed_entries rows)
      → length (get_or cs number []) ≡ rows.aggregate_count
  cells_wide number h = cut_wide rows.aggregate_count rows.len rows.cells.items number
      rows.long_cells (omega (arith, h, row_count))

  pub row_wide : (number : ℕ) (e : Entry)
      → slice_get (listed_entries rows) number ≡ Some e → length e.1 ≡ rows.aggregate_count
  row_wide number e at =
      let there = slice_get_within (listed_entries rows) number e at in
      ap (λ (f : Entry). length f.1)
      (sym (get_or_from_slice_get (listed_entries rows) number e ([], []) at)
      ∙ entry_at number there) ∙ cells_wide number there

  -- what a row has at a position
  by_number : {P : ℕ → Type 0} → ((number : ℕ) → number < length (listed_entries rows) → P number)
      → ((number : ℕ) → length (listed_entries rows) ≤ number → P number) → (number : ℕ) → P number
  by_number {P} there past number = ⊎_elim {C = P number} (there number) (past number)
      (cases_lt number (length (listed_entries rows)))

  pub part_at : (number index : ℕ) → get_or (key_view (get_or ks number [])) index None
      ≡ get_or (key_view (get_or (listed_entries rows) number ([], [])).0) index None
  part_at number index =
      grind (arith, by_number, part_filled, entry_at, get_or_past, row_count, key_count)

  pub row_at : (number : ℕ) → get_or cs number [] ≡ (get_or (listed_entries rows) number ([], [])).1
  row_at number = grind (arith, by_number, entry_at, get_or_past, row_count, key_count, same)

  -- more rows
  pub keys_more : (count : ℕ) (qs js : List KeyPart) → js ≡ rows.keys.items ++ qs
      → (n : ℕ) → n ≡ rows.len + count → cut rows.width n js ≡ ks ++ cut rows.width count qs
  keys_more count qs js keys n more = ap (cut rows.width n) keys
      ∙ cut_append rows.width count rows.len n rows.keys.items qs more rows.long_keys

  pub entries_more : (count : ℕ) (qs js : List KeyPart) (row ds : Row)
      → js ≡ rows.keys.items ++ qs → ds ≡ rows.cells.items ++ row → (n : ℕ) → n ≡ rows.len + count
      → keyed (cut rows.width n js) (cut rows.aggregate_count n ds)
      ≡ listed_entries rows ++ keyed (cut rows.width count qs) (cut rows.aggregate_count count row)
  entries_more count qs js row ds keys cells n more =
      (λ i. keyed (keys_more count qs js keys n more i)
      ((ap (cut rows.aggregate_count n) cells
      ∙ cut_append rows.aggregate_count count rows.len n rows.cells.items row more
      rows.long_cells) i))
      ∙ keyed_append ks (cut rows.width count qs) cs (cut rows.aggregate_count count row) same

-- the only one of some rows
pub one_entry : (w m : ℕ) (key : List KeyPart) (row : Row) → w ≤ length key
    → drop w key ≡ drop w all_rolled_up → length row ≡ m
    → keyed (cut w 1 (take w key)) (cut m 1 row) ≡ (key, row) ∷ []
unfolding keyed
one_entry w m key row few narrow wide =
    (λ i. keyed (cut_one w (take w key) (length-take-le w key few) i) (cut_one m row wide i))
    ∙ ap (λ k. (k, row) ∷ []) (narrow_filled w key few narrow)
