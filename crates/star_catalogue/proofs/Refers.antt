-- The foreign keys of lineorder: found, or the first that is absent.
use Rattle.std.{proofs.Common.{◌≡◌, ◌+◌, ◌<◌, ◌∷◌, ◌∙◌, ℕ, ℤ, List, [], All, true, false, Contains, Option, Some, None, drop, get_or, length, map, refl, sym, ap, inl, inr, arith}, proofs.Math.ListN.get_or-map, proofs.Math.Seq.drop-length, proofs.lemmas.Bool.cases_Bool, proofs.lemmas.List.length-map, proofs.lemmas.Cmp.int_eq_equiv, proofs.lemmas.List.Elements.All-map, proofs.lemmas.List.FromFn.{get_or-enumerate_from, length-enumerate_from}, proofs.lemmas.Map.Keys.any_passes_from_place, proofs.lemmas.Map.Views.{Contains-from_any, list_any-from_Contains}, proofs.lemmas.Option.{slice_get-get_or, slice_get-map}, specs.Cmp.IsEquivalence, specs.Cmp.Lexicographic.lists_equiv, specs.Cmp.Rules.signed_items, specs.List.{enumerate_from, list_any, slice_get}, specs.Option.option_map}
use Rattle.star_schema.{specs.Loadable.{IsSound, RefersTo, foreign_keys, keys_of, number_at}, specs.declared.column.ColumnId.ColumnId, specs.declared.column.ColumnId.TheVariants.DDatekey, specs.declared.table.TableId.TableId, specs.declared.table.TableId.TheVariants.Lineorder, specs.Bounds.{numbers_at, numbers_of}, specs.Database.{Database, rows_in}, specs.Schema.references, specs.Tables.Value, proofs.KeyColumns.foreign_key}
use Rattle.star_common.{specs.First.first_answer, proofs.Firsts.{all_without_answer, enumerated_at, first_answer_here, first_answer_none, first_answer_on}}
use Rattle.star_catalogue.specs.{Load.{absent_fault, foreign_key_fault, is_found, row_fault, same_key}, declared.fault.LoadFault.LoadFault, declared.fault.LoadFault.TheVariants.AbsentKey}

-- the number of a row in a column
pub number_of_row : (c : ColumnId) (rows : List (List Value)) (row : ℕ) (n : ℤ) → row < length rows
    → slice_get (numbers_of c rows) row ≡ Some n → number_at c (get_or rows row []) ≡ n
unfolding numbers_at
number_of_row c rows row n within at =
    let there = slice_get-map (number_at c) rows row
    ∙ ap (option_map (number_at c)) (slice_get-get_or rows row [] within) in
    let same : Some (number_at c (get_or rows row [])) ≡ Some n = sym there ∙ at in
    cc same

key_is : (a b : List ℤ) → same_key a b ≡ true → a ≡ b
key_is a b = (signed_items a b).0

-- a number that is a key
pub cell_known : (database : Database) (at_row : ℕ) (row : List Value) (c : ColumnId) (t : TableId)
    (n : ℤ) (index : ℕ) → references c ≡ Some t → number_at c row ≡ n
    → slice_get (keys_of t (rows_in database t)) index ≡ Some (n ∷ [])
    → foreign_key_fault database at_row row c ≡ None
cell_known database at_row row c t n index refers number at =
    let found : list_any (same_key (n ∷ [])) (keys_of t (rows_in database t)) ≡ true =
    any_passes_from_place (same_key (n ∷ [])) (keys_of t (rows_in database t)) index (n ∷ []) at
    ((signed_items (n ∷ []) (n ∷ [])).1 refl) in
    let known : is_found database (references c) (number_at c row) ≡ true =
    rw (refers, number) found in
    rw known refl

-- a number that is no key
pub cell_absent : (database : Database) (at_row : ℕ) (row : List Value) (c : ColumnId) (t : TableId)
    (n : ℤ) → references c ≡ Some t → number_at c row ≡ n
    → ((index : ℕ) → slice_get (keys_of t (rows_in database t)) index ≡ Some (n ∷ []) → ⊥)
    → foreign_key_fault database at_row row c ≡ Some (AbsentKey at_row c)
cell_absent database at_row row c t n refers number none =
    let absent : list_any (same_key (n ∷ [])) (keys_of t (rows_in database t)) ≡ false =
    elim (cases_Bool (list_any (same_key (n ∷ [])) (keys_of t (rows_in database t)))) [
      | inl found ↦
          let (index, within, is) =
          Contains-from_any key_is (n ∷ []) (keys_of t (rows_in database t)) found in
          absurd (none index
          (slice_get-get_or (keys_of t (rows_in database t)) index (n ∷ []) within
          ∙ ap (λ (k : List ℤ). Some k) is))
      | inr other ↦ other
    ] in
    let unknown : is_found database (references c) (number_at c row) ≡ false =
    rw (refers, number) absent in
    rw unknown refl

pub cell_free : (database : Database) (at_row : ℕ) (row : List Value) (c : ColumnId)
    → references c ≡ None → foreign_key_fault database at_row row c ≡ None
cell_free database at_row row c free =
    let known : is_found database (references c) (number_at c row) ≡ true = rw free refl in
    rw known refl

-- the column at a position of a slice that lists known ones
pub listed_at : (known columns : List ColumnId) (i : ℕ) → columns ≡ known → i < length columns
    → slice_get known i ≡ Some (get_or columns i DDatekey)
listed_at known columns i are within =
    ap (λ (cs : List ColumnId). slice_get cs i) (sym are)
    ∙ slice_get-get_or columns i DDatekey within

-- the foreign keys of a row, column by column
pub row_on : (database : Database) (at_row : ℕ) (row : List Value) (i : ℕ) (c : ColumnId)
    → slice_get foreign_keys i ≡ Some c → foreign_key_fault database at_row row c ≡ None
    → row_fault database at_row row
    ≡ first_answer (foreign_key_fault database at_row row) (drop i foreign_keys)
    → row_fault database at_row row
    ≡ first_answer (foreign_key_fault database at_row row) (drop (i + 1) foreign_keys)
row_on database at_row row i c at none so_far =
    so_far ∙ first_answer_on (foreign_key_fault database at_row row) foreign_keys i c at none

pub row_here : (database : Database) (at_row : ℕ) (row : List Value) (i : ℕ) (c : ColumnId)
    (f : LoadFault) → slice_get foreign_keys i ≡ Some c
    → foreign_key_fault database at_row row c ≡ Some f
    → row_fault database at_row row
    ≡ first_answer (foreign_key_fault database at_row row) (drop i foreign_keys)
    → row_fault database at_row row ≡ Some f
row_here database at_row row i c f at some so_far =
    so_far ∙ first_answer_here (foreign_key_fault database at_row row) foreign_keys i c f at some

-- after the last element there is no answer
pub after_all : {X A : Type 0} (f : X → Option A) (xs : List X) (n : ℕ) → length xs ≡ n
    → first_answer f (drop n xs) ≡ None
unfolding first_answer
after_all f xs n all = rw (← all, drop-length xs) refl

-- the foreign keys of all rows, row by row
abbrev pub absent_from : Database → ℕ → Option LoadFault
absent_from database row =
    first_answer (λ (at_row, values). row_fault database at_row values)
    (drop row (enumerate_from 1 (rows_in database Lineorder)))

numbered : (database : Database) (row : ℕ) → row < length (rows_in database Lineorder)
    → slice_get (enumerate_from 1 (rows_in database Lineorder)) row
    ≡ Some (row + 1, get_or (rows_in database Lineorder) row [])
numbered database row within =
    let next : 1 + row ≡ row + 1 = omega arith in
    enumerated_at 1 (rows_in database Lineorder) row (get_or (rows_in database Lineorder) row [])
    (slice_get-get_or (rows_in database Lineorder) row [] within)
    ∙ ap (λ (n : ℕ). Some (n, get_or (rows_in database Lineorder) row [])) next

pub absent_start : (database : Database) → absent_fault database ≡ absent_from database 0
unfolding absent_fault
absent_start database = refl

pub absent_on : (database : Database) (row : ℕ) → row < length (rows_in database Lineorder)
    → row_fault database (row + 1) (get_or (rows_in database Lineorder) row []) ≡ None
    → absent_fault database ≡ absent_from database row
    → absent_fault database ≡ absent_from database (row + 1)
absent_on database row within none so_far =
    so_far ∙ first_answer_on (λ (at_row, values). row_fault database at_row values)
    (enumerate_from 1 (rows_in database Lineorder)) row
    (row + 1, get_or (rows_in database Lineorder) row []) (numbered database row within) none

pub absent_here : (database : Database) (row : ℕ) (f : LoadFault)
    → row < length (rows_in database Lineorder)
    → row_fault database (row + 1) (get_or (rows_in database Lineorder) row []) ≡ Some f
    → absent_fault database ≡ absent_from database row → absent_fault database ≡ Some f
absent_here database row f within some so_far =
    so_far ∙ first_answer_here (λ (at_row, values). row_fault database at_row values)
    (enumerate_from 1 (rows_in database Lineorder)) row
    (row + 1, get_or (rows_in database Lineorder) row []) f (numbered database row within) some

pub absent_end : (database : Database) (row : ℕ) → length (rows_in database Lineorder) ≡ row
    → absent_fault database ≡ absent_from database row → absent_fault database ≡ None
absent_end database row all so_far =
    so_far ∙ after_all (λ (at_row, values). row_fault database at_row values)
    (enumerate_from 1 (rows_in database Lineorder)) row
    (length-enumerate_from 1 (rows_in database Lineorder) ∙ all)

-- where no foreign key is absent, each is found
cell_found : (database : Database) (at_row : ℕ) (row : List Value) (c : ColumnId) (t : TableId)
    → references c ≡ Some t → foreign_key_fault database at_row row c ≡ None
    → Contains (keys_of t (rows_in database t)) (number_at c row ∷ [])
cell_found database at_row row c t refers none =
    let known : is_found database (references c) (number_at c row) ≡ true =
    elim (cases_Bool (is_found database (references c) (number_at c row))) [
      | inl found ↦ found
      | inr absent ↦ let bad : Some (AbsentKey at_row c) ≡ None = rw absent at none in cc bad
    ] in
    Contains-from_any key_is (number_at c row ∷ []) (keys_of t (rows_in database t))
    (rw refers at known)

pub none_absent : (database : Database) → absent_fault database ≡ None
    → (c : ColumnId) (t : TableId) → references c ≡ Some t → RefersTo database c t
unfolding absent_fault numbers_at
none_absent database none c t refers =
    let rows = rows_in database Lineorder in
    let key = foreign_key c t refers in
    let each = all_without_answer (λ (at_row, values). row_fault database at_row values)
    (enumerate_from 1 rows) none in
    rw key.0.table
    (All-map (λ (n : ℤ). Contains (keys_of t (rows_in database t)) (n ∷ [])) (number_at c) rows
    (λ i d within.
    let row : row_fault database (1 + i) (get_or rows i d) ≡ None =
    rw (get_or-enumerate_from 1 rows i (0, d) within) at
    (each i (0, d) (omega (arith, within, length-enumerate_from 1 rows))) in
    let cells = all_without_answer (foreign_key_fault database (1 + i) (get_or rows i d))
    foreign_keys
    row in
    let here : foreign_key_fault database (1 + i) (get_or rows i d) c ≡ None =
    rw key.1.2 at (cells key.1.0 c key.1.1) in
    cell_found database (1 + i) (get_or rows i d) c t refers here))

-- where each is found, none is absent
key_equiv : IsEquivalence same_key
key_equiv = lists_equiv int_eq_equiv

cell_sound : (database : Database) → IsSound database → (at_row i : ℕ) (d : List Value)
    → i < length (rows_in database Lineorder) → (c : ColumnId)
    → foreign_key_fault database at_row (get_or (rows_in database Lineorder) i d) c ≡ None
unfolding numbers_at
cell_sound database sound at_row i d within c = by (references c) refl
  where
    row : List Value
    row = get_or (rows_in database Lineorder) i d

    by : (r : Option TableId) → references c ≡ r → foreign_key_fault database at_row row c ≡ None
    by None free = cell_free database at_row row c free
    by (Some t) refers =
        let key = foreign_key c t refers in
        let all : All (λ (n : ℤ). Contains (keys_of t (rows_in database t)) (n ∷ []))
        (map (number_at c) (rows_in database Lineorder)) =
        rw key.0.table at (sound.found c t refers) in
        let there = all i (number_at c d)
        (omega (arith, within, length-map (rows_in database Lineorder) (number_at c))) in
        let found : Contains (keys_of t (rows_in database t)) (number_at c row ∷ []) =
        rw (get_or-map (number_at c) (rows_in database Lineorder) i d) at there in
        let any = list_any-from_Contains key_equiv (number_at c row ∷ [])
        (keys_of t (rows_in database t)) found in
        let known : is_found database (references c) (number_at c row) ≡ true = rw refers any in
        rw known refl

pub sound_none_absent : (database : Database) → IsSound database → absent_fault database ≡ None
unfolding absent_fault numbers_at
sound_none_absent database sound =
    let rows = rows_in database Lineorder in
    first_answer_none (λ (at_row, values). row_fault database at_row values) (enumerate_from 1 rows)
    (λ i d within.
    let few : i < length rows = omega (arith, within, length-enumerate_from 1 rows) in
    rw (get_or-enumerate_from 1 rows i d few)
    (first_answer_none (foreign_key_fault database (1 + i) (get_or rows i d.1)) foreign_keys
    (λ k c _. cell_sound database sound (1 + i) i d.1 few (get_or foreign_keys k c))))
