-- The rows that a plan selects of lineorder's rows are those that it selects of each part.
use Rattle.std.proofs.Common.{◌≡◌, ◌∙◌, ◌+◌, true, List, [], ◌∷◌, ◌++◌, Option, Some, None, refl, sym, ap, true≢false, arith}
use Rattle.star_merge_laws.proofs.{Common.{Database, Join, Joined, Lineorder, Plan, Row, TableId, all_of, and_parts, filter, filter-append, flat_map, flat_map-append, is_foreign, joined_rows, list_all, matches, only_row, partners, plan_rows, references, refers, rows_in, table_of, table_same, tables_with, with_row}, LoadableParts.{IsBeside, referred_beside, rows_beside}}

-- ---- joins are with other tables than lineorder

refers_to : (o : Option TableId) (t : TableId) → refers o t ≡ true → o ≡ Some t
refers_to None t e = absurd (true≢false (sym e))
refers_to (Some s) t e = ap Some (table_same s t e)

key_beside : (j : Join) → is_foreign j.foreign j.key ≡ true → IsBeside (table_of j.key)
key_beside j e = grind (arith, referred_beside, refers_to, references, and_parts)

abbrev pub AreForeign : List Join → Type 0
AreForeign js = list_all (λ j. is_foreign j.foreign j.key) js ≡ true

module _ (database : Database) where
  -- what lineorder has doesn't matter to the partners of a row
  partners_beside : (rows : List Row) (js : List Join) → AreForeign js → (row : Joined)
      → partners (tables_with database rows) js row ≡ partners (rows_in database) js row
  partners_beside rows [] foreign row = refl
  partners_beside rows (j ∷ js) foreign row =
      let parts = and_parts (is_foreign j.foreign j.key)
      (list_all (λ q. is_foreign q.foreign q.key) js) foreign in
      λ i. flat_map (λ d. partners_beside rows js parts.1 (with_row row (table_of j.key) d) i)
      (filter (matches row j)
      (rows_beside database rows (table_of j.key) (key_beside j parts.0) i))

  module _ (js : List Join) (foreign : AreForeign js) where
    abbrev partners_of : Row → List Joined
    partners_of l = partners (rows_in database) js (only_row Lineorder l)

    joined_with_partners : (rows : List Row)
        → joined_rows (tables_with database rows) js ≡ flat_map partners_of rows
    joined_with_partners rows =
        λ i. flat_map (λ l. partners_beside rows js foreign (only_row Lineorder l) i) rows

    pub joined_together : (xs ys : List Row) → joined_rows (tables_with database (xs ++ ys)) js
        ≡ joined_rows (tables_with database xs) js ++ joined_rows (tables_with database ys) js
    joined_together xs ys =
        joined_with_partners (xs ++ ys) ∙ flat_map-append partners_of xs ys
        ∙ (λ i. sym (joined_with_partners xs) i ++ sym (joined_with_partners ys) i)

  module _ (p : Plan) (foreign : AreForeign p.joins) where
    pub selected_together : (xs ys : List Row) → plan_rows (tables_with database (xs ++ ys)) p
        ≡ plan_rows (tables_with database xs) p ++ plan_rows (tables_with database ys) p
    selected_together xs ys = grind (arith, joined_together, filter-append)

    pub selected_of_parts : (parts : List (List Row))
        → plan_rows (tables_with database (all_of parts)) p
        ≡ flat_map (λ part. plan_rows (tables_with database part) p) parts
    selected_of_parts [] = refl
    selected_of_parts (part ∷ parts) =
        selected_together part (all_of parts)
        ∙ ap (λ rows. plan_rows (tables_with database part) p ++ rows) (selected_of_parts parts)
