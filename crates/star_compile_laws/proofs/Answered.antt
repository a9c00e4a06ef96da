-- The outcomes of a compiled program are the query's answers.
use Rattle.std.{proofs.Common.{◌≡◌, ℕ, zero, suc, ◌<◌, true, false, List, [], ◌∷◌, length, Option, Some, None, refl, sym, ap, subst, ◌∙◌, arith}, specs.Prelude.{pos, map, nat_lt}, specs.List.{Contains, list_all}, specs.Option.option_map, specs.Ordering.is_eq, proofs.lemmas.Bool.and_parts, proofs.lemmas.List.{length-map, length-replicate}, proofs.lemmas.List.Sorted.{IsPermutation-reverse, IsPermutation-sym}, proofs.lemmas.Grind.common_steps}
use mathlib.Core.{Logic.inl, Logic.inr, List.reverse, List.map-map}
use Rattle.star_common.proofs.Members.{from_contains_map}
use Rattle.star_schema.specs.{declared.table.TableId.TableId, declared.table.TableId.TheVariants.Lineorder, declared.column.ColumnId.ColumnId, declared.group.Shape.Shape, Groups.{Entry, GroupRow, IsGroup, IsMasked, AreGroups}, Order.value_cmp, Schema.table_of, Tables.{Value, Number, Text}}
use Rattle.star_plan.specs.{Meaning.{Tables, Joined, joined_value, all_hold, measured, aggregate_of, joined_rows, plan_rows, entry_of, Plan}, Sound.{in_scope, IsSoundPlan}}
use Rattle.star_program.specs.declared.group.GroupKey.TheVariants as declared
use Rattle.star_program.specs.{declared.key.KeyValue.KeyValue, declared.program.Show.Show, RowCells.cell_of, Outcome.decoded, Outcome.decoded_keys, Outcome.decoded_row, World.World}
use Rattle.star_program.specs.declared.key.KeyValue.TheVariants as key
use Rattle.star_program.specs.Keys as by_code
use Rattle.star_compile_laws.{specs.Compiled.{plan_group, key_of_group, plan_show}, specs.Answers.{AnswersThePlan, coded, update_of_row}, proofs.Comparisons.code_eq, proofs.Elements.{map_same, contains_filtered, contains_numbers}, proofs.Rows.{row_of_fact, is_turn, joined_are, puts_the_rows}, proofs.KeyCodes.{applied, applied_some, Keeps, entry_applied, row_applied, groups_applied}, proofs.TurnRows.{Sees, Shows, IsTurn, numbers, place_in}}
use Rattle.star_query_meaning.proofs.GroupOrders.{groups_reordered}

-- ---- keys

-- a key of a column, decoded
abbrev decoded_at : World → List ColumnId → ℕ → KeyValue → Value
decoded_at w [] i k = Number (pos 0)
decoded_at w (c ∷ cs) zero k = decoded w (key_of_group c) k
decoded_at w (c ∷ cs) (suc i) k = decoded_at w cs i k

decoded_same : (w : World) (c : ColumnId) (n : ℕ) (v : Value) → Shows w c n v
    → decoded w (key_of_group c) (coded w c v) ≡ v
decoded_same w c n it shows = grind (arith, common_steps)

key_kept : (w : World) (c : ColumnId) (n m : ℕ) (v u : Value) → Shows w c n v → Shows w c m u
    → is_eq (value_cmp v u) ≡ is_eq (by_code.key_value_cmp (coded w c v) (coded w c u))
key_kept w c n m (Number z) (Number y) p q = refl
key_kept w c n m (Text v) (Text u) p q =
    code_eq (w.low c v) (w.low c u) v u (ap (λ k. nat_lt k (w.low c u)) (sym p.1.index) ∙ p.1.low u)
    (ap (λ k. nat_lt k (w.low c v)) (sym q.1.index) ∙ q.1.low v)
key_kept w c n m (Number z) (Text u) p q = let a : true ≡ false = sym q.0 ∙ p.0 in absurd (cc)
key_kept w c n m (Text v) (Number z) p q = let a : true ≡ false = sym p.0 ∙ q.0 in absurd (cc)

-- a row shows the columns
abbrev ShowsAll : World → List ColumnId → Joined → Type 0
ShowsAll w [] row = Unit {0}
ShowsAll w (c ∷ cs) row = ((n : ℕ) × Shows w c n (joined_value c row)) × ShowsAll w cs row

keys_decoded : (w : World) (cs : List ColumnId) (row : Joined) → ShowsAll w cs row
    → applied (decoded_at w cs) (map (λ c. coded w c (joined_value c row)) cs) ≡ map
    (λ c. joined_value c row) cs
keys_decoded w [] row h = refl
keys_decoded w (c ∷ cs) row h =
    λ i. decoded_same w c h.0.0 (joined_value c row) h.0.1 i ∷ keys_decoded w cs row h.1 i

keys_kept : (w : World) (cs : List ColumnId) (a b : Joined) → ShowsAll w cs a → ShowsAll w cs b
    → Keeps by_code.key_value_cmp value_cmp (decoded_at w cs)
    (map (λ c. coded w c (joined_value c a)) cs) (map (λ c. coded w c (joined_value c b)) cs)
keys_kept w [] a b p q = tt
keys_kept w (c ∷ cs) a b p q =
    grind (arith, common_steps, decoded_same, key_kept, keys_kept w cs a b p.1 q.1)

keys_applied : (w : World) (cs : List ColumnId) (ks : List (Option KeyValue))
    → length ks ≡ length cs → applied_some (decoded_at w cs) ks ≡ decoded_keys w
    (map key_of_group cs) ks
keys_applied w [] [] h = refl
keys_applied w (c ∷ cs) (k ∷ ks) h =
    ap (λ l. option_map (decoded w (key_of_group c)) k ∷ l) (keys_applied w cs ks (omega arith))
keys_applied w [] (k ∷ ks) h = absurd (omega arith)
keys_applied w (c ∷ cs) [] h = absurd (omega arith)

-- ---- how many keys groups have

masked_length : {K : Type 0} (m : List (Option K)) (ks : List K) → IsMasked m ks
    → length m ≡ length ks
masked_length [] [] h = refl
masked_length (Some k ∷ m) (x ∷ ks) h = ap suc (masked_length m ks h.1)
masked_length (None ∷ m) (x ∷ ks) h = ap suc (masked_length m ks h)
masked_length _ _ h = absurd h

group_length : {K : Type 0} (s : Shape) (n : ℕ) (es : List (Entry K)) (m : List (Option K))
    → ((e : Entry K) → Contains es e → length e.keys ≡ n) → IsGroup s n es m → length m ≡ n
group_length s n es m each (shown, inl h) = masked_length m h.0.keys h.2 ∙ each h.0 h.1
group_length s n es m each (shown, inr all) = ap length all ∙ length-replicate n None

module _ (ts : Tables) (w : World) (seen : Sees ts w) (p : Plan) (sound : IsSoundPlan p) where
  -- each selected row shows the group columns
  shows_all : (cs : List ColumnId) → list_all (λ c. in_scope p.joins (table_of c)) cs ≡ true
      → (at : TableId → ℕ) (row : Joined) → IsTurn w p.joins at row → ShowsAll w cs row
  shows_all [] h at row turn = tt
  shows_all (c ∷ cs) h at row turn =
      let hs =
      and_parts (in_scope p.joins (table_of c)) (list_all (λ c. in_scope p.joins (table_of c)) cs)
      h in
      ((at (table_of c), turn.shows c hs.0), shows_all cs hs.1 at row turn)

  row_shows : (row : Joined) → Contains (plan_rows ts p) row → ShowsAll w p.keys row
  row_shows row h =
      let there : Contains (map (row_of_fact ts w seen p sound) (numbers (length (ts Lineorder)) 0))
      row =
      subst (λ l. Contains l row) (joined_are ts w seen p sound)
      (contains_filtered (all_hold p.conjuncts) (joined_rows ts p.joins) row h) in
      let q =
      from_contains_map (row_of_fact ts w seen p sound) (numbers (length (ts Lineorder)) 0) row
      there in
      let below : q.0 < length (ts Lineorder) =
      (let b = contains_numbers (length (ts Lineorder)) 0 q.0 q.1 in omega arith) in
      subst (ShowsAll w p.keys) q.2
      (shows_all p.keys sound.keys (place_in w p.joins q.0) (row_of_fact ts w seen p sound q.0)
      (is_turn ts w seen p sound q.0 (subst (λ n. q.0 < n) (sym (seen.size Lineorder)) below)))

  abbrev entries : List (Entry KeyValue)
  entries = map (update_of_row w p) (plan_rows ts p)

  entry_kept : (a b : Entry KeyValue) → Contains entries a → Contains entries b
      → Keeps by_code.key_value_cmp value_cmp (decoded_at w p.keys) a.keys b.keys
  entry_kept a b g h =
      let x = from_contains_map (update_of_row w p) (plan_rows ts p) a g in
      let y = from_contains_map (update_of_row w p) (plan_rows ts p) b h in
      subst (λ z. Keeps by_code.key_value_cmp value_cmp (decoded_at w p.keys) z.keys b.keys) x.2
      (subst (λ z. Keeps by_code.key_value_cmp value_cmp (decoded_at w p.keys)
      (update_of_row w p x.0).keys z.keys) y.2
      (keys_kept w p.keys x.0 y.0 (row_shows x.0 x.1) (row_shows y.0 y.1)))

  entries_decoded : map (entry_applied (decoded_at w p.keys))
      entries ≡ map (entry_of p) (plan_rows ts p)
  entries_decoded =
      map-map (entry_applied (decoded_at w p.keys)) (update_of_row w p) (plan_rows ts p)
      ∙ map_same (λ r. entry_applied (decoded_at w p.keys) (update_of_row w p r)) (entry_of p)
      (plan_rows ts p)
      (λ r h. ap (λ ks. record {
        keys = ks;
        values = map (measured (λ c. joined_value c r)) p.measures;
      })
      (keys_decoded w p.keys r (row_shows r h)))

  entry_length : (e : Entry KeyValue) → Contains entries e → length e.keys ≡ length p.keys
  entry_length e h =
      let x = from_contains_map (update_of_row w p) (plan_rows ts p) e h in
      ap (λ (z : Entry KeyValue). length z.keys) (sym x.2)
      ∙ length-map p.keys (λ c. coded w c (joined_value c x.0))

  groups_the_rows : (us : List (Entry KeyValue)) (groups : List (GroupRow KeyValue))
      → us ≡ reverse entries
      → AreGroups by_code.key_value_cmp p.shape (length p.keys) (map aggregate_of p.measures) us
      groups
      → AreGroups value_cmp p.shape (length p.keys) (map aggregate_of p.measures)
      (map (entry_of p) (plan_rows ts p)) (map (decoded_row w (plan_group p)) groups)
  groups_the_rows us groups are h =
      let k = length p.keys in
      let gs = map aggregate_of p.measures in
      let es = entries in
      let turned = subst (λ us. AreGroups by_code.key_value_cmp p.shape k gs us groups) are h in
      let straight =
      groups_reordered by_code.key_value_cmp p.shape k gs (reverse es) es groups
      (IsPermutation-sym es (reverse es) (IsPermutation-reverse es)) turned in
      let there =
      groups_applied by_code.key_value_cmp value_cmp p.shape k gs (decoded_at w p.keys) es
      entry_kept
      groups straight in
      let same : map (row_applied (decoded_at w p.keys)) groups ≡ map (decoded_row w (plan_group p))
      groups =
      map_same (row_applied (decoded_at w p.keys)) (decoded_row w (plan_group p)) groups
      (λ r has. ap (λ ks. record { keys = ks; totals = r.totals })
      (keys_applied w p.keys r.keys
      (group_length p.shape k es r.keys entry_length (straight.each r has).0))) in
      subst (λ rs. AreGroups value_cmp p.shape k gs (map (entry_of p) (plan_rows ts p)) rs) same
      (subst (λ es. AreGroups value_cmp p.shape k gs es
      (map (row_applied (decoded_at w p.keys)) groups)) entries_decoded there)

  pub answers_the_plan : AnswersThePlan ts w p
  answers_the_plan may e outcome run told =
      let reported = told.reported in
      let counted =
      subst (λ n. AreGroups by_code.key_value_cmp p.shape n (map aggregate_of p.measures)
      (e.updates_of 0) reported.groups) (length-map p.keys key_of_group) reported.each_group in
      let groups =
      groups_the_rows (e.updates_of 0) reported.groups (puts_the_rows ts w seen p sound may e run)
      counted in
      record {
        headed = told.names ∙ map-map (λ (show : Show). show.name) (plan_show p) p.items;
        groups = told.rows;
        each_group =
            subst (λ rs. AreGroups value_cmp p.shape (length p.keys) (map aggregate_of p.measures)
            (map (entry_of p) (plan_rows ts p)) rs) (sym reported.decoded) groups;
        in_order = reported.in_order;
        cells =
            told.cells ∙ λ i. map (λ row. map-map (λ (show : Show). cell_of row show.column)
            (plan_show p) p.items i) told.rows;
      }
