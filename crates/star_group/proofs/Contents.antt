-- From the rows of a map to the content of a store.
use Rattle.star_group.{proofs.Common.{map, filter, list_any, padded, vary, key_eq, key_view, is_one_of, is_row_key, Entry, Row, RowKey, ◌≡◌, ◌⊎◌, ℕ, ◌<◌, ◌≤◌, Bool, true, false, ℤ, List, [], ◌∷◌, Option, Some, None, Result, Ok, Err, OnOk, IfOk, length, get_or, replicate, ap, sym, ◌∙◌, subst, refl, cond, arith, inl, inr, true≢false, unwrap_or, false_from_ne_true, Aggregate, IsMasked, aggregate, is_grouping, members, numbers_for, key_value_cmp, IsOwn, leaves, Update, overflows, aggregate_at, overflow_somewhere, somewhere_overflows, held, AreGrouped, HasAggregates, IsRowOver, puts_in, row_found, EagerStore, KeyPart, entries_of, is_of_put, IsMerged, IsRowOfOnePut, MergeLeaves, MergeStays, cell_of_one_put, merged, merged_at, AllStay, MergesAll, PutsRows, SomeLeaves, Group, put_number}, proofs.GroupKeys.{all_members, any_kept, in_slots, masked_length, members_at, of_put, own_belongs, put_belongs}, proofs.Merging.{held_none, held_one, merged_comm, merged_more, no_puts}, proofs.Bases.more_over, proofs.Totals.{declared, some_aggregate}, specs.Eager.{group_view, Has}}

pub on_ok : {T E : Type 0} (P Q : Type 0) (r : Result T E) → (P → Q) → OnOk r P → OnOk r Q
on_ok P Q (Ok x) f h = f h
on_ok P Q (Err e) f h = tt

pub if_ok : {T E : Type 0} (P Q : T → Type 0) (r : Result T E) → ((x : T) → P x → Q x) → IfOk r P
    → IfOk r Q
if_ok P Q (Ok x) f h = f x h
if_ok P Q (Err e) f h = tt

-- what is found has the aggregates of its puts
found_held : (d : Group) (ws : List Update) (found : Option Row) (index : ℕ)
    → index < length d.aggregates → IsRowOver d ws found → get_or (unwrap_or found []) index None
    ≡ held (aggregate_at d.aggregates index) (numbers_for index ws)
found_held d ws it index h was = grind (arith, held, no_puts, held_none)

-- ---- one more put

module _ (d : Group) (us : List Update) (u : Update) (row : Row)
    (one : IsRowOfOnePut d.aggregates u.values row) (fits : length u.keys ≡ d.count)
    (es : List Entry) (was : AreGrouped d es us) where
  abbrev own : RowKey → Bool
  own q = is_of_put d.shape u.keys q

  grouped_more : (fs : List Entry)
      → MergesAll own d.aggregates row (row_found es) (row_found fs) → AreGrouped d fs (u ∷ us)
  grouped_more fs merges = record { fit = (fits, was.fit); rows = λ q. by q (own q) refl }
    where
      by : (q : RowKey) (b : Bool) → own q ≡ b → IsRowOver d (puts_in d q (u ∷ us)) (row_found fs q)
      by q true e = subst (λ ps. IsRowOver d ps (row_found fs q))
          (sym (ap (λ b. cond b (u ∷ puts_in d q us) (puts_in d q us)) e))
          (more_over d (puts_in d q us) u row one (row_found es q) (row_found fs q) (was.rows q)
          (merges.changed q e))
      by q false e = subst (λ ps. IsRowOver d ps (row_found fs q))
          (sym (ap (λ b. cond b (u ∷ puts_in d q us) (puts_in d q us)) e))
          (subst (IsRowOver d (puts_in d q us)) (sym (merges.same q e)) (was.rows q))

  cell_more : (ws : List Update) (cell : Option ℤ) (index : ℕ) → index < length d.aggregates
      → cell ≡ held (aggregate_at d.aggregates index) (numbers_for index ws)
      → merged (aggregate_at d.aggregates index) cell (get_or row index None)
      ≡ aggregate (aggregate_at d.aggregates index) (numbers_for index (u ∷ ws))
  cell_more ws cell index h is =
      let g = aggregate_at d.aggregates index in
      (λ i. merged g (is i) (one index h i))
      ∙ merged_comm g (held g (numbers_for index ws))
      (Some (cell_of_one_put g (put_number index u)))
      ∙ sym (held_one g (put_number index u) (numbers_for index ws))
      ∙ some_aggregate g (put_number index u) (numbers_for index ws)

  module _ (all : Row) (few : d.count ≤ 6) (total : HasAggregates d us all) where
    abbrev now : RowKey → ℕ → Option ℤ
    now m index = aggregate (aggregate_at d.aggregates index)
        (numbers_for index (members key_value_cmp m (u ∷ us)))

    -- a row of a group of the put, and the total
    row_now : (m : RowKey) → is_grouping d.shape m ≡ true → IsMasked m u.keys
        → (index : ℕ) → index < length d.aggregates
        → merged_at d.aggregates (unwrap_or (row_found es (in_slots 6 m)) []) row index
        ≡ now m index
    row_now m grouping masked index h =
        let q = in_slots 6 m in
        cell_more (puts_in d q us) (get_or (unwrap_or (row_found es q) []) index None) index h
        (found_held d (puts_in d q us) (row_found es q) index h (was.rows q))
        ∙ ap (λ ps. aggregate (aggregate_at d.aggregates index) (numbers_for index ps))
        (ap (λ ps. u ∷ ps)
        (members_at d m us grouping (masked_length m u.keys masked ∙ fits) few was.fit)
        ∙ sym (ap (λ b. cond b (u ∷ members key_value_cmp m us) (members key_value_cmp m us))
        (own_belongs d m u (inl (grouping, masked)))))

    total_now : (m : RowKey) → m ≡ replicate (length u.keys) None → (index : ℕ)
        → index < length d.aggregates → merged_at d.aggregates all row index ≡ now m index
    total_now m e index h = cell_more us (get_or all index None) index h (total index h)
        ∙ ap (λ ps. aggregate (aggregate_at d.aggregates index) (numbers_for index ps))
        (sym (ap (λ k. members key_value_cmp k (u ∷ us)) (e ∙ ap (λ n. replicate n None) fits)
        ∙ all_members d.count (u ∷ us) (fits, was.fit)))

    stays_all : MergeStays d.aggregates all row → AllStay (row_found es) own d.aggregates row
        → overflows d.shape d.aggregates us u ≡ false
    stays_all kept all_stay = false_from_ne_true (overflows d.shape d.aggregates us u) (λ over.
        let l = overflow_somewhere (declared d) us u over in
        true≢false (sym l.leaves_there ∙ there l.group l.index l.own l.declared))
      where
        there : (m : RowKey) (index : ℕ) → IsOwn d.shape u.keys m → index < length d.aggregates
            → leaves (aggregate_at d.aggregates index) (now m index) ≡ false
        there m index (inl in_row) h = ap (leaves (aggregate_at d.aggregates index))
            (sym (row_now m in_row.0 in_row.1 index h))
            ∙ all_stay.stay (in_slots 6 m)
            (put_belongs d.shape m u.keys in_row.0 (masked_length m u.keys in_row.1)
            (omega (arith, fits, few)) ∙ own_belongs d m u (inl in_row)) index h
        there m index (inr e) h =
            ap (leaves (aggregate_at d.aggregates index)) (sym (total_now m e index h))
            ∙ kept index h

    overflows_some : MergeLeaves d.aggregates all row
        ⊎ SomeLeaves (row_found es) own d.aggregates row
        → overflows d.shape d.aggregates us u ≡ true
    overflows_some (inl l) = somewhere_overflows (declared d) us u (record {
      group = replicate (length u.keys) None;
      own = inr refl;
      index = l.index;
      declared = l.declared;
      leaves_there = ap (leaves (aggregate_at d.aggregates l.index))
          (sym (total_now (replicate (length u.keys) None) refl l.index l.declared)) ∙ l.over;
    })
    overflows_some (inr s) =
        let l = s.leaves in
        let of = of_put d.shape u.keys s.key (omega (arith, fits, few)) s.among in
        somewhere_overflows (declared d) us u (record {
          group = of.keys;
          own = inl (of.grouping, of.masked);
          index = l.index;
          declared = l.declared;
          leaves_there = ap (leaves (aggregate_at d.aggregates l.index))
              (sym (row_now of.keys of.grouping of.masked l.index l.declared)
              ∙ ap (λ k. merged_at d.aggregates (unwrap_or (row_found es k) []) row l.index)
              (sym of.is)) ∙ l.over;
        })

-- ---- one more put into an eager store

module _ (s : EagerStore) (u : Update) (gs : List Aggregate) (row : Row)
    (is_gs : gs ≡ s.aggregates.items) (is_row : IsRowOfOnePut gs u.values row)
    (fits : length u.keys ≡ s.key_count) where
  one_put : IsRowOfOnePut s.aggregates.items u.values row
  one_put = subst (λ g. IsRowOfOnePut g u.values row) is_gs is_row

  few_keys : s.key_count ≤ 6
  few_keys = omega (arith, s.wide, s.rows.listed.few)

  pub put_leaves : MergeLeaves gs s.total row
      ⊎ SomeLeaves (row_found (entries_of s.rows)) (is_of_put s.shape u.keys) gs row
      → (us : List Update) → Has s us
      → overflows (group_view s).shape (group_view s).aggregates us u ≡ true
  put_leaves some us has =
      overflows_some (group_view s) us u row one_put fits (entries_of s.rows) has.grouped s.total
      few_keys has.total (subst (λ g. MergeLeaves g s.total row
      ⊎ SomeLeaves (row_found (entries_of s.rows)) (is_of_put s.shape u.keys) g row) is_gs some)

  module _ (keys : List (List KeyPart))
      (are : map key_view keys ≡ filter (is_row_key s.shape (length u.keys))
      (vary (length u.keys) (padded 6 u.keys))) where
    -- the keys are those of the rows that the put changes
    pub base_keys : is_one_of keys ≡ is_of_put s.shape u.keys
    base_keys = λ i q. (ap (list_any (key_eq q)) are
        ∙ any_kept (is_row_key s.shape (length u.keys)) q
        (vary (length u.keys) (padded 6 u.keys))) i

    abbrev Puts : (RowKey → Option Row) → Type 0
    Puts new = PutsRows (is_one_of keys) gs row (row_found (entries_of s.rows)) new

    puts_own : (new : RowKey → Option Row) → Puts new
        → PutsRows (is_of_put s.shape u.keys) s.aggregates.items row (row_found (entries_of s.rows))
        new
    puts_own new puts =
        coe 0 1 (i. PutsRows (base_keys i) (is_gs i) row (row_found (entries_of s.rows)) new) puts

    pub put_has : (new : EagerStore) → group_view new ≡ group_view s
        → Puts (row_found (entries_of new.rows)) → IsMerged gs s.total row new.total
        → (us : List Update) → Has s us → Has new (u ∷ us)
    put_has new same puts merges us has = record {
      grouped = subst (λ d. AreGrouped d (entries_of new.rows) (u ∷ us)) (sym same)
          (grouped_more (group_view s) us u row one_put fits (entries_of s.rows) has.grouped
          (entries_of new.rows) (puts_own _ puts).merges);
      total = subst (λ d. HasAggregates d (u ∷ us) new.total) (sym same)
          (merged_more (group_view s) u us s.total row new.total one_put has.total
          (subst (λ g. IsMerged g s.total row new.total) is_gs merges));
    }

    pub put_stays : (new : RowKey → Option Row) → Puts new → MergeStays gs s.total row
        → (us : List Update) → Has s us
        → overflows (group_view s).shape (group_view s).aggregates us u ≡ false
    put_stays new puts kept us has =
        stays_all (group_view s) us u row one_put fits (entries_of s.rows) has.grouped s.total
        few_keys has.total (subst (λ g. MergeStays g s.total row) is_gs kept)
        (puts_own new puts).stay
