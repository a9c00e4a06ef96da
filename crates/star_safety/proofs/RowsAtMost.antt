-- The report of an accepted program has no more rows than are known before its run.
use Rattle.std.{proofs.Common.{◌≡◌, ℕ, suc, ◌≤◌, Bool, true, false, List, [], ◌∷◌, Option, Some, None, length, map, refl, sym, ap, subst, ◌∙◌, arith, ⊎_elim, true≢false}, specs.declared.cmp.Ordering.TheVariants.{Less, Equal}, proofs.lemmas.Grind.common_steps}
use Rattle.star_safety.proofs.{Common.{AllByRecursion, AreReportRows, Contains, End, Ended, EndsWith, Greater, GroupDecl, GroupKey, GroupRow, IsAccepted, IsDistinct, IsGroup, IsMasked, IsOutcome, IsStrictlySortedBy, KeyValue, Limited, Ordering, Outcome, Parts, SortKey, State, Trapped, Update, World, all_key_shares, all_shares, at_each, at_first, contains_here, contains_later, contains_mapped, decoded_row, empty_state, from_contains_map, group_at, int_cmp_total, is_grouping, is_lt, key_cmp, key_decides, key_eq, key_value_cmp, length-map, length-replicate, lists_total, members, most_of, most_report_rows, nat_cmp_total, no_registers, of_each, ordering_reverse, ordering_then, pos, row_cmp, rows_of_groupings, run_of, shown_cells, shown_fault, slice_cmp, slice_index_or, sort_cmp, total_cmp, totals_of, unless_unshown, value_cmp}, Always.accepted_throughout, FewGroups.{AreAmong, IsOne, few_groups, sizes}, Runs.ends, Tally.most_is, PutKeys.{AreListed, KeysAmong, all_listed, each_listed, kept, same_many, sizes_are}}
use Rattle.star_schema.specs.Tables.{Value, Number, Text}

-- ---- no row stands before itself

abbrev IsNever : {X : Type 0} → (X → X → Ordering) → Type 0
IsNever {X} cmp = (x : X) → cmp x x ≡ Equal

own_reverse : (o : Ordering) → o ≡ ordering_reverse o → o ≡ Equal
own_reverse Less e = absurd (true≢false (ap is_lt e))
own_reverse Equal e = refl
own_reverse Greater e = absurd (true≢false (sym (ap is_lt e)))

value_itself : IsNever value_cmp
value_itself (Number x) = own_reverse _ (int_cmp_total.antisymm x x)
value_itself (Text a) = own_reverse _ ((lists_total nat_cmp_total).antisymm a a)

key_itself : IsNever (key_cmp value_cmp)
key_itself None = refl
key_itself (Some a) = value_itself a

keys_itself : IsNever (slice_cmp (key_cmp value_cmp))
keys_itself [] = refl
keys_itself (k ∷ ks) = ap (λ o. ordering_then o (slice_cmp (key_cmp value_cmp) ks ks))
    (key_itself k) ∙ keys_itself ks

total_itself : IsNever total_cmp
total_itself None = refl
total_itself (Some z) = own_reverse _ (int_cmp_total.antisymm z z)

sort_itself : (sort : SortKey) → IsNever (sort_cmp value_cmp sort)
sort_itself sort row = grind (arith, common_steps, row, key_itself, total_itself)

row_itself : (sorts : List SortKey) → IsNever (row_cmp value_cmp sorts)
row_itself [] row = keys_itself row.keys
row_itself (sort ∷ sorts) row =
    ap (λ o. ordering_then o (row_cmp value_cmp sorts row row)) (sort_itself sort row)
    ∙ row_itself sorts row

-- ---- no two groups of a report have the same keys

module _ (w : World) (parts : Parts) (us : List Update) (rows : List (GroupRow Value))
    (are : AreReportRows w parts (group_at parts parts.report) us rows) where
  -- a group's keys tell its totals
  one_group : (a b : GroupRow KeyValue) → Contains are.groups a → Contains are.groups b
      → a.keys ≡ b.keys → a ≡ b
  one_group a b c d e =
      let d' = group_at parts parts.report in
      let totals : a.totals ≡ b.totals = (are.each_group.each a c).1
      ∙ ap (λ ks. totals_of d'.aggregates (members key_value_cmp ks us)) e
      ∙ sym (are.each_group.each b d).1 in
      λ i. record { keys = e i; totals = totals i }

  distinct : (groups : List (GroupRow KeyValue))
      → ((g : GroupRow KeyValue) → Contains groups g → Contains are.groups g)
      → IsStrictlySortedBy (row_cmp value_cmp parts.sorts)
      (map (decoded_row w (group_at parts parts.report)) groups)
      → IsDistinct key_eq (map (λ g. g.keys) groups)
  unfolding IsStrictlySortedBy IsDistinct
  distinct [] inside sorted = tt
  distinct (g ∷ groups) inside sorted = (
    of_each (λ ks. key_eq g.keys ks ≡ false) (map (λ h. h.keys) groups)
        (λ ks c. apart ks (from_contains_map (λ h. h.keys) groups ks c)),
    distinct groups (λ h c. inside h (contains_later g groups h c)) sorted.1,
  )
    where
      row : GroupRow KeyValue → GroupRow Value
      row = decoded_row w (group_at parts parts.report)

      apart : (ks : List (Option KeyValue))
          → ((h : GroupRow KeyValue) × Contains groups h × (h.keys ≡ ks)) → key_eq g.keys ks ≡ false
      apart ks found = by (key_eq g.keys ks) refl
        where
          by : (b : Bool) → key_eq g.keys ks ≡ b → b ≡ false
          by false e = refl
          by true e =
              let same : g ≡ found.0 =
              one_group g found.0 (inside g (contains_here g groups))
              (inside found.0 (contains_later g groups found.0 found.1))
              ((key_decides g.keys ks).0 e ∙ sym found.2) in
              let before : row_cmp value_cmp parts.sorts (row g) (row found.0) ≡ Less =
              at_each (λ z. row_cmp value_cmp parts.sorts (row g) z ≡ Less) (map row groups)
              (row found.0)
              sorted.0 (contains_mapped row groups found.0 found.1) in
              let itself : row_cmp value_cmp parts.sorts (row g) (row g) ≡ Less =
              subst (λ h. row_cmp value_cmp parts.sorts (row g) (row h) ≡ Less) (sym same) before in
              absurd (true≢false (sym (ap is_lt itself)
              ∙ ap is_lt (row_itself parts.sorts (row g))))

-- ---- the keys of a group of listed updates

masked_among : (qs : List (Option KeyValue)) (ks : List KeyValue) (vss : List (List KeyValue))
    → IsMasked qs ks → KeysAmong ks vss → AreAmong qs vss
masked_among [] [] [] m h = tt
masked_among (None ∷ qs) (k ∷ ks) (vs ∷ vss) m h = masked_among qs ks vss m h.1
masked_among (Some q ∷ qs) (k ∷ ks) (vs ∷ vss) m h =
    (subst (Contains vs) (sym m.0) h.0, masked_among qs ks vss m.1 h.1)
masked_among [] (k ∷ ks) vss m h = absurd m
masked_among (None ∷ qs) [] vss m h = absurd m
masked_among (Some q ∷ qs) [] vss m h = absurd m
masked_among [] [] (vs ∷ vss) m h = absurd h
masked_among (None ∷ qs) (k ∷ ks) [] m h = absurd h
masked_among (Some q ∷ qs) (k ∷ ks) [] m h = absurd h

length-masked : (qs : List (Option KeyValue)) (ks : List KeyValue) → IsMasked qs ks
    → length qs ≡ length ks
length-masked [] [] m = refl
length-masked (None ∷ qs) (k ∷ ks) m = ap suc (length-masked qs ks m)
length-masked (Some q ∷ qs) (k ∷ ks) m = ap suc (length-masked qs ks m.1)
length-masked [] (k ∷ ks) m = absurd m
length-masked (None ∷ qs) [] m = absurd m
length-masked (Some q ∷ qs) [] m = absurd m

length-among : (ks : List KeyValue) (vss : List (List KeyValue)) → KeysAmong ks vss
    → length ks ≡ length vss
length-among [] [] h = refl
length-among (k ∷ ks) (vs ∷ vss) h = ap suc (length-among ks vss h.1)
length-among [] (vs ∷ vss) h = absurd h
length-among (k ∷ ks) [] h = absurd h

length-each_listed : (w : World) (parts : Parts) (g index : ℕ) (keys : List GroupKey)
    → length (each_listed w parts g index keys) ≡ length keys
length-each_listed w parts g index [] = refl
length-each_listed w parts g index (key ∷ keys) =
    ap suc (length-each_listed w parts g (suc index) keys)

-- ---- the rows of a report

module _ (w : World) (parts : Parts) where
  abbrev d : GroupDecl
  d = group_at parts parts.report

  abbrev values : List (List KeyValue)
  values = each_listed w parts parts.report 0 d.keys

  abbrev most : ℕ
  most = most_of (all_key_shares w parts parts.report 0)

  one_of_them : (us : List Update) (few : length (map (λ u. u.keys) us) ≤ most)
      → AllByRecursion (λ u. KeysAmong u.keys values) us
      → (qs : List (Option KeyValue)) → IsGroup d.shape (length d.keys) us qs
      → (length qs ≡ length values) × (is_grouping d.shape qs ≡ true)
      × IsOne (map (λ u. u.keys) us) values most few qs
  one_of_them us few listed qs group =
      grind (
        arith,
        common_steps,
        ⊎_elim,
        length-masked,
        length-among,
        at_each,
        length-replicate,
        contains_mapped,
        masked_among,
        length-each_listed,
      )

  few_rows : (us : List Update) (rows : List (GroupRow Value)) → AreReportRows w parts d us rows
      → AllByRecursion (λ u. KeysAmong u.keys values) us → length us ≤ most
      → length rows ≤ most_report_rows w parts
  few_rows us rows are listed few =
      let keys : List (List KeyValue) = map (λ u. u.keys) us in
      let few' : length keys ≤ most = omega (arith, few, length-map us (λ u. u.keys)) in
      let groups : List (List (Option KeyValue)) = map (λ g. g.keys) are.groups in
      let bound : length groups ≤ rows_of_groupings d.shape most (sizes values) =
      few_groups d.shape keys values most few' groups
      (distinct w parts us rows are are.groups (λ g c. c)
      (subst (IsStrictlySortedBy (row_cmp value_cmp parts.sorts)) are.decoded are.in_order))
      (λ qs c. let found = from_contains_map (λ g. g.keys) are.groups qs c in
      subst (λ ks. (length ks ≡ length values) × (is_grouping d.shape ks ≡ true)
      × IsOne keys values most few' ks)
      found.2 (one_of_them us few' listed found.0.keys (are.each_group.each found.0 found.1).0)) in
      let whole : rows_of_groupings d.shape most (sizes values) ≡ most_report_rows w parts =
      ap (rows_of_groupings d.shape most) (sizes_are w parts parts.report 0 d.keys) in
      omega (
        arith,
        bound,
        whole,
        ap length are.decoded,
        length-map are.groups (decoded_row w d),
        length-map are.groups (λ g. g.keys),
      )

  -- ---- a run

  both_ends : (e : End) (A B : State → Type 0) → EndsWith e A → EndsWith e B
      → EndsWith e (λ s. A s × B s)
  both_ends (Ended s) A B h k = (h, k)
  both_ends (Trapped at trap) A B h k = h
  both_ends Limited A B h k = h

  ends_more : (e : End) (A B : State → Type 0) → ((s : State) → A s → B s) → EndsWith e A
      → EndsWith e B
  ends_more (Ended s) A B f h = f s h
  ends_more (Trapped at trap) A B f h = h
  ends_more Limited A B f h = h

  ends_unshown : (o : Option ℕ) (go : Unit {0} → End) (Done : State → Type 0) → o ≡ None
      → EndsWith (go tt) Done → EndsWith (unless_unshown o go) Done
  ends_unshown None go Done e h = h
  ends_unshown (Some index) go Done e h = absurd (cc)

  listed_end : IsAccepted w parts
      → EndsWith (run_of w parts) (AreListed w parts parts.report values)
  listed_end accepted = ends_unshown (shown_fault parts) _ _ accepted.admissible.report
      (kept w parts parts.report values (all_shares w parts) parts.body 1 at_first no_registers
      empty_state (accepted_throughout w parts accepted)
      (all_listed w parts parts.report parts.body at_first (λ r. tt) (λ index s h. h)) tt)

  few_end : IsAccepted w parts
      → EndsWith (run_of w parts) (λ s. length (s.updates_of parts.report) ≤ most)
  few_end accepted = ends w parts (λ visits. true) accepted (λ k h. refl) _
      (λ s tallied visits. omega (
        arith,
        (tallied parts.report 0).many,
        length-map (s.updates_of parts.report) (λ u. slice_index_or u.values 0 (pos 0)),
        most_is (all_shares w parts parts.report 0),
        same_many w parts at_first parts.body parts.report 0 0 refl,
      ))

  pub rows_at_most : IsAccepted w parts
      → EndsWith (run_of w parts) (λ s. (outcome : Outcome) → IsOutcome w parts s outcome
      → length outcome.rows ≤ most_report_rows w parts)
  rows_at_most accepted = ends_more (run_of w parts) _ _
      (λ s h outcome is.
      let bound = few_rows (s.updates_of parts.report) is.rows is.reported h.0 h.1 in
      omega (arith, bound, ap length is.cells, length-map is.rows (shown_cells parts)))
      (both_ends (run_of w parts) _ _ (listed_end accepted) (few_end accepted))
