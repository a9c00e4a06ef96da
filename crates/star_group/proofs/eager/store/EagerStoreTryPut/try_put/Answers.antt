use Rattle.star_group.proofs.{Common.{◌≡◌, ◌≢◌, ◌∙◌, false, refl, inl, inr, ap, arith, length, map, rules, subst, sym, ⊎_elim, IsDistinct, filter, MatchBool-at_false, MatchBool-at_true, AllPairs-filter, AllPairs-from_IsDistinct, IsDistinct-from_AllPairs, err_from_is_err_and, Update, SomeLeaves, key_view, row_found, entries_of, key_eq, padded, vary, is_row_key}, Contents.{base_keys, put_has, put_leaves, put_stays}, BaseKeyLemmas.vary_distinct, GroupKeys.key_decides, KeyedRows.row_keys_narrow}
use Rattle.star_group.proofs.eager.store.EagerStoreTryPut.try_put.Goals as goal

pub fill_row_keys-requires : goal.fill_row_keys-requires
fill_row_keys-requires c =
    omega (arith, c.requires.keys, c.args.self.now.wide, c.args.self.now.rows.listed.few)

pub put_rows-requires-clause-distinct : goal.put_rows-requires-clause-distinct
put_rows-requires-clause-distinct c =
    let s = c.args.self.now in
    let ks = c.args.keys.now in
    let keys = vary (length ks) (padded 6 ks) in
    subst (IsDistinct key_eq)
    (sym (ap (map key_view) c.as_slice.ensures.value ∙ c.in_ok-fill_row_keys.ensures))
    (IsDistinct-from_AllPairs key_decides (filter (is_row_key s.shape (length ks)) keys)
    (AllPairs-filter (λ x y. x ≢ y) (is_row_key s.shape (length ks)) keys
    (AllPairs-from_IsDistinct key_decides keys
    (vary_distinct 6 ks (omega (arith, c.requires.keys, s.wide, s.rows.listed.few))))))

pub put_rows-requires-clause-narrow : goal.put_rows-requires-clause-narrow
put_rows-requires-clause-narrow c =
    let s = c.args.self.now in
    row_keys_narrow s.shape c.args.keys.now c.as_slice.result.now s.rows.listed.width
    (omega (arith, c.requires.keys, s.wide))
    (omega (arith, c.requires.keys, s.wide, s.rows.listed.few))
    (ap (map key_view) c.as_slice.ensures.value ∙ c.in_ok-fill_row_keys.ensures)

pub returns-then-not-stays-clause-overflow : goal.returns-then-not-stays-clause-overflow
returns-then-not-stays-clause-overflow c =
    let leaves : c.stays.result ≡ false = search rules in
    inr (put_leaves c.args.self.now (record {
      keys = c.args.keys.now;
      values =
          c.args.values.now;
    }) _ _
    c.as_slice-aggregates.ensures.value c.row_of_put-more.ensures c.requires.keys
    (inl (MatchBool-at_false _ _ leaves c.stays.ensures)))

pub returns-in_err-put_rows-clause-overflow : goal.returns-in_err-put_rows-clause-overflow
returns-in_err-put_rows-clause-overflow c =
    let s = c.args.self.now in
    let u : Update = record { keys = c.args.keys.now; values = c.args.values.now } in
    let same = c.as_slice-aggregates.ensures.value in
    let p = err_from_is_err_and c.from_residual-in_err-put_rows.result
    c.from_residual-in_err-put_rows.ensures.1 in
    rw (p.1, p.2) (⊎_elim inl
    (λ some. inr (put_leaves s u _ _ same c.row_of_put-more.ensures c.requires.keys
    (inr (subst (λ o. SomeLeaves (row_found (entries_of s.rows)) o
    c.as_slice-aggregates.result.now c.row_of_put-more.result)
    (base_keys s u _ _ same c.row_of_put-more.ensures c.requires.keys c.as_slice.result.now
    (ap (map key_view) c.as_slice.ensures.value ∙ c.in_ok-fill_row_keys.ensures)) some))))
    c.in_err-put_rows.ensures.overflow)

pub returns-clause-has : goal.returns-clause-has
returns-clause-has c = put_has c.args.self.now
    (record { keys = c.args.keys.now; values = c.args.values.now }) _ _
    c.as_slice-aggregates.ensures.value c.row_of_put-more.ensures c.requires.keys
    c.as_slice.result.now
    (ap (map key_view) c.as_slice.ensures.value ∙ c.in_ok-fill_row_keys.ensures) _ refl
    c.in_ok-put_rows.ensures.ok c.merge.ensures

pub returns-clause-stays : goal.returns-clause-stays
returns-clause-stays c = put_stays c.args.self.now
    (record { keys = c.args.keys.now; values = c.args.values.now }) _ _
    c.as_slice-aggregates.ensures.value c.row_of_put-more.ensures c.requires.keys
    c.as_slice.result.now
    (ap (map key_view) c.as_slice.ensures.value ∙ c.in_ok-fill_row_keys.ensures) _
    c.in_ok-put_rows.ensures.ok (MatchBool-at_true _ _ c.if-not-stays.false c.stays.ensures)
