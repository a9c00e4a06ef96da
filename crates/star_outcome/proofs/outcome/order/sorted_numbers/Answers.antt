use Rattle.std.{proofs.Common.{ap, length, map, rules, subst, sym, ◌∙◌, ◌≡◌}, proofs.lemmas.Simd.map-map, specs.Prelude.IsPermutation, specs.List.{AllByRecursion, Contains, range_with_len}, specs.List.Sorted.IsSortedBy, specs.Ordering.is_lt}
use Rattle.star_group.{proofs.Contents.if_ok, specs.StoreRows.row_at}
use Rattle.star_schema.specs.Groups.{GroupRow as Row}
use Rattle.star_program.specs.{declared.key.KeyValue.KeyValue, Keys.key_value_cmp, Puts.Update}
use Rattle.star_outcome.{specs.declared.outcome.leads.Led.Led, specs.Private.Decoded.AreSortedGroups, specs.Private.Leads.{led_at, led_cmp}, specs.Private.RowOrder.row_order, proofs.GroupRows.{groups_alike, groups_moved, rows_apart}, proofs.LedRows.{led_total, rows_ascend, rows_moved}, proofs.RowOrders.AreAlike, proofs.SortedRows.{sorted_by_answers, sorted_rows}}
use Rattle.star_outcome.proofs.outcome.order.sorted_numbers.Goals as goal

pub returns : goal.returns
returns c =
    let rows = c.args.rows.now in
    let columns = c.as_slice-columns.result.now in
    let all = c.sort_unstable_by.new.self.items in
    let moved : IsPermutation (map (led_at columns rows) (range_with_len 0 (length rows))) all =
    subst (λ xs. IsPermutation xs all) c.in_ok-all.ensures c.sort_unstable_by.ensures.permutation in
    let up = sorted_by_answers (led_cmp columns rows) (led_total columns rows) all
    c.sort_unstable_by.ensures.sorted (λ a r f' k. search rules) in
    let sorted = map (λ (led : Led). row_at rows led.number) all in
    let d = c.requires.are.0 in
    let updates = c.requires.are.1 in
    let fit = subst (λ n. AllByRecursion (λ (u : Update). length u.keys ≡ n) updates)
    (sym c.requires.are.2) c.requires.are.4 in
    let alike = subst (λ n. (a b : Row KeyValue) → Contains rows a → Contains rows b
    → AreAlike n a b) c.requires.are.2 (groups_alike d updates rows fit c.requires.are.3.groups)
    in
    let ordered = subst (λ cs. IsSortedBy (λ a b. is_lt (row_order cs a b)) sorted)
    (c.as_slice-columns.ensures.value ∙ c.in_ok-columns.ensures)
    (rows_ascend columns rows all moved up) in
    if_ok _ _ c.numbers_of.result
    (λ numbers is d' updates' are.
    let same : map (row_at rows) numbers.items ≡ sorted =
    ap (map (row_at rows)) (is ∙ ap (λ leds. map (λ (led : Led). led.number) leds)
    c.as_slice.ensures.value) ∙ map-map (row_at rows) (λ (led : Led). led.number) all in
    subst (AreSortedGroups d' c.args.sorts.now updates') (sym same) (record {
      groups = groups_moved key_value_cmp d'.shape d'.count d'.aggregates updates' rows
          sorted (rows_moved columns rows all moved) are.groups;
      in_order = sorted_rows c.args.sorts.now c.args.count rows sorted
          (rows_apart d updates rows c.requires.are.3) alike
          (rows_moved columns rows all moved) ordered;
    }))
    c.numbers_of.ensures
