use Rattle.star_group.proofs.{Common.{Entry, ◌≡◌, [], ℕ, Some, length, nat_eq, slice_get, subst, sym, take, ◌∙◌, and_parts, eqb-true, is_grouping, key_view, all_rolled_up, group_with, listed_entries, AreRows}, GivenGroups.{given_are_rows, hides_none, none_put, nothing_rows, some_put}, Contents.if_ok, ListedRows.row_wide}
use Rattle.star_group.proofs.group_rows.given.Goals as goal

pub nothing_given-requires-clause-none : goal.nothing_given-requires-clause-none
nothing_given-requires-clause-none c = eqb-true (length (listed_entries c.args.rows)) 0
    (and_parts _ _ (sym c.is_bare.ensures ∙ c.if-is_bare.true)).0

pub returns-then-is_bare : goal.returns-then-is_bare
returns-then-is_bare c =
    let d = group_with c.args.shape c.args.key_count c.args.aggregates.now in
    let es = listed_entries c.args.rows in
    let both = and_parts (nat_eq (length es) 0)
    (is_grouping c.args.shape (take c.args.key_count (key_view all_rolled_up)))
    (sym c.is_bare.ensures ∙ c.if-is_bare.true) in
    if_ok _ _ c.nothing_given.result
    (λ given is once puts grouped. subst (λ us. AreRows d us given)
    (sym (none_put d es puts c.requires.few_keys grouped (eqb-true (length es) 0 both.0)))
    (subst (AreRows d []) (sym is) (nothing_rows d c.requires.few_keys both.1)))
    c.nothing_given.ensures

pub returns : goal.returns
returns c = λ once puts grouped.
    let d = group_with c.args.shape c.args.key_count c.args.aggregates.now in
    let es = listed_entries c.args.rows in
    let few = c.requires.few_keys in
    let wide = λ (i : ℕ) (e : Entry) (at : slice_get es i ≡ Some e).
    row_wide c.args.rows i e at ∙ sym c.requires.aggregate_count in
    given_are_rows d puts es few grouped once wide
    (λ none. hides_none (length es)
    (is_grouping c.args.shape (take c.args.key_count (key_view all_rolled_up)))
    (sym c.is_bare.ensures ∙ c.if-is_bare.false)
    (λ some. some_put d puts es few grouped once wide some none))
