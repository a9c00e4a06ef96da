use Rattle.star_group.proofs.{Common.{◌≡◌, ◌+◌, [], false, get_or, map, rules, take, true, MatchBool, subst, MatchBool-at_false, MatchBool-at_true, key_view, row_found, entries_of, AllStay, SomeLeaves, is_one_of, unwrap_or, MergeStays, MergeLeaves}, MergedRows.{among, key_here, key_within, narrow_at, told_more}, rows.all_take.Goals.After-row_stays}
use Rattle.star_group.proofs.rows.all_take.Goals as goal

pub found-requires : goal.found-requires
found-requires c = narrow_at c.args.rows.now.listed.width c.args.row_keys.now
    c.loop-index.index [] c.loop-index-test.true c.requires.narrow

-- whether the row of this key stays tells whether all so far do
told : (c : After-row_stays) → MatchBool c.row_stays.result
    (AllStay (row_found (entries_of c.args.rows.now))
    (among (take (c.loop-index.index + 1) (map key_view c.args.row_keys.now)))
    c.args.aggregates.now c.args.more.now)
    (SomeLeaves (row_found (entries_of c.args.rows.now)) (is_one_of c.args.row_keys.now)
    c.args.aggregates.now c.args.more.now)
told c =
    let own = c.args.row_keys.now in
    let i = c.loop-index.index in
    let h = c.loop-index-test.true in
    let key = get_or own i [] in
    told_more (map key_view own) i (key_view key) (key_within own i h) (key_here own i h)
    c.args.aggregates.now c.args.more.now (row_found (entries_of c.args.rows.now))
    c.loop-index.invariant c.row_stays.result
    (subst (λ found. MatchBool c.row_stays.result
    (MergeStays c.args.aggregates.now (unwrap_or found []) c.args.more.now)
    (MergeLeaves c.args.aggregates.now (unwrap_or found []) c.args.more.now)) c.found.ensures.row
    c.row_stays.ensures)

pub returns-then-not-row_stays : goal.returns-then-not-row_stays
returns-then-not-row_stays c =
    let no : c.row_stays.result ≡ false = search rules in
    MatchBool-at_false _ _ no (told (goal.at.returns-then-not-row_stays c).After-row_stays)

pub loop-index-preserved : goal.loop-index-preserved
loop-index-preserved c =
    let yes : c.row_stays.result ≡ true = search rules in
    MatchBool-at_true _ _ yes (told (goal.at.loop-index-preserved c).After-row_stays)
