use Rattle.star_group.proofs.{Common.{◌≡◌, ◌<◌, ◌∙◌, [], None, ap, arith, drop, get_or, length, set, subst, sym, drop-set-lt, slice_get-get_or, key_view, row_found, All, entries_of, listed_entries, all_rolled_up, IsMergedWhere, RowsStay}, KeyedRows.rows_once, Rolling.{IsMergedSoFar, none_before, rolls_up, turn_merges, turn_stays}}
use Rattle.star_group.proofs.deferred.coarser.coarser_rows.Goals as goal

pub loop-number-init : goal.loop-number-init
loop-number-init c =
    let es = listed_entries c.args.rows.now in
    record {
      merged = subst (IsMergedSoFar c.args.shape c.args.key_count c.args.aggregates.now c.args.index
          es c.args.from) (sym c.in_ok-made.ensures.empty)
          (none_before c.args.shape c.args.key_count c.args.aggregates.now c.args.index es
          c.args.from c.requires.from c.requires.none);
      width = c.in_ok-made.ensures.width ∙ omega (arith, c.requires.key_count, c.requires.index);
      many = c.in_ok-made.ensures.aggregate_count ∙ c.requires.aggregate_count;
    }

pub merge_coarser-requires-clause-narrow : goal.merge_coarser-requires-clause-narrow
merge_coarser-requires-clause-narrow c =
    let width = c.loop-number.made.listed.width in
    let within : c.args.index < width =
    omega (arith, c.requires.index, c.requires.key_count, c.loop-number.invariant.width) in
    ap (drop width) c.with_all_at-key.ensures.parts
    ∙ drop-set-lt width c.key.result c.args.index All within
    ∙ subst (λ n. drop n c.key.result ≡ drop n all_rolled_up) (sym c.loop-number.invariant.width)
    c.key.ensures.narrow

pub merge_coarser-requires-clause-stays : goal.merge_coarser-requires-clause-stays
merge_coarser-requires-clause-stays c = λ grouping.
    let es = listed_entries c.args.rows.now in
    let number = c.loop-number.number in
    let at = slice_get-get_or es number ([], [])
    (omega (arith, c.loop-number-test.true, c.len-number-end.ensures)) in
    let key = c.with_all_at-key.ensures.key
    ∙ ap (λ ps. set (key_view ps) c.args.index None) c.key.ensures.key in
    subst (RowsStay c.args.aggregates.now
    (row_found (entries_of c.loop-number.made) (key_view c.with_all_at-key.result)))
    (sym c.row.ensures.row)
    (turn_stays c.args.shape c.args.key_count c.args.aggregates.now c.args.index es number
    (get_or es number ([], [])) at (entries_of c.loop-number.made) c.with_all_at-key.result key
    c.loop-number.invariant.merged c.requires.room grouping)

pub loop-number-preserved : goal.loop-number-preserved
loop-number-preserved c =
    let es = listed_entries c.args.rows.now in
    let number = c.loop-number.number in
    let at = slice_get-get_or es number ([], [])
    (omega (arith, c.loop-number-test.true, c.len-number-end.ensures)) in
    let key = c.with_all_at-key.ensures.key
    ∙ ap (λ ps. set (key_view ps) c.args.index None) c.key.ensures.key in
    let widths = c.merge_coarser.ensures.widths in
    record {
      merged = turn_merges c.args.shape c.args.key_count c.args.aggregates.now c.args.index es
          number
          (get_or es number ([], [])) at (entries_of c.loop-number.made) c.with_all_at-key.result
          key
          c.loop-number.invariant.merged (entries_of c.merge_coarser.new.rows)
          (subst (λ more. IsMergedWhere c.args.shape c.args.key_count c.args.aggregates.now
          (key_view c.with_all_at-key.result) more (entries_of c.loop-number.made)
          (entries_of c.merge_coarser.new.rows)) c.row.ensures.row
          c.in_ok-merge_coarser.ensures.ok);
      width = widths.width ∙ c.loop-number.invariant.width;
      many = widths.many ∙ c.loop-number.invariant.many;
    }

pub returns-clause-rows : goal.returns-clause-rows
returns-clause-rows c =
    let es = listed_entries c.args.rows.now in
    let all : c.loop-number.number ≡ length es =
    omega (
      arith,
      c.loop-number-test.false,
      c.loop-number.auto.number-end,
      c.len-number-end.ensures,
      c.requires.from,
    ) in
    rolls_up c.args.shape c.args.key_count c.args.aggregates.now c.args.index es
    (entries_of c.loop-number.made) (rows_once c.loop-number.made)
    (subst (λ n. IsMergedSoFar c.args.shape c.args.key_count c.args.aggregates.now c.args.index es n
    (entries_of c.loop-number.made)) all c.loop-number.invariant.merged)
