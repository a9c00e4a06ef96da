use Rattle.std.{proofs.Common.{◌∙◌, ap, map, subst, sym, take}, proofs.lemmas.List.take_all, proofs.lemmas.Result.err_from_is_err_and, specs.List.flat_map}
use Rattle.star_merge.{specs.Cells.group_of, specs.Private.Adding.HasMerged, proofs.Steps.{flat_more, small_so_far}}
use Rattle.star_merge.proofs.merging.merge_rows.Goals as goal

pub loop-rows-init : goal.loop-rows-init
loop-rows-init c = c.in_ok-merging.ensures

pub loop-rows-preserved : goal.loop-rows-preserved
loop-rows-preserved c =
    let n = c.args.count in
    let gs = c.args.aggregates.items in
    subst (λ told. HasMerged c.args.shape n gs told c.in_ok-merging-2.merging)
    (sym (flat_more (λ rows. map (group_of n) rows.now) c.args.reports.now c.loop-rows.rows-index
    c.rows-item.result c.loop-rows-test.true c.rows-item.is))
    (c.in_ok-merging-2.ensures.merged c.args.shape n gs
    (flat_map (λ rows. map (group_of n) rows.now) (take c.loop-rows.rows-index c.args.reports.now))
    c.loop-rows.invariant)

pub returns-in_err-merging-2-clause-small : goal.returns-in_err-merging-2-clause-small
returns-in_err-merging-2-clause-small c = λ groups is small.
    let n = c.args.count in
    let failed = c.from_residual-in_err-merging-2 in
    let p = err_from_is_err_and failed.result failed.ensures.1 in
    rw (p.1, p.2) (c.in_err-merging-2.ensures.small c.args.shape n c.args.aggregates.items
    (flat_map (λ rows. map (group_of n) rows.now) (take c.loop-rows.rows-index c.args.reports.now))
    c.loop-rows.invariant
    (small_so_far (λ rows. map (group_of n) rows.now) c.args.reports.now c.loop-rows.rows-index
    c.rows-item.result groups c.loop-rows-test.true c.rows-item.is is small))

pub returns : goal.returns
returns c =
    let n = c.args.count in
    let gs = c.args.aggregates.items in
    let all = ap (flat_map (λ rows. map (group_of n) rows.now))
    (take_all c.loop-rows.rows-index c.args.reports.now c.loop-rows-test.false) in
    record {
      merged = λ groups is. c.into_rows.ensures.merged c.args.shape n gs groups
          (subst (λ told. HasMerged c.args.shape n gs told c.loop-rows.merging) (all ∙ sym is)
          c.loop-rows.invariant);
      small = λ groups is. c.into_rows.ensures.small c.args.shape n gs groups
          (subst (λ told. HasMerged c.args.shape n gs told c.loop-rows.merging) (all ∙ sym is)
          c.loop-rows.invariant);
    }
