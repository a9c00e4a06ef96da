use Rattle.std.proofs.{Common.◌∙◌, Common.◌++◌, Common.ap, lemmas.Result.on_ok_weaker}
use Rattle.star_merge.proofs.Steps.{row_groupings}
use Rattle.star_merge.proofs.merging.push_row.Goals as goal

pub returns : goal.returns
returns c =
    on_ok_weaker c.push_groupings.result
    (λ pushed. pushed ∙ ap (λ more. c.args.groups.now.items ++ more)
    (row_groupings c.args.shape c.args.count c.min.result c.args.row.now c.split_at.result.0.now
    c.split_at.result.1.now c.new.result.items c.deref.result.now c.min.ensures
    c.split_at.ensures.front c.split_at.ensures.back
    (c.deref.ensures.value ∙ c.in_ok-totals.ensures) c.new.ensures.items))
    c.push_groupings.ensures
