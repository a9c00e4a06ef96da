use Rattle.star_group.proofs.{Common.{◌≡◌, ◌+◌, ◌-◌, ◌*◌, ◌∙◌, ap, arith, length, subst, sym, IsMerged, MergeStays}, CutRows.{cut_put, cut_wide, mid_at}}
use Rattle.star_group.proofs.keyed.cells.merge_at.Goals as goal

pub merge_into-requires-clause-stays : goal.merge_into-requires-clause-stays
merge_into-requires-clause-stays c =
    let gs = c.args.aggregates.now in
    let start = c.args.number * length gs in
    let part : start + length gs - start ≡ length gs = omega arith in
    subst (λ held. MergeStays gs held c.args.more.now)
    (sym (mid_at (length gs) c.args.count c.args.number c.args.cells.now c.requires.within
    c.requires.long _ part)) c.requires.stays

pub returns-clause-rows : goal.returns-clause-rows
returns-clause-rows c =
    let gs = c.args.aggregates.now in
    let start = c.args.number * length gs in
    let part : start + length gs - start ≡ length gs = omega arith in
    let at = mid_at (length gs) c.args.count c.args.number c.args.cells.now c.requires.within
    c.requires.long _ part in (
      c.merge_into.new.held,
      subst (λ held. IsMerged gs held c.args.more.now c.merge_into.new.held) at
          c.merge_into.ensures.row,
      cut_put (length gs) c.args.count c.args.number c.args.cells.now c.requires.within
          c.requires.long _ c.merge_into.new.held part
          (c.merge_into.ensures.len ∙ ap length at
          ∙ cut_wide (length gs) c.args.count c.args.cells.now c.args.number c.requires.long
          c.requires.within),
    )
