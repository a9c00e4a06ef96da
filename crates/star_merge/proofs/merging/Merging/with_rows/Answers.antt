use Rattle.std.proofs.Common.{◌∙◌, ◌++◌, map, refl}
use Rattle.star_merge_laws.specs.Regrouping.{all_added}
use Rattle.star_merge.{specs.Cells.group_of, proofs.Steps.merged_more}
use Rattle.star_merge.proofs.merging.Merging.with_rows.Goals as goal

pub returns : goal.returns
returns c = record {
  merged = λ s count gs told h.
      let groups = c.args.self.groups.items in
      let more = map (group_of count) c.args.rows.now in
      c.compacted.ensures.merged s count gs (told ++ more)
      (merged_more s count gs told more c.args.self _ h refl refl refl
      (c.in_ok-push_rows.ensures
      ∙ (λ i. groups ++ all_added (h.by_shape i)
      (map (group_of (h.count i)) (c.in_ok-rows.ensures i)))));
  small = λ s count gs told h.
      let groups = c.args.self.groups.items in
      let more = map (group_of count) c.args.rows.now in
      c.compacted.ensures.small s count gs (told ++ more)
      (merged_more s count gs told more c.args.self _ h refl refl refl
      (c.in_ok-push_rows.ensures
      ∙ (λ i. groups ++ all_added (h.by_shape i)
      (map (group_of (h.count i)) (c.in_ok-rows.ensures i)))));
}
