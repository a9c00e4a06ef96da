use Rattle.std.{proofs.Common.◌≡◌, proofs.lemmas.Result.IfOk-weaker, specs.Prelude.reverse}
use Rattle.star_schema.specs.Order.{value_cmp}
use Rattle.star_merge.{specs.Private.Adding.{AreSums, ReachNoFarther, together}, proofs.Small.{no_farther, small_moved}, proofs.Steps.sums_of_moved}
use Rattle.star_merge.proofs.sums.add_up.Goals as goal

pub returns : goal.returns
returns c =
    let gs = c.args.aggregates.now in
    let groups = c.args.groups.items in
    let sorted = c.sort_groups.new.groups.items in
    let moved = c.sort_groups.ensures.moved in
    let merged = c.merge_neighbours.ensures.merged in
    record {
      sums = IfOk-weaker c.merge_neighbours.result
          (λ merged. reverse merged.items ≡ together value_cmp gs sorted)
          (λ sums. AreSums value_cmp gs groups sums.items)
          (λ merged joined. sums_of_moved gs groups sorted merged.items moved
          c.in_ok-sort_groups.ensures.sorted joined)
          merged;
      within = IfOk-weaker c.merge_neighbours.result
          (λ merged. reverse merged.items ≡ together value_cmp gs sorted)
          (λ sums. ReachNoFarther sums.items groups)
          (λ merged joined. no_farther gs groups sorted merged.items moved joined) merged;
      small = λ small. c.merge_neighbours.ensures.small (small_moved groups sorted moved small);
    }
