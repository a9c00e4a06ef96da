use Rattle.star_plan.specs.Views.{row_condition_view}
use Rattle.star_compile.proofs.Emits.{conjunct_written}
use Rattle.star_compile.proofs.emitter.Emitter.conjunct.Goals as goal

pub returns : goal.returns
returns c =
    let kept = c.keep.ensures in
    record {
      written =
          conjunct_written c.keep.result c.args.joins.now (row_condition_view c.args.condition.now)
          c.keep.new.self c.in_ok-flag.ensures.written kept.pushed kept.next kept.loaded kept.found;
    }
