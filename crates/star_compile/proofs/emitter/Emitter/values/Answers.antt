use Rattle.std.proofs.{Common.{◌+◌, drop, ◌∷◌, refl, sym, ap, ◌∙◌, drop_of_length-le}, lemmas.List.drop_more}
use Rattle.star_plan.specs.Views.{column_measure_view, measures_view}
use Rattle.star_compile_laws.specs.Compiled.{values_code}
use Rattle.star_compile.{specs.Private.Emitted.values_after, proofs.Emits.{values_behind, room_for_value, all_written}}
use Rattle.star_compile.proofs.emitter.Emitter.values.Goals as goal

pub value-requires : goal.value-requires
value-requires c =
    let aggregates = c.args.aggregates.now in
    let at = c.loop-aggregate.aggregate-index in
    record {
      room = room_for_value c.args.joins.now (measures_view aggregates)
          c.loop-aggregate.registers.items
          (ap measures_view (drop_more aggregates at c.aggregate-item.result
          c.loop-aggregate-test.true)
          ∙ ap (λ a. column_measure_view a.measure ∷ measures_view (drop (at + 1) aggregates))
          (sym c.aggregate-item.is))
          c.loop-aggregate.invariant c.requires.room;
    }

pub returns : goal.returns
returns c =
    let joins = c.args.joins.now in
    let aggregates = c.args.aggregates.now in
    record {
      written = all_written (values_after joins) (values_code joins) (values_behind joins)
          (measures_view aggregates)
          (measures_view (drop c.loop-aggregate.aggregate-index aggregates))
          c.loop-aggregate.registers.items c.loop-aggregate.invariant (λ env k. refl)
          (ap measures_view (drop_of_length-le aggregates c.loop-aggregate-test.false));
    }
