use Rattle.std.proofs.{Common.arith, Common.drop, Common.refl, Common.drop_of_length-le, lemmas.Grind.common_steps, lemmas.List.drop_more}
use Rattle.star_schema.specs.declared.column.ColumnId.TheVariants.{DDatekey}
use Rattle.star_compile_laws.specs.Compiled.{keys_code}
use Rattle.star_compile.{specs.Private.Emitted.keys_after, proofs.Emits.{keys_behind, room_for_key, all_written}}
use Rattle.star_compile.proofs.emitter.Emitter.keys.Goals as goal

pub column-requires : goal.column-requires
column-requires c = record {
  room = room_for_key c.args.joins.now c.args.columns.now c.loop-column.registers.items
      (drop_more c.args.columns.now c.loop-column.column-index DDatekey c.loop-column-test.true)
      c.loop-column.invariant c.requires.room;
}

pub returns : goal.returns
returns c =
    let joins = c.args.joins.now in
    let columns = c.args.columns.now in
    record {
      written = all_written (keys_after joins) (keys_code joins) (keys_behind joins) columns
          (drop c.loop-column.column-index columns) c.loop-column.registers.items
          c.loop-column.invariant (λ env k. refl)
          (drop_of_length-le columns c.loop-column-test.false);
    }

pub loop-column-preserved : goal.loop-column-preserved
loop-column-preserved c = grind (arith, common_steps)
