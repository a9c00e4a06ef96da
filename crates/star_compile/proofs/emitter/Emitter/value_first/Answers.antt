use Rattle.star_program.specs.declared.op.Operation.TheVariants.{Binary}
use Rattle.star_compile_laws.specs.Compiled.{write}
use Rattle.star_compile.proofs.Emits.{room_for_second, then_if_ok}
use Rattle.star_compile.proofs.emitter.Emitter.value_first.Goals as goal

pub write-requires-2 : goal.write-requires-2
write-requires-2 c = record {
  room = room_for_second (λ n. write (Binary c.args.operator c.args.value n))
      c.in_ok-bound.ensures.written c.requires.room;
}

pub returns : goal.returns
returns c = record {
  written = then_if_ok c.write-2.result c.write-2.new.self
      (λ n. write (Binary c.args.operator c.args.value n))
      c.in_ok-bound.ensures.written c.write-2.ensures.written;
}
