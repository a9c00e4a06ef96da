use Rattle.star_plan.specs.Views.{literal_value_view}
use Rattle.star_program.specs.declared.op.Operation.TheVariants.{Within}
use Rattle.star_compile_laws.specs.Compiled.{beside, end_behind, write}
use Rattle.star_compile.proofs.Emits.{room_for_first, room_for_second, then_if_ok}
use Rattle.star_compile.proofs.emitter.Emitter.between.Goals as goal

pub write-requires : goal.write-requires
write-requires c = record {
  room = rw c.in_ok-start_of.ensures
      (room_for_first
      (λ m. beside (end_behind c.args.column (literal_value_view c.args.upto.now))
      (Within c.args.value m))
      c.requires.room);
}

pub write-requires-2 : goal.write-requires-2
write-requires-2 c =
    let from = rw c.in_ok-start_of.ensures at c.in_ok-from.ensures.written in
    record {
      room = rw c.in_ok-end_of.ensures
          (room_for_first (λ n. write (Within c.args.value c.in_ok-from.from n))
          (room_for_second
          (λ m. beside (end_behind c.args.column (literal_value_view c.args.upto.now))
          (Within c.args.value m))
          from c.requires.room));
    }

pub write-requires-3 : goal.write-requires-3
write-requires-3 c =
    let from = rw c.in_ok-start_of.ensures at c.in_ok-from.ensures.written in
    let below = rw c.in_ok-end_of.ensures at c.in_ok-below.ensures.written in
    record {
      room = room_for_second (λ n. write (Within c.args.value c.in_ok-from.from n)) below
          (room_for_second
          (λ m. beside (end_behind c.args.column (literal_value_view c.args.upto.now))
          (Within c.args.value m))
          from c.requires.room);
    }

pub returns : goal.returns
returns c =
    let from = rw c.in_ok-start_of.ensures at c.in_ok-from.ensures.written in
    let below = rw c.in_ok-end_of.ensures at c.in_ok-below.ensures.written in
    let rest =
    then_if_ok c.write-3.result c.write-3.new.self
    (λ n. write (Within c.args.value c.in_ok-from.from n)) below c.write-3.ensures.written in
    record {
      written = then_if_ok c.write-3.result c.write-3.new.self
          (λ m. beside (end_behind c.args.column (literal_value_view c.args.upto.now))
          (Within c.args.value m))
          from rest;
    }
