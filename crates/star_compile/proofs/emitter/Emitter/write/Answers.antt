use Rattle.star_compile.proofs.Emits.{room_to_assign, assigned_if_ok}
use Rattle.star_compile.proofs.emitter.Emitter.write.Goals as goal

pub assign-requires : goal.assign-requires
assign-requires c = record { room = room_to_assign c.requires.room }

pub returns : goal.returns
returns c =
    let made = c.assign.ensures in
    record {
      written = assigned_if_ok c.assign.result c.args.self.now c.assign.new.self c.args.operation
          made.register made.pushed made.next made.loaded made.found;
    }
