use Rattle.std.proofs.Common.{rules, refl}
use Rattle.star_compile.proofs.Emits.{room_to_assign, assigned}
use Rattle.star_compile.proofs.emitter.Emitter.find.Goals as goal

pub assign-requires : goal.assign-requires
assign-requires c = record { room = room_to_assign c.requires.room }

pub returns : goal.returns
returns c = record {
  written =
      assigned (search rules) (search rules) (search rules) (search rules) refl (search rules);
}
