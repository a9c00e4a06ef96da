use Rattle.std.proofs.Common.{rules}
use Rattle.star_plan.specs.Views.{plan_view}
use Rattle.star_compile.proofs.Turns.{room_for_conjuncts, room_for_keys, room_for_values, turn_made}
use Rattle.star_compile.proofs.compiler.turn.Goals as goal

pub conjuncts-requires-clause-room : goal.conjuncts-requires-clause-room
conjuncts-requires-clause-room c =
    let room =
    room_for_conjuncts (plan_view c.args.tree.now) c.new-emitter.result (search rules)
    c.requires.room in
    search rules

pub keys-requires : goal.keys-requires
keys-requires c =
    let room =
    room_for_keys (plan_view c.args.tree.now) c.new-emitter.result c.conjuncts.new.self
    (search rules) (search rules) c.requires.room in
    record { room = search rules }

pub values-requires : goal.values-requires
values-requires c =
    let room =
    room_for_values (plan_view c.args.tree.now) c.new-emitter.result c.conjuncts.new.self
    (search rules)
    (search rules) c.keys.new.self c.in_ok-keys.keys.items (search rules) c.requires.room in
    record { room = search rules }

pub returns : goal.returns
returns c =
    let made =
    turn_made (plan_view c.args.tree.now) c.new-emitter.result c.conjuncts.new.self (search rules)
    (search rules) c.keys.new.self c.in_ok-keys.keys.items (search rules) c.values.new.self
    c.put.new.self c.in_ok-values.values.items (search rules) (search rules) (search rules) in
    record { code = made.0; registers = made.1 }
