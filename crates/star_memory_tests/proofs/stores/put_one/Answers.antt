use Rattle.std.proofs.Common.{arith, rules, ℤ, pos, [], ◌∷◌, FitsSigned, of_z, to_z, to_z-of_z, w64}
use Rattle.star_program.specs.Puts.{Update}
use Rattle.star_memory_tests.proofs.FewPuts.{four_narrow, has_room, one_more}
use Rattle.star_memory_tests.proofs.stores.put_one.Goals as goal

pub put-requires-clause-room : goal.put-requires-clause-room
put-requires-clause-room g c =
    let fits : FitsSigned w64 c.args.number = search rules in
    let z : ℤ = to_z w64 (of_z w64 c.args.number) in
    let fits_too : FitsSigned w64 (to_z w64 (of_z w64 c.args.number)) = rw to_z-of_z fits in
    let put : Update = record { keys = c.args.keys.now; values = z ∷ pos 0 ∷ z ∷ z ∷ [] } in
    let few = c.requires.few in (
      few.0,
      few.1,
      has_room (g.S.GroupStore.group c.args.store.now) c.args.made few.0 put
          (omega (arith, c.requires.made)) few.2 (four_narrow z fits_too),
    )

pub returns-clause-ok : goal.returns-clause-ok
returns-clause-ok g c =
    let fits : FitsSigned w64 c.args.number = search rules in
    let z : ℤ = to_z w64 (of_z w64 c.args.number) in
    let fits_too : FitsSigned w64 (to_z w64 (of_z w64 c.args.number)) = rw to_z-of_z fits in
    let put : Update = record { keys = c.args.keys.now; values = z ∷ pos 0 ∷ z ∷ z ∷ [] } in
    let few = c.requires.few in (
      put ∷ few.0,
      c.in_ok-put.ensures.ok few.0 few.1,
      one_more c.args.made few.0 put few.2 (four_narrow z fits_too),
    )
