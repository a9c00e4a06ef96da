-- An instruction that was checked by what the registers hold.
use Rattle.std.{proofs.Common.{◌≡◌, Bool, List, Option, Some, None, ap, sym, ◌∙◌}, proofs.Math.ListN.get_or-map, specs.Option.{option_map, option_or}}
use Rattle.star_program.specs.{Effects.{State, Traps, act, effect_of, kinds_in, result_trap, unless_trap}, Faults.{fault_of, operands_fault, place_fault, target_fault, target_of}, declared.fault.Fault.Fault, declared.fault.TrapKind.TheVariants.Wrong, declared.op.Op.Op, declared.program.Parts.Parts, declared.value.Value.Value, Private.Doing.does, Values.register_kind, World.World}
use Rattle.star_kinds.specs.Kinds.{register_kinds}
use Rattle.star_common.proofs.Firsts.{or_none}
use Rattle.star_trial.specs.Private.Views.{registers_view}

same_kinds : (xs : List (Option Value))
    → register_kinds (option_map register_kind) xs ≡ kinds_in (registers_view xs)
same_kinds xs = λ i r. get_or-map (option_map register_kind) xs r None i

module _ (parts : Parts) (inside : Bool) (xs : List (Option Value)) (op : Op) where
  same_fault : fault_of parts inside None (register_kinds (option_map register_kind) xs) op
      ≡ fault_of parts inside None (kinds_in (registers_view xs)) op
  same_fault = ap (λ kinds. fault_of parts inside None kinds op) (same_kinds xs)

  -- where nothing is wrong, nothing is wrong with its operands
  pub operands_fine : fault_of parts inside None (register_kinds (option_map register_kind) xs) op
      ≡ None → operands_fault parts (kinds_in (registers_view xs)) op ≡ None
  operands_fine fine =
      let target = target_fault parts.registers (target_of op) in
      let operands = operands_fault parts (kinds_in (registers_view xs)) op in
      (or_none target operands
      (or_none (place_fault parts inside op) (option_or target operands)
      (sym same_fault ∙ fine)).1).1

  pub acts : (w : World) (s : State)
      → fault_of parts inside None (register_kinds (option_map register_kind) xs) op ≡ None
      → does w parts (registers_view xs) s op ≡ act w parts inside (registers_view xs) s op
  acts w s fine = ap (λ o.
      unless_trap (option_or (option_map Wrong o) (result_trap w parts (registers_view xs) s op))
      (effect_of w parts (registers_view xs) s op)) (sym fine ∙ same_fault)

  pub traps : (w : World) (s : State) (fault : Fault)
      → fault_of parts inside None (register_kinds (option_map register_kind) xs) op ≡ Some fault
      → act w parts inside (registers_view xs) s op ≡ Traps (Wrong fault)
  traps w s fault wrong = ap
      (λ o. unless_trap (option_or (option_map Wrong o)
      (result_trap w parts (registers_view xs) s op)) (effect_of w parts (registers_view xs) s op))
      (sym same_fault ∙ wrong)
