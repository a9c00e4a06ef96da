use Rattle.std.proofs.Common.{◌∙◌, sym, rules, length}
use Rattle.star_kinds.{specs.Kinds.register_kinds, proofs.PutOperands.{next_key, fault_here}}
use Rattle.star_kinds.proofs.operands.check_keys.Goals as goal

pub returns-in_err-check_operand : goal.returns-in_err-check_operand
returns-in_err-check_operand g c =
    let e = sym c.loop-index.invariant
    ∙ fault_here (length c.args.registers.now)
    (register_kinds g.R.Kinded.kind c.args.registers.now) c.args.declared.now c.args.keys.now
    c.loop-index.index c.entry_at-key.result c.entry_at-number.result _ c.entry_at-key.ensures
    c.entry_at-number.ensures c.in_err-check_operand.ensures in
    search (rules, e)

pub loop-index-preserved : goal.loop-index-preserved
loop-index-preserved g c =
    next_key (length c.args.registers.now) (register_kinds g.R.Kinded.kind c.args.registers.now)
    c.args.declared.now c.args.keys.now c.loop-index.index c.entry_at-key.result
    c.entry_at-number.result c.entry_at-key.ensures c.entry_at-number.ensures
    c.in_ok-check_operand.ensures
    ∙ c.loop-index.invariant
