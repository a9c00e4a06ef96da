use Rattle.star_group.proofs.{Common.{Entry, ◌∙◌, [], ap, arith, drop, get_or, length, sym, filled, cut}, ListedRows.{entry_at, filled_narrow, key_wide}}
use Rattle.star_group.proofs.keyed.ListedRows.key.Goals as goal

pub in_six_slots-requires : goal.in_six_slots-requires
in_six_slots-requires c =
    let s = c.args.self.now in
    let parts = c.row_of.ensures
    ∙ ap (λ ps. get_or (cut s.width s.len ps) c.args.number []) c.as_slice.ensures.value in
    omega (arith, ap length parts, key_wide s c.args.number c.requires, s.few)

pub returns-clause-key : goal.returns-clause-key
returns-clause-key c =
    let s = c.args.self.now in
    let parts = c.row_of.ensures
    ∙ ap (λ ps. get_or (cut s.width s.len ps) c.args.number []) c.as_slice.ensures.value in
    c.in_six_slots.ensures ∙ ap filled parts ∙ sym (ap (λ (e : Entry). e.0)
    (entry_at s c.args.number c.requires))

pub returns-clause-narrow : goal.returns-clause-narrow
returns-clause-narrow c =
    let s = c.args.self.now in
    let parts = c.row_of.ensures
    ∙ ap (λ ps. get_or (cut s.width s.len ps) c.args.number []) c.as_slice.ensures.value in
    ap (drop s.width) c.in_six_slots.ensures
    ∙ filled_narrow s.width c.row_of.result.now
    (ap length parts ∙ key_wide s c.args.number c.requires)
