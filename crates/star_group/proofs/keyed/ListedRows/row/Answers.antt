use Rattle.star_group.proofs.{Common.{Entry, ◌∙◌, [], ap, get_or, length, sym, cut}, ListedRows.{cells_wide, entry_at}}
use Rattle.star_group.proofs.keyed.ListedRows.row.Goals as goal

pub returns-clause-row : goal.returns-clause-row
returns-clause-row c =
    let s = c.args.self.now in
    c.row_of.ensures ∙ ap (λ ps. get_or (cut s.aggregate_count s.len ps) c.args.number [])
    c.as_slice.ensures.value ∙ sym (ap (λ (e : Entry). e.1) (entry_at s c.args.number c.requires))

pub returns-clause-wide : goal.returns-clause-wide
returns-clause-wide c =
    let s = c.args.self.now in
    ap length (c.row_of.ensures
    ∙ ap (λ ps. get_or (cut s.aggregate_count s.len ps) c.args.number [])
    c.as_slice.ensures.value)
    ∙ cells_wide s c.args.number c.requires
