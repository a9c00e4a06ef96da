use Rattle.std.proofs.Common.{◌+◌, ◌-◌, ◌*◌, ◌≡◌, take, drop, ap, ◌∙◌, sym, arith}
use Rattle.star_program.proofs.Rows.{cut_at, cut_past}
use Rattle.star_program.proofs.cell_rows.row_of.Goals as goal

pub returns-then-number-len : goal.returns-then-number-len
returns-then-number-len g c =
    let s = c.args in
    let wide : s.number * s.width + s.width - s.number * s.width ≡ s.width = omega arith in
    ap (λ n. take n (drop (s.number * s.width) s.items.now)) wide
    ∙ sym (cut_at s.width s.len s.items.now s.number c.if-number-len.true)

pub returns-else-number-len : goal.returns-else-number-len
returns-else-number-len g c =
    sym (cut_past c.args.width c.args.len c.args.items.now c.args.number c.if-number-len.false)
