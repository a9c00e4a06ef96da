use Rattle.std.proofs.Common.{append_assoc}
use Rattle.star_report.proofs.Joins.{join_from_parts}
use Rattle.star_report.proofs.report.push_fields.Goals as goal

pub returns-in_ok-push_to-in-len1-up : goal.returns-in_ok-push_to-in-len1-up
returns-in_ok-push_to-in-len1-up g c =
    let joined =
    join_from_parts 124 g.F.Field.printed c.args.fields.now c.first-item.result
    c.in-len1-up.len_at_least c.first-item.is in
    let added = c.push_after_bars.ensures in
    rw (← joined, ← append_assoc, ← c.in_ok-push_to-in-len1-up.ensures) added
