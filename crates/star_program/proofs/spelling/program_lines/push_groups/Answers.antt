use Rattle.star_program.proofs.Text.WrittenLemmas.{group_more}
use Rattle.star_program.proofs.spelling.program_lines.push_groups.Goals as goal

pub loop-index-preserved : goal.loop-index-preserved
loop-index-preserved c =
    rw c.in_ok-push_group_line.ensures
    (group_more c.args.groups.now c.loop-index.index c.group_at.result.now _
    c.loop-index.out.items c.group_at.ensures c.loop-index.invariant)
