use Rattle.std.proofs.Common.{get_or}
use Rattle.star_flat.{specs.Repeated.indexes_in, proofs.RepeatedLemmas.indexes_more}
use Rattle.star_flat.proofs.repeated.renumbered.Goals as goal

pub loop-row-preserved : goal.loop-row-preserved
loop-row-preserved c =
    indexes_more (λ p. get_or c.args.numbers.now p 0) (indexes_in c.args.rows.now) c.loop-row.row
    c.index_at.result (indexes_in c.loop-row.renumbered) (indexes_in c.push_index.new.rows)
    c.index_at.ensures c.loop-row.invariant c.in_ok-push_index.ensures.ok
