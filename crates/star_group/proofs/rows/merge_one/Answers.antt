use Rattle.star_group.proofs.Common.{IsOk, subst, sym, true≢false}
use Rattle.star_group.proofs.rows.merge_one.Goals as goal

pub unreachable-requires : goal.unreachable-requires
unreachable-requires c = true≢false
    (sym (subst IsOk c.in-Err.is (c.merge.ensures.enough c.requires.space)))
