use Rattle.star_group.proofs.{Common.sym, ListedRows.row_count}
use Rattle.star_group.proofs.keyed.ListedRows.len.Goals as goal

pub returns : goal.returns
returns c = sym (row_count c.args.self.now)
