use Rattle.star_group.proofs.{Common.{◌≤◌, arith, length, take, length-take}, KeyedRows.base_narrow}
use Rattle.star_group.proofs.array_store.filling.key_at.Goals as goal

pub returns-clause-narrow : goal.returns-clause-narrow
returns-clause-narrow c = λ width few.
    let keys = take (length c.args.spans.now) c.keys_at-keys.result in
    let short : length keys ≤ width =
    omega (arith, few, length-take (length c.args.spans.now) c.keys_at-keys.result) in
    base_narrow width c.base_key.result keys c.base_key.ensures short
