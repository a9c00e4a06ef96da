use Rattle.std.proofs.Common.{◌≡◌, ◌++◌, map, take}
use Rattle.star_merger.specs.Columns.{key_column}
use Rattle.star_merger.proofs.columns.push_keys.Given as goal

abbrev pub invariant-loop-key : goal.invariant-loop-key
invariant-loop-key l =
    l.columns.items ≡ l.fn.columns.items ++ map key_column (take l.key-index l.keys)
