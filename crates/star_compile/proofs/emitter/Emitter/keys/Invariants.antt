-- The keys so far and those to come are the keys.
use Rattle.std.proofs.Common.{drop, []}
use Rattle.star_compile.{specs.Private.Emitted.keys_after, proofs.Emits.Follows}
use Rattle.star_compile.proofs.emitter.Emitter.keys.Given as goal

abbrev pub invariant-loop-column : goal.invariant-loop-column
invariant-loop-column l = Follows l.fn.self l.self (keys_after l.joins l.columns [])
    (keys_after l.joins (drop l.column-index l.columns) l.registers.items)
