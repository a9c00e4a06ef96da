use Rattle.std.proofs.Common.{◌≡◌, drop}
use Rattle.star_compile_laws.specs.Compiled.{register_in}
use Rattle.star_compile.proofs.columns.entry.Given as goal

abbrev pub invariant-loop-entry : goal.invariant-loop-entry
invariant-loop-entry g l = register_in g.K.PartialEq.eq (drop l.entry-index l.entries) l.key
    ≡ register_in g.K.PartialEq.eq l.entries l.key
