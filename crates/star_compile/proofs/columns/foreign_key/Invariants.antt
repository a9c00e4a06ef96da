use Rattle.std.proofs.Common.{◌≡◌, drop}
use Rattle.star_compile_laws.specs.Compiled.{foreign_of}
use Rattle.star_compile.proofs.columns.foreign_key.Given as goal

abbrev pub invariant-loop-join : goal.invariant-loop-join
invariant-loop-join l = foreign_of (drop l.join-index l.joins) l.table ≡ foreign_of l.joins l.table
