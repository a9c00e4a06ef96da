use Rattle.std.specs.Prelude.{IfSome}
use Rattle.star_cli.specs.Private.Reads.{IsWidest}
use Rattle.star_cli.proofs.partials.make_partials.Given as goal

abbrev pub invariant-loop-part : goal.invariant-loop-part
invariant-loop-part g l = IfSome l.loaded IsWidest
