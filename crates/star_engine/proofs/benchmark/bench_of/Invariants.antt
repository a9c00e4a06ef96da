use Rattle.std.proofs.Common.{drop}
use Rattle.star_engine.{specs.declared.thirteen.TheConstants.THIRTEEN, proofs.BenchAnswers.GoesOn}
use Rattle.star_engine.proofs.benchmark.bench_of.Given as goal

abbrev pub invariant-loop-query : goal.invariant-loop-query
invariant-loop-query l =
    GoesOn l.limits.visits l.catalogue THIRTEEN (drop l.query-index THIRTEEN) l.fits l.text.items
