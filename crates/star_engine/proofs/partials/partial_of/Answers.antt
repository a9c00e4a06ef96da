use Rattle.std.proofs.Common.{arith}
use Rattle.star_engine.proofs.{FactLemmas.facts_bounds, PlainQueries.run_plain}
use Rattle.star_engine.proofs.partials.partial_of.Goals as goal

pub returns : goal.returns
returns c =
    let is = c.in_ok-program.ensures in
    record {
      p = is.p;
      meant = is.meant;
      span = c.span_of-span.ensures.within;
      sizes = c.of-facts.ensures.sizes;
      bounds = facts_bounds c.args.catalogue.now c.of-facts.result c.of-facts.ensures (omega arith);
      run = run_plain c.args.limits.visits c.args.catalogue.now c.args.query.now
          c.in_ok-program.program is
          (c.each_plain_query_has_laws.ensures c.args.limits.visits c.args.query.now is.p is.meant)
          c.in_ok-run.run' c.in_ok-run.ensures;
    }
