use Rattle.std.proofs.lemmas.Option.{slice_get-get_or}
use Rattle.star_engine.{specs.declared.thirteen.BenchmarkQuery.TheVariants.Q11, specs.declared.thirteen.TheConstants.THIRTEEN, proofs.BenchAnswers.{all_sections, one_section}}
use Rattle.star_engine.proofs.benchmark.bench_of.Goals as goal

pub loop-query-preserved : goal.loop-query-preserved
loop-query-preserved c =
    let at = slice_get-get_or THIRTEEN c.loop-query.query-index Q11 c.loop-query-test.true in
    rw c.in_ok-extend_from_slice.ensures.items (rw c.as_slice.ensures.value
    (one_section c.args.limits.visits c.args.catalogue.now THIRTEEN c.loop-query.query-index _
    c.loop-query.fits c.in_ok-section.section.fits c.loop-query.text.items
    c.in_ok-section.section.text.items at c.in_ok-section.ensures.0 c.in_ok-section.ensures.1
    c.loop-query.invariant))

pub returns : goal.returns
returns c =
    all_sections c.args.limits.visits c.args.catalogue.now THIRTEEN c.loop-query.query-index
    c.loop-query.fits c.loop-query.text.items c.loop-query-test.false c.loop-query.invariant
