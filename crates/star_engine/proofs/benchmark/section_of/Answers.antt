use Rattle.std.proofs.Common.{◌++◌, ◌∙◌}
use Rattle.star_engine.{specs.Thirteen.query_text, proofs.BenchAnswers.section_written}
use Rattle.star_engine.proofs.benchmark.section_of.Goals as goal

pub returns : goal.returns
returns c =
    let most = c.args.limits.visits in
    let query = c.args.query in
    section_written most c.args.catalogue.now query c.in_ok-question.question.program
    (c.each_query_has_laws.ensures most (query_text query)) c.in_ok-question.ensures
    c.in_ok-found.found.fits c.in_ok-found.found.text.items c.extend_from_slice.new.self.items
    c.in_ok-found.ensures (c.in_ok-extend_from_slice.ensures.items
    ∙ (λ i. c.in_ok-text.ensures i ++ c.as_slice.ensures.value i))
