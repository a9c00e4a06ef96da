use Rattle.std.proofs.Common.{◌≡◌, ◌∙◌, false}
use Rattle.star_engine.{specs.Queries.IsQueryError, specs.Questions.Asks, specs.Thirteen.query_text, proofs.QueryFaults.matched_or_memory}
use Rattle.star_engine.proofs.benchmark.question_of.Goals as goal

pub returns : goal.returns
returns c =
    let text : c.as_bytes.result.now ≡ query_text c.args.query =
    c.as_bytes.ensures.value ∙ c.text.ensures
    in
    matched_or_memory (Asks false (query_text c.args.query)) (IsQueryError
    (query_text c.args.query))
    c.query.result (c.the_thirteen_are_queries.ensures.read c.args.query)
    (rw text at c.query.ensures)
