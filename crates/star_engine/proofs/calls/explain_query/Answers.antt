use Rattle.std.proofs.Common.{◌∙◌}
use Rattle.star_compile_laws.specs.Compiled.{compiled}
use Rattle.star_engine.{specs.Answered.change, specs.Queries.{IsExplained, IsQueryError}, proofs.ByClauses.{by_clauses, written}, proofs.Executing.program_text_some}
use Rattle.star_engine.proofs.calls.explain_query.Goals as goal

pub write_text-requires : goal.write_text-requires
write_text-requires g c =
    let text = c.in_ok-text.ensures c.args.query.now c.in_ok-question.ensures in
    rw (c.as_slice.ensures.value ∙ text.written) (program_text_some (compiled text.p))

pub returns : goal.returns
returns g c =
    let query = c.args.query.now in
    let sink = change g.S.Sink.contents g.S.Sink.is_failed c.args.out.now c.write_text.new.out in
    let (w, b, r, m) = by_clauses sink (IsExplained query) (IsQueryError query) c.write_text.result
    (written sink c.as_slice.result.now (IsExplained query) (IsQueryError query)
    c.write_text.result
    (rw c.as_slice.ensures.value (c.in_ok-text.ensures query c.in_ok-question.ensures))
    c.write_text.ensures) in
    record { written = w; broken = b; refused = r; memory = m }
