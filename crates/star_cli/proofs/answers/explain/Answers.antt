use Rattle.std.proofs.Common.{refl}
use Rattle.star_engine.{specs.Answered.change, specs.Queries.{IsExplained, IsQueryError}, proofs.ByClauses.is_answered}
use Rattle.star_cli.proofs.answers.explain.Goals as goal

pub returns : goal.returns
returns g c = λ path texts.
    let explained = c.explain_query.ensures in record {
      result = c.whole-given.result;
      noted = c.args.err.now;
      given = (
        (
          c.explain_query.result,
          is_answered
              (change g.S.Sink.contents g.S.Sink.is_failed c.args.out.now c.explain_query.new.out)
              (IsExplained c.args.file.now) (IsQueryError c.args.file.now) c.explain_query.result
              explained.written explained.broken explained.refused explained.memory,
          c.whole-given.ensures,
        ),
        refl,
      );
      ended = c.end.ensures;
    }
