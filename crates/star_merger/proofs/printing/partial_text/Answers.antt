use Rattle.star_partial.specs.Contents.{contents_of}
use Rattle.star_merger.proofs.printing.partial_text.Goals as goal

pub returns : goal.returns
returns c = record {
  contents = contents_of c.in_ok-partial.partial;
  partial = c.in_ok-partial.ensures;
  spelled = c.spelled_law.ensures c.args.engine.now.rows c.args.engine.now.visits
      c.args.engine.now.database c.args.query.now c.law.ensures.of_texts c.law.ensures.loaded
      c.in_ok-partial.ensures;
  written = c.in_ok-to_text.ensures;
}
