use Rattle.star_catalogue.specs.Load.{texts_view}
use Rattle.star_engine.proofs.engine.Engine.load.Goals as goal

pub of_read-requires : goal.of_read-requires
of_read-requires c = (texts_view c.args.texts.now, c.in_ok-read.ensures)

pub returns-clause-loadable : goal.returns-clause-loadable
returns-clause-loadable c =
    c.of_read.ensures.loadable (texts_view c.args.texts.now) c.in_ok-read.ensures

pub returns-clause-loaded : goal.returns-clause-loaded
returns-clause-loaded c =
    c.of_read.ensures.loaded (texts_view c.args.texts.now) c.in_ok-read.ensures

pub returns-clause-refused : goal.returns-clause-refused
returns-clause-refused c =
    c.of_read.ensures.refused (texts_view c.args.texts.now) c.in_ok-read.ensures
