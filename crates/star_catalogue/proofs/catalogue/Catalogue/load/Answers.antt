use Rattle.star_catalogue.specs.Load.{texts_view}
use Rattle.star_catalogue.proofs.catalogue.Catalogue.load.Goals as goal

pub finish-requires : goal.finish-requires
finish-requires c =
    (c.args.limits.rows, texts_view c.args.texts.now, c.in_ok-read.ensures)

pub returns-clause-loadable : goal.returns-clause-loadable
returns-clause-loadable c =
    c.finish.ensures.loadable c.args.limits.rows (texts_view c.args.texts.now) c.in_ok-read.ensures

pub returns-clause-rows : goal.returns-clause-rows
returns-clause-rows c =
    c.finish.ensures.rows c.args.limits.rows (texts_view c.args.texts.now) c.in_ok-read.ensures

pub returns-clause-refused : goal.returns-clause-refused
returns-clause-refused c =
    c.finish.ensures.refused c.args.limits.rows (texts_view c.args.texts.now) c.in_ok-read.ensures
