use Rattle.star_catalogue.specs.Pieces.{AreRead}
use Rattle.star_cli.proofs.Loading.{is_widest, of_widest}
use Rattle.star_cli.proofs.loads.engine_of.Goals as goal

pub of_read-requires : goal.of_read-requires
of_read-requires c = let (texts, are) = c.requires in (texts, rw c.widest.ensures.rows are)

pub returns-clause-loaded : goal.returns-clause-loaded
returns-clause-loaded c = λ texts are.
    let read : AreRead c.args.read c.widest.result.rows texts = rw c.widest.ensures.rows are in
    of_widest texts c.widest.result.rows c.widest.result.visits c.widest.ensures.rows
    c.widest.ensures.visits c.of_read.result (c.of_read.ensures.loadable texts read)
    (c.of_read.ensures.loaded texts read) (c.of_read.ensures.refused texts read)

pub returns-clause-widest : goal.returns-clause-widest
returns-clause-widest c =
    let (texts, are) = c.requires in
    is_widest texts c.of_read.result (returns-clause-loaded c texts are)
