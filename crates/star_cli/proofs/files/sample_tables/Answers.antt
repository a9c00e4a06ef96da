use Rattle.star_catalogue.specs.Load.{texts_view}
use Rattle.star_cli.proofs.FolderReads.{texts_read}
use Rattle.star_cli.proofs.files.sample_tables.Goals as goal

pub returns : goal.returns
returns c =
    texts_read (texts_view c.sample.result) c.widest.result.rows c.widest.ensures.rows
    c.of_texts.result c.of_texts.ensures
