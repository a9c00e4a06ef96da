use Rattle.star_reader.proofs.PassedOn.{passed_on}
use Rattle.star_catalogue.proofs.Loading.{refused_table}
use Rattle.star_catalogue.proofs.catalogue.Catalogue.finish.Goals as goal

pub returns-in_err-loaded-clause-refused : goal.returns-in_err-loaded-clause-refused
returns-in_err-loaded-clause-refused c = λ most texts are.
    passed_on _ _ _ (c.in_err-loaded.ensures most texts are) c.from_residual.ensures.1
    (refused_table most texts _)

pub of_tables-requires : goal.of_tables-requires
of_tables-requires c =
    let (most, texts, are) = c.requires in
    (most, texts, c.in_ok-loaded.ensures most texts are)

pub returns-clause-loadable : goal.returns-clause-loadable
returns-clause-loadable c = λ most texts are.
    c.of_tables.ensures.loadable most texts (c.in_ok-loaded.ensures most texts are)

pub returns-clause-rows : goal.returns-clause-rows
returns-clause-rows c = λ most texts are.
    c.of_tables.ensures.rows most texts (c.in_ok-loaded.ensures most texts are)

pub returns-clause-refused : goal.returns-clause-refused
returns-clause-refused c = λ most texts are.
    c.of_tables.ensures.refused most texts (c.in_ok-loaded.ensures most texts are)
