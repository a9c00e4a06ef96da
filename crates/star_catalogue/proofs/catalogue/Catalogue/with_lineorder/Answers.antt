use Rattle.std.proofs.Common.{◌∙◌}
use Rattle.star_reader.proofs.PassedOn.{passed_on}
use Rattle.star_catalogue.{specs.Pieces.with_lineorder_text, proofs.Loading.{lineorder_fault, lineorder_rows, refused_table}}
use Rattle.star_catalogue.proofs.catalogue.Catalogue.with_lineorder.Goals as goal

pub returns-in_err-loaded-clause-refused : goal.returns-in_err-loaded-clause-refused
returns-in_err-loaded-clause-refused c = λ most texts text is.
    passed_on _ _ _ (c.in_err-loaded.ensures most text is.read) c.from_residual.ensures.1
    (λ fault. refused_table most _ _ (lineorder_fault most texts text _ is.loadable fault))

pub of_tables-requires : goal.of_tables-requires
of_tables-requires c =
    let (most, texts, text, is) = c.requires in
    let own = c.into_inner.ensures ∙ c.self.view_is in (
      most,
      with_lineorder_text texts text,
      lineorder_rows own is (c.in_ok-loaded.ensures most text is.read),
    )

pub returns-clause-loadable : goal.returns-clause-loadable
returns-clause-loadable c = λ most texts text is.
    let own = c.into_inner.ensures ∙ c.self.view_is in
    c.of_tables.ensures.loadable most _
    (lineorder_rows own is (c.in_ok-loaded.ensures most text is.read))

pub returns-clause-rows : goal.returns-clause-rows
returns-clause-rows c = λ most texts text is.
    let own = c.into_inner.ensures ∙ c.self.view_is in
    c.of_tables.ensures.rows most _
    (lineorder_rows own is (c.in_ok-loaded.ensures most text is.read))

pub returns-clause-refused : goal.returns-clause-refused
returns-clause-refused c = λ most texts text is.
    let own = c.into_inner.ensures ∙ c.self.view_is in
    c.of_tables.ensures.refused most _
    (lineorder_rows own is (c.in_ok-loaded.ensures most text is.read))
