-- What was found at the load.
use Rattle.std.proofs.Common.{◌∙◌, ap, sym, subst}
use Rattle.star_catalogue.{specs.Private.Referred.rows_view, specs.ReferredRows.AreReferredRows, proofs.ReferredRows.are_rows}
use Rattle.star_catalogue.proofs.catalogue.Catalogue.referred_rows.Goals as goal

pub returns : goal.returns
returns c =
    let are = are_rows c.self.inside.tables.value c.self.inside.referred.value c.args.column
    c.self.invariant.3 c.requires in
    subst (λ d. AreReferredRows d c.args.column c.rows.result.now) c.self.view_is
    (subst (AreReferredRows c.self.inside.tables.value c.args.column)
    (sym (c.rows.ensures ∙ ap (λ kept. rows_view kept c.args.column) c.deref.ensures)) are)
