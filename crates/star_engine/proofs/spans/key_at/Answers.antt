use Rattle.std.proofs.{Common.{FitsSigned, w64, rules, Some, [], ◌∷◌, ◌∙◌, sym}, lemmas.Int.to_z-of_z}
use Rattle.star_schema.specs.{Database.rows_in, Schema.column_of, declared.table.TableId.TheVariants.Lineorder}
use Rattle.star_engine.proofs.SpanLemmas.{key_there}
use Rattle.star_engine.proofs.spans.key_at.Goals as goal

pub returns : goal.returns
unfolding column_of
returns c =
    let order = c.number.result in
    let line = c.number-2.result in
    let fits_order : FitsSigned w64 order = search rules in
    let fits_line : FitsSigned w64 line = search rules in
    key_there (rows_in c.args.catalogue.now Lineorder) c.args.row order line c.number.ensures
    c.number-2.ensures
    ∙ (λ i. Some (sym (to_z-of_z w64 order fits_order) i ∷ sym (to_z-of_z w64 line fits_line) i
    ∷ []))
