-- The range of the total with its default fits 64 bits, or leaves them.
use Rattle.std.proofs.Common.{◌≡◌, FitsSigned, refl, subst, sym, w64, to_z-of_z, rules, ◌∙◌}
use Rattle.star_verify.proofs.{Common.{FitsI64, false≢true, hull_with, only, overflow, reach_of, reach_view, read_range, wide_range_of}, Overflows.{fitting, leaving}}
use Rattle.star_verify.proofs.totals.read.Goals as goal

pub returns-in-Ok : goal.returns-in-Ok
returns-in-Ok c = λ w ss is.
    let number : FitsSigned w64 c.args.default = search rules in
    let range : wide_range_of c.with_default.result
    ≡ read_range c.args.aggregate ss (only c.args.default) =
    c.with_default.ensures ∙ (λ i.
    hull_with (c.total_range.ensures ss is i) (only (to_z-of_z number i))) in
    let fits = subst FitsI64 range (c.in-Ok.ensures.fits.0 refl) in
    let same = c.in-Ok.ensures.bounds ∙ range in
    (search (rules, same), fitting w _ _ fits)

pub returns-in-Err : goal.returns-in-Err
returns-in-Err c = λ w ss is.
    let number : FitsSigned w64 c.args.default = search rules in
    let range : wide_range_of c.in-Err.range
    ≡ read_range c.args.aggregate ss (only c.args.default) =
    c.in-Err.ensures.bounds ∙ c.with_default.ensures
    ∙ (λ i. hull_with (c.total_range.ensures ss is i) (only (to_z-of_z number i))) in
    let told : overflow w (wide_range_of c.in-Err.range) (reach_view c.args.tally.reach)
    ≡ overflow w (read_range c.args.aggregate ss (only c.args.default)) (reach_of ss) =
    λ i. overflow w (range i) (is.reach i) in
    sym told
    ∙ leaving w (wide_range_of c.in-Err.range) (reach_view c.args.tally.reach)
    (λ fits. false≢true (c.in-Err.ensures.fits.1 (subst FitsI64 c.in-Err.ensures.bounds fits)))
