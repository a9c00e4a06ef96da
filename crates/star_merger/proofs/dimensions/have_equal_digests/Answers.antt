use Rattle.std.{proofs.Common.{◌∙◌, ap, sym}, proofs.lemmas.Cmp.nat_list_eq_equiv, specs.Cmp.Lexicographic.pointwise, specs.Prelude.nat_eq}
use Rattle.star_merger.proofs.dimensions.have_equal_digests.Goals as goal

pub returns : goal.returns
returns c = λ same.
    c.eq.ensures
    ∙ ap (pointwise nat_eq c.args.a.now.digest) (sym same)
    ∙ nat_list_eq_equiv.refl c.args.a.now.digest
