use Rattle.std.proofs.Common.{◌++◌, ◌∷◌, ◌∙◌, arith}
use Rattle.star_flat.{specs.Repeated.indexes_in, proofs.RepeatedLemmas.{again, either, on_ok, text_again}}
use Rattle.star_flat.proofs.repeated.RepeatedTexts.push_other.Goals as goal

pub invariant_of-self : goal.invariant_of-self
invariant_of-self c =
    let ts = c.self.inside.kept in
    let ps = indexes_in c.self.inside.rows in
    let met = c.remember.ensures ts c.self.invariant.1 c.in-Some.ensures in
    either c.push_index.result c.push_index.ensures.ok c.push_index.ensures.err
    (λ pushed. (
      rw pushed (again ts ps c.self.invariant.0 c.in-Some.index c.args.text.now c.in-Some.ensures),
      met,
    ))
    (λ same. (rw same c.self.invariant.0, met))

pub returns-in-Some-clause-ok : goal.returns-in-Some-clause-ok
returns-in-Some-clause-ok c = grind (arith, on_ok, text_again)
