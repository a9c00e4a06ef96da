use Rattle.std.proofs.Common.{◌++◌, ◌∷◌, take, ◌∙◌, arith}
use Rattle.star_flat.{specs.Repeated.indexes_in, proofs.RepeatedLemmas.{again, either, on_ok, text_again}}
use Rattle.star_flat.proofs.repeated.RepeatedTexts.push_front.Goals as goal

pub invariant_of-self : goal.invariant_of-self
invariant_of-self c =
    let ts = c.self.inside.kept in
    let ps = indexes_in c.self.inside.rows in
    let there = c.in-Some.ensures ts c.self.invariant.1 in
    either c.push_index.result c.push_index.ensures.ok c.push_index.ensures.err
    (λ pushed. (
      rw pushed (again ts ps c.self.invariant.0 c.in-Some.index
          (take c.args.count c.args.text.now) there),
      c.self.invariant.1,
    ))
    (λ same. (rw same c.self.invariant.0, c.self.invariant.1))

pub returns-in-Some-clause-ok : goal.returns-in-Some-clause-ok
returns-in-Some-clause-ok c = grind (arith, on_ok, text_again)
