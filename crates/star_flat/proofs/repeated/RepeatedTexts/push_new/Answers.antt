use Rattle.std.proofs.Common.{◌≡◌, ◌++◌, ◌∷◌, ◌∙◌, arith}
use Rattle.star_flat.{specs.Repeated.indexes_in, proofs.RepeatedLemmas.{anew, either_of_two, met_more, on_two, text_anew}, proofs.repeated.RepeatedTexts.push_new.Goals.{then-len-self+in_ok-compact, else-len-self}}
use Rattle.star_flat.proofs.repeated.RepeatedTexts.push_new.Goals as goal

pub invariant_of-self : goal.invariant_of-self
invariant_of-self c =
    let ts = c.self-2.inside.kept in
    let ps = indexes_in c.self-2.inside.rows in
    either_of_two c.keep.result c.keep.ensures.kept c.keep.ensures.rows c.keep.ensures.err
    (λ kept rows. rw (kept, rows) (
      anew ts ps c.self-2.invariant.0 c.args.text.now,
      met_more ts c.args.text.now c.self-2.inside.met c.self-2.invariant.1,
    ))
    (λ same. rw (same.0, same.1) c.self-2.invariant)

pub returns-clause-ok : goal.returns-clause-ok
returns-clause-ok c = grind (arith, then-len-self+in_ok-compact, else-len-self, on_two, text_anew)
