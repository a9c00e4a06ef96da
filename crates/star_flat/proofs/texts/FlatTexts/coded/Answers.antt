use Rattle.std.proofs.Common.{arith}
use Rattle.star_flat.proofs.{CodesKept.codes_met, CodesKept.sorted_different, CodesKept.texts_coded, RepeatedLemmas.if_all}
use Rattle.star_flat.proofs.texts.FlatTexts.coded.Goals as goal

pub returns-clause-sorted : goal.returns-clause-sorted
returns-clause-sorted c = if_all c.code_ordered-coded.result c.code_ordered-coded.ensures.texts
    c.code_ordered-coded.ensures.few
    c.code_ordered-coded.ensures.len c.code_ordered-coded.ensures.codes
    (λ coded made few len lead. rw (made, c.as_slice.ensures.value)
    (sorted_different c.args.self.now c.in_ok-ordered.ordered.items c.in_ok-ordered.ensures))

pub returns-clause-texts : goal.returns-clause-texts
returns-clause-texts c = grind (arith, if_all, texts_coded)

pub returns-clause-repeated : goal.returns-clause-repeated
returns-clause-repeated c = grind (arith, if_all, codes_met)
