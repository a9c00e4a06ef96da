use Rattle.std.proofs.Common.{◌∙◌, ap, map, subst, sym}
use Rattle.star_flat.{specs.Private.Order.{AreInTextOrder, key_of}, proofs.InOrder.AreInOrder-wholes}
use Rattle.star_flat.proofs.ordered.by_wholes.Goals as goal

pub returns : goal.returns
returns c = subst (AreInTextOrder c.args.texts.now)
    (sym (c.in_ok-ordered.ensures ∙ ap (map key_of) c.as_slice.ensures.value))
    (AreInOrder-wholes c.args.texts.now c.in_ok-wholes.wholes.items c.sort_unstable.new.self.items
    c.in_ok-wholes.ensures.numbers c.in_ok-wholes.ensures.wholes c.sort_unstable.ensures.permutation
    c.sort_unstable.ensures.sorted)
