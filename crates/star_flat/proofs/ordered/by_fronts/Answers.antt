use Rattle.std.{specs.Ordering.is_lt, proofs.Common.{ap, rules}, proofs.lemmas.Fn.always_returns_same, proofs.lemmas.List.Sorted.ranks_by}
use Rattle.star_flat.{specs.Private.Order.by_key, proofs.InOrder.AreInOrder-sorted, proofs.Keys.key_total}
use Rattle.star_flat.proofs.ordered.by_fronts.Goals as goal

pub returns : goal.returns
returns c =
    let texts = c.args.texts.now in
    AreInOrder-sorted texts c.in_ok-ordered.ordered.items c.sort_unstable_by.new.self.items
    c.in_ok-ordered.ensures.numbers c.in_ok-ordered.ensures.keys
    c.sort_unstable_by.ensures.permutation
    (c.sort_unstable_by.ensures.sorted (λ a b. is_lt (by_key texts a b))
    (ranks_by (key_total texts) (λ e. e))
    (always_returns_same _ _ _ (λ a r f k. (ap is_lt k.met.1, search rules))))
