use Rattle.std.proofs.{Common.arith, lemmas.List.Elements.All-push}
use Rattle.star_flat.{specs.declared.ordered.Whole.Whole, specs.Private.Order.IsWhole, proofs.Enumerated.more_numbers}
use Rattle.star_flat.proofs.ordered.wholes.Goals as goal

pub loop-index-preserved : goal.loop-index-preserved
loop-index-preserved c =
    let old = c.loop-index.wholes.items in
    record {
      numbers = more_numbers (λ (e : Whole). e.number) old c.push_reserved.new.self.items
          c.at.result c.push_reserved.ensures.items c.loop-index.index c.at.ensures.number
          c.loop-index.invariant.numbers;
      wholes = rw c.push_reserved.ensures.items
          (All-push (IsWhole c.args.texts.now) old c.at.result c.loop-index.invariant.wholes
          c.at.ensures.whole);
      pushed = omega (arith, c.push_reserved.ensures.len, c.loop-index.invariant.pushed);
      room = omega (arith, c.push_reserved.ensures.capacity, c.loop-index.invariant.room);
    }
