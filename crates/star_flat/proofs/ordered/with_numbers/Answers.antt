use Rattle.std.proofs.{Common.arith, lemmas.List.Elements.All-push}
use Rattle.star_flat.{specs.declared.ordered.Numbered.Numbered, specs.Private.Order.IsKeyed, proofs.Enumerated.more_numbers}
use Rattle.star_flat.proofs.ordered.with_numbers.Goals as goal

pub loop-index-preserved : goal.loop-index-preserved
loop-index-preserved c =
    let old = c.loop-index.numbered.items in
    record {
      numbers = more_numbers (λ (e : Numbered). e.number) old c.push_reserved.new.self.items
          c.at.result c.push_reserved.ensures.items c.loop-index.index c.at.ensures.number
          c.loop-index.invariant.numbers;
      keys = rw c.push_reserved.ensures.items
          (All-push (IsKeyed c.args.texts.now) old c.at.result c.loop-index.invariant.keys
          c.at.ensures.keyed);
      pushed = omega (arith, c.push_reserved.ensures.len, c.loop-index.invariant.pushed);
      room = omega (arith, c.push_reserved.ensures.capacity, c.loop-index.invariant.room);
    }
