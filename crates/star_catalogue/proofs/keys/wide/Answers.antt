use Rattle.std.proofs.Common.{FitsSigned, rules, w64, to_z-of_z}
use Rattle.star_catalogue.proofs.Copies.{copied_more}
use Rattle.star_catalogue.proofs.keys.wide.Goals as goal

pub loop-index-preserved : goal.loop-index-preserved
loop-index-preserved c =
    let fits : FitsSigned w64 c.get.result = search rules in
    record {
      numbers = copied_more c.args.numbers.now c.loop-index.wide.items
          c.push_reserved.new.self.items c.loop-index.index c.get.result
          c.loop-index.invariant.numbers (rw to_z-of_z at c.push_reserved.ensures.items)
          c.get.ensures;
      pushed = search rules;
      room = search rules;
    }
