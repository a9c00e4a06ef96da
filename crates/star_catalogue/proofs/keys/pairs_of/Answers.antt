use Rattle.std.{proofs.Common.{◌≤◌, ◌∙◌, arith, length, rules}, proofs.lemmas.List.take_all, proofs.lemmas.Slice.Zip.length-zip, specs.List.zip}
use Rattle.star_catalogue.proofs.Copies.{copied_more}
use Rattle.star_catalogue.proofs.keys.pairs_of.Goals as goal

pub loop-index-preserved : goal.loop-index-preserved
loop-index-preserved c = record {
  pairs = copied_more (zip c.args.firsts.now c.args.seconds.now) c.loop-index.pairs.items
      c.push_reserved.new.self.items c.loop-index.index c.pair_at.result
      c.loop-index.invariant.pairs c.push_reserved.ensures.items c.pair_at.ensures;
  pushed = search rules;
  room = search rules;
}

pub returns : goal.returns
returns c =
    let pairs = zip c.args.firsts.now c.args.seconds.now in
    let all : length pairs ≤ c.loop-index.index =
    omega (arith, length-zip c.args.firsts.now c.args.seconds.now) in
    c.loop-index.invariant.pairs ∙ take_all c.loop-index.index pairs all
