use Rattle.std.{proofs.Common.{◌≡◌, ◌+◌, ◌-◌, ◌≤◌, length, arith}, specs.List.zip, proofs.lemmas.Slice.Zip.length-zip}
use Rattle.star_catalogue.proofs.Rising.{rise_more, rising_apart}
use Rattle.star_catalogue.proofs.keys.is_rising.Goals as goal

pub loop-index-preserved : goal.loop-index-preserved
loop-index-preserved c =
    let same : c.loop-index.index + 1 - 1 ≡ c.loop-index.index = omega arith in
    record {
      rise = rise_more c.loop-index.index
          (zip c.args.firsts.now c.args.seconds.now) c.loop-index.before c.pair_at-here.result
          c.loop-index.invariant.rise c.loop-index.invariant.last c.pair_at-here.ensures
          (c.rises.ensures.0 c.if-not-rises.false);
      last = λ _. rw same c.pair_at-here.ensures;
    }

pub returns : goal.returns
returns c = λ _.
    let pairs = zip c.args.firsts.now c.args.seconds.now in
    let all : length pairs ≤ c.loop-index.index =
    omega (arith, length-zip c.args.firsts.now c.args.seconds.now) in
    rising_apart c.loop-index.index pairs c.loop-index.invariant.rise all
