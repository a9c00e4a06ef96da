use Rattle.std.proofs.Common.{◌≡◌, arith, get_or, length, inl, inr}
use Rattle.star_reader.{proofs.Fronts.{one_more, other_plain}, specs.Private.Fronts.is_plain}
use Rattle.star_reader.proofs.front.front_len.Goals as goal

pub returns-then-text-count-eq124 : goal.returns-then-text-count-eq124
returns-then-text-count-eq124 c = record {
  within = omega arith;
  plain = c.loop-count.invariant;
  end = inr (omega arith, c.if-text-count-eq124.true);
}

pub loop-count-preserved : goal.loop-count-preserved
loop-count-preserved c =
    one_more is_plain c.args.text.now c.loop-count.count (omega arith) c.loop-count.invariant
    (other_plain (get_or c.args.text.now c.loop-count.count 0) c.if-text-count-eq124.false)

pub returns : goal.returns
returns c =
    let all : c.loop-count.count ≡ length c.args.text.now =
    omega (arith, c.loop-count.auto.count-end, c.loop-count-test.false) in
    rw (← all) (record {
      within = omega (arith, all);
      plain = c.loop-count.invariant;
      end = inl all;
    })
