use Rattle.std.proofs.Common.{◌≡◌, ◌<◌, ◌≤◌, ◌+◌, get_or, length, arith}
use Rattle.star_common.proofs.NumeralLemmas.{all_more, below_power, digits_more, room}
use Rattle.star_reader.proofs.FrontNumbers.{bar_front, written_digit}
use Rattle.star_reader.proofs.front.short_front.Goals as goal

pub overflow_mul-value : goal.overflow_mul-value
overflow_mul-value c =
    omega (
      arith,
      below_power c.loop-count.count 18 c.loop-count.value c.loop-count.invariant.small
          (omega arith),
    )

pub overflow_add-value : goal.overflow_add-value
overflow_add-value c =
    omega (
      arith,
      c.if-digit-gt9.false,
      below_power c.loop-count.count 18 c.loop-count.value c.loop-count.invariant.small
          (omega arith),
    )

pub loop-count-preserved : goal.loop-count-preserved
loop-count-preserved c =
    let few : c.digit_of-digit.result ≤ 9 = omega (arith, c.if-digit-gt9.false) in
    let is : c.digit_of-digit.result + 48 ≡ get_or c.args.text.now c.loop-count.count 0 =
    c.digit_of-digit.ensures few in
    let digit = written_digit (get_or c.args.text.now c.loop-count.count 0)
    c.digit_of-digit.result few is in
    let within : c.loop-count.count < length c.args.text.now = omega arith in
    record {
      writes = digits_more c.args.text.now c.loop-count.count c.loop-count.value
          c.digit_of-digit.result within digit c.loop-count.invariant.writes is;
      small = room c.loop-count.count c.loop-count.value c.digit_of-digit.result
          c.loop-count.invariant.small (omega (arith, few));
      digits = all_more c.args.text.now c.loop-count.count within
          c.loop-count.invariant.digits digit;
    }

pub returns-then-digit-gt9 : goal.returns-then-digit-gt9
returns-then-digit-gt9 c = λ some.
    bar_front c.args.text.now c.loop-count.count c.loop-count.value (omega (arith, some))
    (omega arith)
    (omega arith) c.loop-count.invariant.digits c.loop-count.invariant.writes
    c.loop-count.invariant.small (omega arith)
