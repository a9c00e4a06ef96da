-- Each digit fits.
use Rattle.std.{proofs.Common.{◌≡◌, ◌∙◌, get_or, arith, sym, true}, specs.Char.is_ascii_digit}
use Rattle.star_common.proofs.NumeralLemmas.{below_power, digit_bounds, digits_more, all_more, room}
use Rattle.star_common.proofs.numeral.magnitude.Goals as goal

pub overflow_mul-magnitude : goal.overflow_mul-magnitude
overflow_mul-magnitude c =
    omega (
      arith,
      below_power c.loop-digit.digit-index 18 c.loop-digit.magnitude c.loop-digit.invariant.small
          (omega arith),
    )

pub overflow_add-magnitude : goal.overflow_add-magnitude
overflow_add-magnitude c =
    let digit : is_ascii_digit (get_or c.args.digits.now c.loop-digit.digit-index 0) ≡ true =
    sym c.is_ascii_digit.ensures.value ∙ c.if-not-is_ascii_digit.false in
    let (low, high) = digit_bounds (get_or c.args.digits.now c.loop-digit.digit-index 0) digit in
    omega (
      arith,
      low,
      high,
      c.from.ensures,
      below_power c.loop-digit.digit-index 18 c.loop-digit.magnitude c.loop-digit.invariant.small
          (omega arith),
    )

pub loop-digit-preserved : goal.loop-digit-preserved
loop-digit-preserved c =
    let digit : is_ascii_digit (get_or c.args.digits.now c.loop-digit.digit-index 0) ≡ true =
    sym c.is_ascii_digit.ensures.value ∙ c.if-not-is_ascii_digit.false in
    let (low, high) = digit_bounds (get_or c.args.digits.now c.loop-digit.digit-index 0) digit in
    record {
      value = digits_more c.args.digits.now c.loop-digit.digit-index c.loop-digit.magnitude
          c.from.result (omega arith) digit c.loop-digit.invariant.value
          (omega (arith, low, c.from.ensures));
      small = room c.loop-digit.digit-index c.loop-digit.magnitude c.from.result
          c.loop-digit.invariant.small (omega (arith, high, c.from.ensures));
      digits = all_more c.args.digits.now c.loop-digit.digit-index
          (omega arith) c.loop-digit.invariant.digits digit;
    }

pub returns-clause-bound : goal.returns-clause-bound
returns-clause-bound c = grind (arith, below_power)
