use Rattle.std.proofs.{Common.{◌≡◌, ◌<◌, arith, get_or, length, inr, ℕ, true, false, rules}, lemmas.Bool.and_right}
use Rattle.star_common.specs.Printable.{is_printable}
use Rattle.star_reader.{specs.Private.Fronts.is_plain, proofs.FrontTexts.{above_tilde, bad_byte, below_space, printable_byte, short_front}, proofs.Fronts.{one_more, other_plain}, proofs.front.slow_front.Goals.{then-byte-lt32-via-then-byte-lt32, then-byte-lt32-via-else-byte-lt32+then-byte-gt126}}
use Rattle.star_reader.proofs.front.slow_front.Goals as goal

pub returns-then-byte-eq124 : goal.returns-then-byte-eq124
returns-then-byte-eq124 c =
    let within : c.loop-count.count < length c.args.text.now =
    omega (arith, c.min-most.ensures) in (
      record {
        within = omega (arith, within);
        plain = c.loop-count.invariant.plain;
        end = inr (within, c.if-byte-eq124.true);
      },
      short_front c.args.text.now c.loop-count.count (omega (arith, within))
          (omega (arith, c.min-most.ensures)),
      c.loop-count.invariant.printable,
    )

pub loop-count-preserved : goal.loop-count-preserved
loop-count-preserved c =
    let within : c.loop-count.count < length c.args.text.now =
    omega (arith, c.min-most.ensures) in
    let b : ℕ = get_or c.args.text.now c.loop-count.count 0 in
    let fine : is_printable b ≡ true =
    printable_byte b (omega (arith, c.if-byte-lt32.false)) (omega (arith, c.if-byte-gt126.false))
    in
    record {
      plain = one_more is_plain c.args.text.now c.loop-count.count within
          c.loop-count.invariant.plain (other_plain b c.if-byte-eq124.false);
      printable = one_more is_printable c.args.text.now c.loop-count.count within
          c.loop-count.invariant.printable fine;
    }

pub returns-then-byte-lt32 : goal.returns-then-byte-lt32
returns-then-byte-lt32 c = λ n front.
    let within : c.loop-count.count < length c.args.text.now =
    omega (arith, c.min-most.ensures) in
    let b : ℕ = get_or c.args.text.now c.loop-count.count 0 in
    let bad : is_printable b ≡ false = elim c.then-byte-lt32.branch [
      | then-byte-lt32-via-then-byte-lt32 w ↦ below_space b w.if-byte-lt32.true
      | then-byte-lt32-via-else-byte-lt32+then-byte-gt126 w ↦ above_tilde b w.if-byte-gt126.true
    ] in
    and_right _ _ (bad_byte c.args.text.now c.loop-count.count n within
    c.loop-count.invariant.plain c.if-byte-eq124.false bad front)

pub returns : goal.returns
returns c = search rules
