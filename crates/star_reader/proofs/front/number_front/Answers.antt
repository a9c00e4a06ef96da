use Rattle.std.proofs.{Common.{◌<◌, ◌^◌, ◌∙◌, FitsSigned, ap, arith, pos, rules, take, to_z-of_z, w64}, lemmas.Int.to_z_pos}
use Rattle.star_reader.proofs.{FrontNumbers.no_number, FrontNumbers.numeral_plain, FrontNumbers.one_number, FrontTexts.one_front}
use Rattle.star_reader.proofs.front.number_front.Goals as goal

pub returns-then-short-gt0 : goal.returns-then-short-gt0
returns-then-short-gt0 c =
    let some : 0 < c.short_front-short.result.count = omega (arith, c.if-short-gt0.true) in
    let (front, numeral, writes, small) = c.short_front-short.ensures some in
    let plain = numeral_plain (take c.short_front-short.result.count c.args.text.now) numeral in
    let low : c.short_front-short.result.value < 2 ^ 63 = omega (arith, small) in (
      front,
      rw plain numeral,
      rw plain
          (to_z_pos w64 c.short_front-short.result.value low ∙ ap pos writes),
    )

pub returns-in-Some : goal.returns-in-Some
returns-in-Some c =
    let cell = take c.front_len-count.result c.args.text.now in
    let one = one_number cell c.in-Some.value c.in-Some.ensures in
    let fits : FitsSigned w64 c.in-Some.value = search rules in
    (c.front_len-count.ensures, one.0, rw to_z-of_z one.1)

pub returns-in-None : goal.returns-in-None
returns-in-None c = λ n front.
    let text = c.args.text.now in
    let same = one_front text n c.front_len-count.result front c.front_len-count.ensures in
    rw same (no_number (take c.front_len-count.result text) c.in-None.ensures)
