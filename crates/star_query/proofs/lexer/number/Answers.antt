use Rattle.std.proofs.Common.{◌∙◌, arith, rules, sym}
use Rattle.star_common.proofs.NumeralLemmas.{below_power}
use Rattle.star_query.proofs.{Lexing.number_long, Lexing.number_followed, Lexing.number_too_long, lexer.number.Goals.in_default-via-in-Some+then-width-le-MAX_DIGITS+else-not-begins_with_letter, lexer.number.Goals.in_default-via-in-Some+else-width-le-MAX_DIGITS, lexer.number.Goals.in_default-via-in_default}
use Rattle.star_query.proofs.lexer.number.Goals as goal

pub invariant_of-result : goal.invariant_of-result
invariant_of-result c =
    record {
      few = below_power _ 18 c.in-Some.value c.in-Some.ensures.bound
          (omega (arith, c.split_at.ensures.front_len, c.if-width-le-MAX_DIGITS.true));
    }

pub returns-in_default : goal.returns-in_default
returns-in_default c =
    record {
      same = elim c.in_default.branch [
        | in_default-via-in-Some+then-width-le-MAX_DIGITS+else-not-begins_with_letter w ↦ sym
            (number_followed c.args.offset c.args.text.now (search rules))
        | in_default-via-in-Some+else-width-le-MAX_DIGITS w ↦ sym
            (number_long c.args.offset c.args.text.now (search rules))
        | in_default-via-in_default w ↦ sym
            (number_too_long c.args.offset c.args.text.now c.requires
            (rw (c.split_at.ensures.front, c.digits_width-width.ensures.width) at
            (sym c.numeral_value.ensures.value ∙ w.in_default.is)))
      ];
      within = tt;
    }
