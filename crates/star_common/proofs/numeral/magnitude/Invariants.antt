-- The digits so far and their number.
use Rattle.std.{proofs.Common.{◌≡◌, ◌<◌, ◌^◌, take, true}, specs.Char.is_ascii_digit, specs.List.list_all, specs.Str.Parse.digits_value}
use Rattle.star_common.proofs.numeral.magnitude.Given as goal

abbrev pub invariant-loop-digit : goal.invariant-loop-digit
invariant-loop-digit l = record {
  value : l.magnitude ≡ digits_value 10 (take l.digit-index l.digits);
  small : l.magnitude < 10 ^ l.digit-index;
  digits : list_all is_ascii_digit (take l.digit-index l.digits) ≡ true;
}
