-- The digits so far and their number.
use Rattle.std.{proofs.Common.{◌≡◌, ◌<◌, ◌^◌, take, true}, specs.Char.is_ascii_digit, specs.List.list_all, specs.Str.Parse.digits_value}
use Rattle.star_reader.proofs.front.short_front.Given as goal

abbrev pub invariant-loop-count : goal.invariant-loop-count
invariant-loop-count l = record {
  digits : list_all is_ascii_digit (take l.count l.text) ≡ true;
  writes : l.value ≡ digits_value 10 (take l.count l.text);
  small : l.value < 10 ^ l.count;
}
