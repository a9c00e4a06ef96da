use Rattle.std.{proofs.Common.{encode_utf8_all, ap, rules, length, drop, arith, ◌≡◌, ◌-◌}, proofs.lemmas.List.{length-take, nil_from_length}, specs.Char.Iter.escape_rest}
use Rattle.star_service.proofs.NameLemmas.{all_written, one_more}
use Rattle.star_service.proofs.names.write_escape.Goals as goal

pub letters-preserved : goal.letters-preserved
letters-preserved g c = (
  search rules,
  λ plain. one_more _ _ _ _ _ _ _ _ (c.letters.invariant.1 plain) (search rules)
      (ap encode_utf8_all c.in-Some.ensures.steps.1.0),
)

pub returns : goal.returns
returns g c =
    λ plain _.
    let rest = c.letters.rest in
    let left = c.in_default.ensures.steps.1.0 in
    let taken = length-take (rest.to - rest.from) (drop rest.from rest.chars) in
    let none : length (escape_rest rest) ≡ 0 = omega (arith, left, taken) in
    all_written _ _ _ _ _ (c.letters.invariant.1 plain)
    (ap encode_utf8_all (nil_from_length (escape_rest rest) none))
