use Rattle.std.proofs.{Common.◌<◌, Common.⊎_elim, Common.arith, Common.length, lemmas.Bool.cases_lt}
use Rattle.star_flat.proofs.Keys.{digits_more}
use Rattle.star_flat.proofs.ordered.second_of.Goals as goal

pub returns-clause-digits : goal.returns-clause-digits
returns-clause-digits c =
    let text = c.args.text.now in
    let few : c.count_of.result < 13 = ⊎_elim {C = c.count_of.result < 13}
    (λ short. omega (arith, short, c.count_of.ensures.short short))
    (λ long. omega (arith, c.count_of.ensures.long long))
    (cases_lt (length text) 12) in
    omega (
      arith,
      few,
      digits_more 8 text,
      digits_more 9 text,
      digits_more 10 text,
      c.from.ensures,
      c.from-2.ensures,
      c.from-3.ensures,
      c.byte_at.ensures,
      c.byte_at-2.ensures,
      c.byte_at-3.ensures,
    )
