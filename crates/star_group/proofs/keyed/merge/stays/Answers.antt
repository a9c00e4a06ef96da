use Rattle.star_group.proofs.Common.{◌≡◌, Bool, true, false, ℤ, pos, ◌+ℤ◌, Option, Some, None, refl, sym, ap, ◌∙◌, arith, not, ints, Sum, Count, leaves, merged}
use Rattle.std.{proofs.Common.to_z-of_z, specs.Prelude.unwrap_or}
use Rattle.star_interval.specs.Range.{is_i64, is_i128}
use Rattle.star_group.proofs.keyed.merge.stays.Goals as goal

not_twice : (b : Bool) → b ≡ not (not b)
not_twice true = refl
not_twice false = refl

nothing_before : (y : ℤ) → pos 0 +ℤ y ≡ y
nothing_before y = omega (arith, ints)

-- nothing counts as 0
sum_stays : (before : Option ℤ) (more : ℤ)
    → is_i128 (unwrap_or before (pos 0) +ℤ more) ≡ not (leaves Sum (merged Sum before (Some more)))
unfolding is_i128
sum_stays None y = ap is_i128 (nothing_before y) ∙ not_twice (is_i128 y)
sum_stays (Some x) y = not_twice (is_i128 (x +ℤ y))

count_stays : (before : Option ℤ) (more : ℤ) → is_i64 (unwrap_or before (pos 0) +ℤ more)
    ≡ not (leaves Count (merged Count before (Some more)))
unfolding is_i64
count_stays None y = ap is_i64 (nothing_before y) ∙ not_twice (is_i64 y)
count_stays (Some x) y = not_twice (is_i64 (x +ℤ y))

pub returns-in-Sum : goal.returns-in-Sum
returns-in-Sum c = λ before is.
    let x = to_z-of_z c.ranges.held ∙ sym is in
    let y = to_z-of_z c.ranges.more in
    c.adds_up.ensures ∙ (λ i. is_i128 (x i +ℤ y i))
    ∙ sum_stays before c.args.more
    ∙ ap (λ g. not (leaves g (merged g before (Some c.args.more)))) (sym c.in-Sum.is)

pub returns-in-Count : goal.returns-in-Count
returns-in-Count c = λ before is.
    let x = to_z-of_z c.ranges.held ∙ sym is in
    let y = to_z-of_z c.ranges.more in
    c.adds_in_64_bits.ensures ∙ (λ i. is_i64 (x i +ℤ y i))
    ∙ count_stays before c.args.more
    ∙ ap (λ g. not (leaves g (merged g before (Some c.args.more)))) (sym c.in-Count.is)
