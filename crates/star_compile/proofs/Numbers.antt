-- A query's numbers, and those after them, are of 64 bits.
use Rattle.std.{proofs.Common.{◌≡◌, true, refl, FitsSigned, w64, to_z, of_z, to_z-of_z}, specs.Prelude.{ℤ, pos, ◌+ℤ◌}}
use Rattle.star_query.specs.Spelled.{has_few_digits}
use Rattle.star_compile_laws.proofs.Limits.{constant_said, next_said, said_fits}

pub next_fits : (z : ℤ) → has_few_digits z ≡ true → FitsSigned w64 (to_z w64 (of_z w64 z) +ℤ pos 1)
next_fits z h =
    let fits = said_fits z (constant_said z h) in
    rw (to_z-of_z fits) (said_fits (z +ℤ pos 1) (next_said z h))

pub next_is : (z : ℤ) → has_few_digits z ≡ true
    → to_z w64 (of_z w64 (to_z w64 (of_z w64 z) +ℤ pos 1)) ≡ z +ℤ pos 1
next_is z h =
    let fits = said_fits z (constant_said z h) in
    let next = said_fits (z +ℤ pos 1) (next_said z h) in
    rw (to_z-of_z fits) (rw (to_z-of_z next) refl)
