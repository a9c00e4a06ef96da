-- A test that gives no fault passes.
use Rattle.std.proofs.Common.{◌≡◌, Bool, true, false, None, refl}
use Rattle.star_program.specs.Faults.{unless}

pub unless_none : {A : Type 0} (b : Bool) (fault : A) → unless b fault ≡ None → b ≡ true
unless_none true fault e = refl
unless_none false fault e = absurd (cc)
