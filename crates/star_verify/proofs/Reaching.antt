-- A column that is reached, with its bounds.
use Rattle.std.proofs.Common.{◌≡◌, ap}
use Rattle.star_verify.proofs.Common.{AreFacts, ColumnId, Facts, Interval, Range, Reached, World, index_of, slice_index_or, with_bounds}

abbrev between : ColumnId → Range → Reached
between c r = record { column = c; low = r.low; high = r.high }

pub one_reached : (w : World) (facts : Facts) → AreFacts w facts → (c : ColumnId) (i : Interval)
    → i ≡ slice_index_or facts.bounds (index_of c) i
    → record { column = c; low = i.low; high = i.high } ≡ with_bounds w c
one_reached w facts are c i e = ap (between c) (are.bounds c i e)
