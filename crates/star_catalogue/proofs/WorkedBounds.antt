-- The bounds of columns at the ends of 64 bits.
use Rattle.std.proofs.Common.{List, [], ◌∷◌, ℤ, pos, negsuc, refl, sym, true≢false}
use Rattle.star_schema.specs.{declared.column.ColumnId.TheVariants.CCustkey, Bounds.greatest, Bounds.least, Bounds.numbers_at, Columns.AreBoundsI64, Columns.bounds_in, Database.Database, Database.rows_in, Schema.column_of, Schema.position_of, Tables.Value, Tables.Number}
use Rattle.star_interval.{specs.Range.{FitsI64, is_i64, only}, proofs.Ranges.fits_i64_fits}

-- customers, as far as their keys
abbrev customers : List (List Value) → Database
customers rows =
    record { date = []; customer = rows; supplier = []; part = []; lineorder = [] }

abbrev keyed : ℤ → List Value
keyed n = Number n ∷ []

-- from -2^63 to 2^63 - 1
ends_fit : FitsI64 (bounds_in (rows_in (customers
    (keyed (negsuc 9223372036854775807) ∷ keyed (pos 9223372036854775807) ∷ []))) CCustkey)
unfolding column_of position_of numbers_at least greatest is_i64
ends_fit =
    (fits_i64_fits (record { low = negsuc 9223372036854775807; high = pos 9223372036854775807 })).0
    refl

one_above : AreBoundsI64 (bounds_in (rows_in (customers (keyed (pos 9223372036854775808) ∷ []))))
    → ⊥
unfolding column_of position_of numbers_at least greatest is_i64
one_above has =
    true≢false (sym ((fits_i64_fits (only (pos 9223372036854775808))).1 (has CCustkey refl)))

one_below : AreBoundsI64 (bounds_in (rows_in (customers (keyed (negsuc 9223372036854775808) ∷ []))))
    → ⊥
unfolding column_of position_of numbers_at least greatest is_i64
one_below has =
    true≢false (sym ((fits_i64_fits (only (negsuc 9223372036854775808))).1 (has CCustkey refl)))
