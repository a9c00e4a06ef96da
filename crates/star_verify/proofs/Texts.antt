-- Columns of numbers.
use Rattle.std.proofs.Common.{◌≡◌, Bool, false, arith}
use Rattle.star_verify.proofs.Common.{ColumnId, IsTrue, is_text, kind_of, ◌↔◌}
use Rattle.star_schema.specs.declared.column.Kind.TheVariants as kind

pub not_text : (c : ColumnId) (b : Bool) → (IsTrue b ↔ (kind_of c ≡ kind.Text)) → b ≡ false
    → is_text c ≡ false
not_text c b tells e = grind arith
