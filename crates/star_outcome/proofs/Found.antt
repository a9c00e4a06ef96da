-- A column of texts by the test and by its kind.
use Rattle.std.proofs.Common.{◌≡◌, true, true≢false, sym, ◌∙◌, refl}
use Rattle.star_schema.specs.{Schema.kind_of, declared.column.ColumnId.ColumnId, declared.column.Kind.Kind}
use Rattle.star_program.specs.World.{is_text}
use Rattle.star_schema.specs.declared.column.Kind.TheVariants as kind

pub kind_text : (c : ColumnId) → is_text c ≡ true → kind_of c ≡ kind.Text
kind_text c h = go (kind_of c) refl
  where
    go : (k : Kind) → kind_of c ≡ k → kind_of c ≡ kind.Text
    go kind.Text e = e
    go kind.Number e = absurd (true≢false (sym h ∙ rw e refl))
