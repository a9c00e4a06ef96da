-- The foreign keys of a plan's joins, and what columns hold by their kinds.
use Rattle.std.proofs.{Common.{◌≡◌, Bool, true, false, Some, refl, ap, arith}, lemmas.Bool.and_parts, lemmas.Grind.common_steps}
use Rattle.star_query_meaning.proofs.Choices.{refers_to}
use Rattle.star_schema.specs.{declared.column.ColumnId.ColumnId, declared.column.Kind.Kind, Schema.kind_of, Schema.references, Schema.table_of}
use Rattle.star_schema.specs.declared.column.Kind.TheVariants as kind
use Rattle.star_plan.specs.{declared.tree.Join.Join, Joins.is_foreign, Names.same_kind}
use Rattle.star_program.specs.World.{is_text}

-- ---- kinds

kind_same : (k l : Kind) → same_kind k l ≡ true → k ≡ l
kind_same kind.Number kind.Number e = refl
kind_same kind.Text kind.Text e = refl
kind_same kind.Number kind.Text e = absurd (cc)
kind_same kind.Text kind.Number e = absurd (cc)

abbrev pub of_text : Kind → Bool
of_text kind.Number = false
of_text kind.Text = true

pub holds_numbers : (c : ColumnId) → same_kind (kind_of c) kind.Number ≡ true → is_text c ≡ false
holds_numbers c e = ap of_text (kind_same (kind_of c) kind.Number e)

pub holds_texts : (c : ColumnId) → same_kind (kind_of c) kind.Text ≡ true → is_text c ≡ true
holds_texts c e = ap of_text (kind_same (kind_of c) kind.Text e)

-- ---- joins

pub foreign_refers : (j : Join) → is_foreign j.foreign j.key ≡ true
    → references j.foreign ≡ Some (table_of j.key)
foreign_refers j e = grind (arith, common_steps, refers_to, and_parts)
