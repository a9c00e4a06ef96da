-- No two tables have one name, and no two columns; what is found by a name has it.
use Rattle.std.{specs.Prelude.{◌≡◌, ◌↔◌, ℕ, Bool, true, false, List, [], ◌∷◌, Option, Some, find, nat_eq, refl}, proofs.Common.{◌∙◌, subst, sym}, specs.Cmp.Lexicographic.{pointwise, same_text}}
use Rattle.star_schema.specs.{declared.table.TableId.TableId, declared.table.TableId.TheVariants.Date, declared.table.TheConstants.TABLES, declared.column.ColumnId.ColumnId, declared.column.ColumnId.TheVariants.DDatekey, declared.column.TheConstants.COLUMNS, Schema.{column_name, column_of, table_name}, Words.named}

pub table_by_name : (t : TableId) → named table_name TABLES (table_name t) ≡ Some t
unfolding table_name
table_by_name Date = refl
table_by_name _ = refl

pub column_by_name : (c : ColumnId) → named column_name COLUMNS (column_name c) ≡ Some c
unfolding column_of
column_by_name DDatekey = refl
column_by_name _ = refl

-- what a search by name finds has the name
pub found_named : {X : Type 0} (name_of : X → List ℕ) (name : List ℕ) (xs : List X) (x : X)
    → named name_of xs name ≡ Some x → name_of x ≡ name
found_named name_of name [] x e = cc
found_named name_of name (y ∷ ys) x e =
    go (pointwise nat_eq (name_of y) name) refl e (found_named name_of name ys x)
  where
    go : (b : Bool) → pointwise nat_eq (name_of y) name ≡ b → named name_of (y ∷ ys) name ≡ Some x
        → (named name_of ys name ≡ Some x → name_of x ≡ name) → name_of x ≡ name
    go true same e later = let here : y ≡ x =
        cc (rw same at e) in rw (← here) (same_text (name_of y) name (sym same))
    go false other e later = later (rw other at e)

-- where each is found by its name, what is found by a name is the one that has it
pub by_name : {X : Type 0} (name_of : X → List ℕ) (all : List X)
    → ((x : X) → named name_of all (name_of x) ≡ Some x) → (name : List ℕ) (r : Option X)
    → r ≡ named name_of all name → (x : X) → (r ≡ Some x) ↔ (name_of x ≡ name)
by_name name_of all each name r is x = (
  λ found. found_named name_of name all x (sym is ∙ found),
  λ has. is ∙ subst (λ n. named name_of all n ≡ Some x) has (each x),
)
