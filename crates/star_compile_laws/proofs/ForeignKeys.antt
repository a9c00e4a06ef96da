-- A table that a plan joins is joined by a foreign key of the fact.
use Rattle.std.{proofs.Common.{◌≡◌, Bool, true, false, ◌||◌, List, [], ◌∷◌, Some, refl, sym, ap, subst}, specs.Prelude.if◌then◌else◌, specs.List.{AllByRecursion, list_all}, proofs.lemmas.Bool.and_parts}
use Rattle.star_schema.{specs.declared.table.TableId.TableId, specs.declared.table.TableId.TheVariants.Lineorder, specs.declared.column.ColumnId.ColumnId, specs.Schema.{is_table, references, table_of}, proofs.KeyColumns.foreign_key, proofs.Same.table_same}
use Rattle.star_plan.specs.{declared.tree.Join.Join, Joins.is_foreign, Sound.joins_table}
use Rattle.star_program.specs.World.{is_text}
use Rattle.star_compile_laws.{specs.Compiled.foreign_of, proofs.Joins.{foreign_refers, of_text}}

-- a table that is joined is joined by a foreign key of the fact
pub record AreForeign (js : List Join) : Type 0 where
  pub fact : (t : TableId) → joins_table js t ≡ true → table_of (foreign_of js t) ≡ Lineorder
  pub number : (t : TableId) → joins_table js t ≡ true → is_text (foreign_of js t) ≡ false
  pub references : (t : TableId) → joins_table js t ≡ true → references (foreign_of js t) ≡ Some t

pub each_passes : {A : Type 0} (test : A → Bool) (P : A → Type 0) → ((x : A) → test x ≡ true → P x)
    → (xs : List A) → list_all test xs ≡ true → AllByRecursion P xs
each_passes test P f [] h = tt
each_passes test P f (x ∷ xs) h =
    let hs = and_parts (test x) (list_all test xs) h in
    (f x hs.0, each_passes test P f xs hs.1)

-- a joined table is that of a join, which its foreign key is of
pub join_of : (P : ColumnId → TableId → Type 0) (js : List Join)
    → AllByRecursion (λ j. P j.foreign (table_of j.key)) js → (t : TableId)
    → joins_table js t ≡ true → P (foreign_of js t) t
join_of P [] h t e = absurd (cc)
join_of P (j ∷ js) h t e = by (is_table t (table_of j.key)) refl e (λ r. join_of P js h.1 t r)
  where
    by : (b : Bool) → is_table t (table_of j.key) ≡ b → (b || joins_table js t) ≡ true
        → (joins_table js t ≡ true → P (foreign_of js t) t)
        → P (if b then j.foreign else foreign_of js t) t
    by true q e f = subst (P j.foreign) (sym (table_same t (table_of j.key) q)) h.0
    by false q e f = f e

pub are_foreign : (js : List Join) → list_all (λ j. is_foreign j.foreign j.key) js ≡ true
    → AreForeign js
are_foreign js h =
    let refers : (t : TableId) → joins_table js t ≡ true → references (foreign_of js t) ≡ Some t =
    join_of (λ c t. references c ≡ Some t) js
    (each_passes (λ j. is_foreign j.foreign j.key)
    (λ j. references j.foreign ≡ Some (table_of j.key)) foreign_refers js h) in record {
      fact = λ t e. (foreign_key (foreign_of js t) t (refers t e)).0.table;
      number = λ t e. ap of_text (foreign_key (foreign_of js t) t (refers t e)).0.kind;
      references = refers;
    }
