-- The world of sound rows is loaded.
use Rattle.std.{proofs.Common.{◌≡◌, ◌<◌, ◌≤◌, ℕ, ℤ, List, [], ◌∷◌, Some, None, Option, length, arith, ap, ◌∙◌, get_or}, proofs.lemmas.List.length-map, proofs.lemmas.List.Elements.Contains-get_or, proofs.lemmas.List.Sums.count_by-le-length, proofs.lemmas.Option.{slice_get-get_or, slice_get_within}, specs.Prelude.{Contains, pos}, specs.Ordering.{is_lt, is_le}}
use Rattle.star_schema.{specs.Bounds.{numbers_of, numbers_at}, specs.Database.{Database, rows_in}, specs.Dictionary.text_cmp, specs.Loadable.{IsSound, keys_of}, specs.Schema.table_of, specs.Tables.Value, specs.Texts.{texts_of, texts_at}, specs.Columns.{column_dictionary, column_numbers, column_texts}, specs.declared.column.ColumnId.ColumnId, specs.declared.table.TableId.TableId, proofs.Extremes.{least_below, greatest_above}, proofs.TextIndexes.code_within}
use Rattle.star_program.specs.{declared.op.Edge.Edge, declared.op.Edge.TheVariants.Low, declared.op.Edge.TheVariants.High, World.World, World.IsLoaded, World.IsRowNumberOf, World.edge_of}
use Rattle.star_world.{specs.WorldOf.world_of, proofs.Found.{IsFound, found_from}}

-- a column of numbers has one for each row
pub numbers_len : (c : ColumnId) (rows : List (List Value))
    → length (numbers_of c rows) ≡ length rows
unfolding numbers_at
numbers_len c rows = length-map rows _

pub texts_len : (c : ColumnId) (rows : List (List Value)) → length (texts_of c rows) ≡ length rows
unfolding texts_at
texts_len c rows = length-map rows _

pub keys_len : (t : TableId) (rows : List (List Value)) → length (keys_of t rows) ≡ length rows
unfolding keys_of
keys_len t rows = length-map rows _

-- where a key is one of a table's, the answer is a row
found_row : (w : World) (t : TableId) (n : ℤ) (keys : List (List ℤ)) (o : Option ℕ)
    → length keys ≡ w.size t → IsFound n keys 0 o → Contains keys (n ∷ []) → IsRowNumberOf w t o
found_row w t n keys None len none has =
    absurd (none has.0 (slice_get-get_or keys has.0 (n ∷ []) has.1 ∙ ap Some has.2))
found_row w t n keys (Some i) len (row, at, is) has =
    omega (arith, len, at, slice_get_within keys row (n ∷ []) is)

-- the code of a row's text is the position of one of the column's texts
code_below : (database : Database) (c : ColumnId) (row : ℕ)
    → row < length (rows_in database (table_of c))
    → (world_of database).code c row < (world_of database).entries c
code_below database c row within =
    let texts = column_texts database c in
    let few = texts_len c (rows_in database (table_of c)) in
    code_within texts (get_or texts row [])
    (Contains-get_or texts row [] (omega (arith, within, few)))

counted : (database : Database) (e : Edge) (c : ColumnId) (text : List ℕ)
    → edge_of (world_of database) e c text ≤ (world_of database).entries c
counted database Low c text =
    count_by-le-length (λ d. is_lt (text_cmp d text)) (column_dictionary database c)
counted database High c text =
    count_by-le-length (λ d. is_le (text_cmp d text)) (column_dictionary database c)

pub loaded : (database : Database) → IsSound database → IsLoaded (world_of database)
loaded database sound = record {
  held = λ c row within.
      let zs = column_numbers database c in
      let few : row < length zs =
      omega (arith, within, numbers_len c (rows_in database (table_of c))) in
      record { from = least_below zs row (pos 0) few; to = greatest_above zs row (pos 0) few };
  coded = λ c row is within. code_below database c row within;
  counted = counted database;
  found = λ c t row e within.
      let has = sound.found c t e row (pos 0)
      (omega (arith, within, numbers_len c (rows_in database (table_of c)))) in
      let n = get_or (column_numbers database c) row (pos 0) in
      let keys = keys_of t (rows_in database t) in
      found_row (world_of database) t n keys ((world_of database).find t n)
      (keys_len t (rows_in database t)) (found_from n keys 0) has;
}
