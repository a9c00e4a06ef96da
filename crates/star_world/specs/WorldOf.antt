-- The world of the rows of five tables.
use Rattle.std.specs.{Prelude.{ℤ, pos, List, [], ◌∷◌, Bool, length, slice_index_or}, Cmp.Lexicographic.pointwise, List.position_from, Ordering.int_eq}
use Rattle.star_schema.specs.{Columns.bounds_in, Columns.column_dictionary, Columns.column_numbers, Columns.column_texts, Database.Database, Database.rows_in, Dictionary.low_in, Dictionary.high_in, Loadable.keys_of}
use Rattle.star_program.specs.World.{World}

-- whether a key is this one number
abbrev pub is_key : ℤ → List ℤ → Bool
is_key n key = pointwise int_eq key (n ∷ [])

-- the code of a text is the number of its column's smaller distinct texts
abbrev pub world_of : Database → World
world_of database = record {
  size = λ t. length (rows_in database t);
  number = λ c row. slice_index_or (column_numbers database c) row (pos 0);
  code = λ c row. low_in (column_dictionary database c) (slice_index_or (column_texts database c) row []);
  entries = λ c. length (column_dictionary database c);
  low = λ c text. low_in (column_dictionary database c) text;
  high = λ c text. high_in (column_dictionary database c) text;
  text = λ c code. slice_index_or (column_dictionary database c) code [];
  find = λ t n. position_from (is_key n) 0 (keys_of t (rows_in database t));
  bounds = λ c. bounds_in (rows_in database) c;
}
