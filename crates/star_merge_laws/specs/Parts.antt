-- Tables whose lineorder is in parts, each with the same dimensions.
use Rattle.std.specs.{Prelude.{◌≡◌, ◌||◌, ℕ, ℤ, All, AllPairs, Bool, true, List, [], Option, Some, None}, Cmp.Lexicographic.slice_cmp, List.flat_map, Ordering.{int_cmp, is_le, is_lt}, declared.cmp.Ordering.Ordering}
use Rattle.star_schema.specs.{declared.table.TableId.TheVariants.Lineorder, Database.Database, Database.TableTexts, Loadable.IsLoadable, Loadable.keys_of, Tables.Value, Tables.rows_of}
use Rattle.star_catalogue.specs.Pieces.{with_lineorder_text}

-- the rows of five tables, with these of lineorder
abbrev pub with_lineorder : Database → List (List Value) → Database
with_lineorder database rows =
    record {
      date = database.date;
      customer = database.customer;
      supplier = database.supplier;
      part = database.part;
      lineorder = rows;
    }

-- keys compare by their first numbers, then by their second
abbrev pub key_list_cmp : List ℤ → List ℤ → Ordering
key_list_cmp = slice_cmp int_cmp

-- a least and a greatest key
pub record Span : Type 0 where
  pub low : List ℤ
  pub high : List ℤ

-- all keys are within a span; without a span there are none
abbrev pub AreWithin : Option Span → List (List ℤ) → Type 0
AreWithin None keys = keys ≡ []
AreWithin (Some span) keys =
    All (λ key. (is_le (key_list_cmp span.low key) ≡ true)
    × (is_le (key_list_cmp key span.high) ≡ true)) keys

-- one span ends before the other begins
abbrev pub are_disjoint : Option Span → Option Span → Bool
are_disjoint (Some a) (Some b) =
    is_lt (key_list_cmp a.high b.low) || is_lt (key_list_cmp b.high a.low)
are_disjoint _ _ = true

-- a part of lineorder: its text, and a span of its keys
pub record LineorderPart : Type 0 where
  pub text : List (List ℕ)
  pub span : Option Span

-- it can be loaded with the dimensions of these texts, and its keys are within its span
pub record IsLoadablePart (most : ℕ) (texts : TableTexts) (part : LineorderPart) : Type 0 where
  pub loadable : IsLoadable most (with_lineorder_text texts part.text)
  pub within : AreWithin part.span (keys_of Lineorder (rows_of Lineorder part.text))

-- no two spans overlap
abbrev pub AreDisjoint : List LineorderPart → Type 0
AreDisjoint parts = AllPairs (λ a b. are_disjoint a.span b.span ≡ true) parts

-- the text of all parts, one after another
abbrev pub whole_text : List LineorderPart → List (List ℕ)
whole_text parts = flat_map (λ part. part.text) parts
