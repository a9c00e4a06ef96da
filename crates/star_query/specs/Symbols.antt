-- The symbols of a query: its tokens; those of names and functions keep their position.
use Rattle.std.specs.{Prelude.ℕ, Prelude.List, Prelude.codes, Prelude.map, Char.to_ascii_lowercase}
use Rattle.star_query.specs.{declared.token.Keyword.Keyword, declared.token.Fold.Fold, declared.token.Relation.Relation, declared.token.Sign.Sign, declared.token.Additive.Additive, declared.token.Word.Word}
use Rattle.star_query.specs.declared.token.Keyword.TheVariants as k
use Rattle.star_query.specs.declared.token.Fold.TheVariants as folds
use Rattle.star_query.specs.declared.token.Word.TheVariants as words

pub data Symbol : Type 0 where
  keyword : Keyword → Symbol
  fold : Fold → (offset : ℕ) → Symbol
  count : (offset : ℕ) → Symbol
  relation : Relation → Symbol
  sign : Sign → Symbol
  additive : Additive → Symbol
  name : (text : List ℕ) → (offset : ℕ) → Symbol
  number : ℕ → Symbol
  text : List ℕ → Symbol

-- a symbol, and the position of its token
pub record Placed : Type 0 where
  pub symbol : Symbol
  pub offset : ℕ

abbrev pub symbols : List Placed → List Symbol
symbols tokens = map (λ t. t.symbol) tokens

-- how a reserved word is written
unfoldable pub spelling : Word → List ℕ
spelling (words.Keyword k.Select) = codes "select"
spelling (words.Keyword k.From) = codes "from"
spelling (words.Keyword k.Where) = codes "where"
spelling (words.Keyword k.Group) = codes "group"
spelling (words.Keyword k.By) = codes "by"
spelling (words.Keyword k.Order) = codes "order"
spelling (words.Keyword k.As) = codes "as"
spelling (words.Keyword k.And) = codes "and"
spelling (words.Keyword k.Or) = codes "or"
spelling (words.Keyword k.Not) = codes "not"
spelling (words.Keyword k.Between) = codes "between"
spelling (words.Keyword k.Cube) = codes "cube"
spelling (words.Keyword k.Rollup) = codes "rollup"
spelling (words.Keyword k.Asc) = codes "asc"
spelling (words.Keyword k.Desc) = codes "desc"
spelling (words.Fold folds.Sum) = codes "sum"
spelling (words.Fold folds.Min) = codes "min"
spelling (words.Fold folds.Max) = codes "max"
spelling words.Count = codes "count"

abbrev pub word_symbol : Word → ℕ → Symbol
word_symbol (words.Keyword w) offset = keyword w
word_symbol (words.Fold f) offset = fold f offset
word_symbol words.Count offset = count offset

-- letters in lower case
abbrev pub lowered : List ℕ → List ℕ
lowered word = map to_ascii_lowercase word
