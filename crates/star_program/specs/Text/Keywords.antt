-- The keywords of programs.
use Rattle.std.specs.{Prelude.{ℕ, List, Option, codes, nat_eq, Bool}, Cmp.Lexicographic.pointwise}
use Rattle.star_schema.specs.{declared.column.ColumnId.ColumnId, declared.column.TheConstants.COLUMNS, declared.table.TableId.TableId, declared.table.TheConstants.TABLES, declared.group.Shape.Shape, declared.group.Aggregate.Aggregate, declared.group.Direction.Direction, declared.group.TheConstants.{SHAPES, AGGREGATES, DIRECTIONS}, Schema.{column_name, table_name}, Words.{aggregate_name, direction_name, named, shape_name}}
use Rattle.star_program.specs.declared.spelling.keyword.{Keyword.Keyword, Mnemonic.Mnemonic, TheConstants.KEYWORDS, TheConstants.MNEMONICS}
use Rattle.star_program.specs.declared.spelling.keyword.Keyword.TheVariants as keyword
use Rattle.star_program.specs.declared.op.Edge.TheVariants as edge
use Rattle.star_program.specs.declared.op.Operator.TheVariants as operator
use Rattle.star_program.specs.declared.spelling.keyword.Mnemonic.TheVariants as mnemonic

abbrev pub same : List ℕ → List ℕ → Bool
same a b = pointwise nat_eq a b

-- the first word of a line that does not begin with a register
unfoldable pub keyword_name : Keyword → List ℕ
keyword_name keyword.Star = codes "star"
keyword_name keyword.Registers = codes "registers"
keyword_name keyword.Group = codes "group"
keyword_name keyword.Keep = codes "keep"
keyword_name keyword.Put = codes "put"
keyword_name keyword.Scan = codes "scan"
keyword_name keyword.End = codes "end"
keyword_name keyword.Report = codes "report"
keyword_name keyword.Show = codes "show"
keyword_name keyword.Sort = codes "sort"

unfoldable pub keyword_of : List ℕ → Option Keyword
keyword_of word = named keyword_name KEYWORDS word

-- the keyword of an operation
unfoldable pub mnemonic_name : Mnemonic → List ℕ
mnemonic_name mnemonic.Const = codes "const"
mnemonic_name (mnemonic.Edge edge.Low) = codes "low"
mnemonic_name (mnemonic.Edge edge.High) = codes "high"
mnemonic_name mnemonic.Load = codes "load"
mnemonic_name mnemonic.Find = codes "find"
mnemonic_name (mnemonic.Binary operator.Add) = codes "add"
mnemonic_name (mnemonic.Binary operator.Sub) = codes "sub"
mnemonic_name (mnemonic.Binary operator.Mul) = codes "mul"
mnemonic_name (mnemonic.Binary operator.Less) = codes "lt"
mnemonic_name (mnemonic.Binary operator.LessOrEqual) = codes "le"
mnemonic_name (mnemonic.Binary operator.Equal) = codes "eq"
mnemonic_name mnemonic.Within = codes "within"
mnemonic_name (mnemonic.Binary operator.And) = codes "and"
mnemonic_name (mnemonic.Binary operator.Or) = codes "or"
mnemonic_name mnemonic.Not = codes "not"
mnemonic_name mnemonic.Read = codes "read"

unfoldable pub mnemonic_of : List ℕ → Option Mnemonic
mnemonic_of word = named mnemonic_name MNEMONICS word

unfoldable pub column_of_word : List ℕ → Option ColumnId
column_of_word word = named column_name COLUMNS word

unfoldable pub table_of_word : List ℕ → Option TableId
table_of_word word = named table_name TABLES word

unfoldable pub shape_of_word : List ℕ → Option Shape
shape_of_word word = named shape_name SHAPES word

unfoldable pub aggregate_of_word : List ℕ → Option Aggregate
aggregate_of_word word = named aggregate_name AGGREGATES word

unfoldable pub direction_of : List ℕ → Option Direction
direction_of word = named direction_name DIRECTIONS word
