-- The statement of a line.
use Rattle.std.specs.{Prelude.{ℕ, ◌==◌, ◌&&◌, if◌then◌else◌, List, [], ◌∷◌, Option, Some, None, codes, filter, map, not}, List.list_all, Option.{option_and_then, option_map}}
use Rattle.star_common.specs.Printable.{is_printable}
use Rattle.star_schema.specs.declared.{column.ColumnId.ColumnId, group.GroupColumn.GroupColumn, group.Shape.Shape, group.SortKey.SortKey}
use Rattle.star_schema.specs.declared.group.GroupColumn.TheVariants as column
use Rattle.star_program.specs.{World.is_text, Text.Lines.{is_blank_line, words_of}, Text.Numerals.{constant_of, count_of, is_show_name, register_of}, Text.Keywords.{aggregate_of_word, column_of_word, direction_of, keyword_of, mnemonic_of, same, shape_of_word, table_of_word}, declared.group.GroupKey.GroupKey, declared.op.Op.Op, declared.op.Operation.Operation, declared.program.Show.Show, declared.spelling.keyword.Keyword.Keyword, declared.spelling.keyword.Mnemonic.Mnemonic, declared.spelling.statement.Statement.Statement}
use Rattle.star_program.specs.declared.group.GroupKey.TheVariants as key
use Rattle.star_program.specs.declared.op.Op.TheVariants as op
use Rattle.star_program.specs.declared.op.Operation.TheVariants as operation
use Rattle.star_program.specs.declared.spelling.keyword.Keyword.TheVariants as keyword
use Rattle.star_program.specs.declared.spelling.keyword.Mnemonic.TheVariants as mnemonic
use Rattle.star_program.specs.declared.spelling.statement.Statement.TheVariants as says

-- ---- words in order, up to the end of the line

abbrev pub both : {A B : Type 0} → Option A → Option B → Option (A × B)
both None b = None
both (Some x) None = None
both (Some x) (Some y) = Some (x, y)

-- the only word
abbrev pub only_word : List (List ℕ) → Option (List ℕ)
only_word [] = None
only_word (w ∷ []) = Some w
only_word (w ∷ v ∷ ws) = None

abbrev pub from_one_word : {A : Type 0} → (List ℕ → Option A) → List (List ℕ) → Option A
from_one_word f ws = option_and_then f (only_word ws)

abbrev pub from_two_words : {A B : Type 0} → (List ℕ → Option A) → (List ℕ → Option B) → List (List ℕ) → Option (A × B)
from_two_words f g [] = None
from_two_words f g (w ∷ ws) = both (f w) (from_one_word g ws)

abbrev pub from_three_words : {A B C : Type 0} → (List ℕ → Option A) → (List ℕ → Option B) → (List ℕ → Option C) → List (List ℕ) → Option (A × (B × C))
from_three_words f g h [] = None
from_three_words f g h (w ∷ ws) = both (f w) (from_two_words g h ws)

-- each word
abbrev pub each : {A : Type 0} → (List ℕ → Option A) → List (List ℕ) → Option (List A)
each f [] = Some []
each f (w ∷ ws) = option_map (λ (x, xs). x ∷ xs) (both (f w) (each f ws))

-- each word up to a colon, and the words after it
abbrev pub until_colon : {A : Type 0} → (List ℕ → Option A) → List (List ℕ) → Option (List A × List (List ℕ))
until_colon f [] = None
until_colon f (w ∷ ws) =
    if same w (codes ":") then Some ([], ws)
    else option_map (λ (x, (xs, rest)). (x ∷ xs, rest)) (both (f w) (until_colon f ws))

-- two lists separated by a colon
abbrev pub lists : {A B : Type 0} → (List ℕ → Option A) → (List ℕ → Option B) → List (List ℕ) → Option (List A × List B)
lists f g ws = option_and_then (λ (xs, rest). option_map (λ ys. (xs, ys)) (each g rest)) (until_colon f ws)

-- ---- quoted texts

-- the text before the closing quote; two quotes are one
unfoldable pub unquoted : List ℕ → Option (List ℕ)
unquoted [] = None
unquoted (b ∷ []) = if b == 39 then Some [] else option_map (λ text. b ∷ text) None
unquoted (b ∷ c ∷ rest) =
    if (b == 39) && (c == 39) then option_map (λ text. 39 ∷ text) (unquoted rest)
    else if b == 39 then (if is_blank_line (c ∷ rest) then Some [] else None)
    else option_map (λ text. b ∷ text) (unquoted (c ∷ rest))

-- a quoted text, in which a quote is doubled
abbrev pub quoted_text_of : List ℕ → Option (List ℕ)
quoted_text_of [] = None
quoted_text_of (b ∷ rest) = if b == 39 then unquoted rest else None

-- ---- statements

-- an operation, from its keyword and the other words
unfoldable pub operation_of : Mnemonic → List (List ℕ) → Option Operation
operation_of mnemonic.Const ws = option_map operation.Const (from_one_word constant_of ws)
operation_of (mnemonic.Edge e) ws = option_map (λ (c, text). operation.Edge e c text) (from_two_words column_of_word quoted_text_of ws)
operation_of mnemonic.Load ws = option_map (λ (c, row). operation.Load c row) (from_two_words column_of_word register_of ws)
operation_of mnemonic.Find ws = option_map (λ (table, k). operation.Find table k) (from_two_words table_of_word register_of ws)
operation_of (mnemonic.Binary o) ws = option_map (λ (a, b). operation.Binary o a b) (from_two_words register_of register_of ws)
operation_of mnemonic.Within ws = option_map (λ (x, (a, b)). operation.Within x a b) (from_three_words register_of register_of register_of ws)
operation_of mnemonic.Not ws = option_map operation.Not (from_one_word register_of ws)
operation_of mnemonic.Read ws = option_map (λ (g, (a, n)). operation.Read g a n) (from_three_words count_of count_of constant_of ws)

-- the words after the register that an instruction writes: an equals sign, an operation's keyword,
-- operands
abbrev pub assigned : ℕ → List (List ℕ) → Option Op
assigned t [] = None
assigned t (w ∷ []) = None
assigned t (w ∷ name ∷ ws) = if same w (codes "=") then option_map (op.Assign t) (option_and_then (λ m. operation_of m ws) (mnemonic_of name)) else None

-- the key of a text column
abbrev pub text_key : ColumnId → Option GroupKey
text_key c = if is_text c then Some (key.Text c) else None

unfoldable pub group_key_of : List ℕ → Option GroupKey
group_key_of word = if same word (codes "number") then Some key.Number else option_and_then text_key (column_of_word word)

-- the number of a group, its shape and the words after them
abbrev pub group_head : List (List ℕ) → Option (ℕ × (Shape × List (List ℕ)))
group_head [] = None
group_head (w ∷ []) = None
group_head (w ∷ v ∷ ws) = both (count_of w) (both (shape_of_word v) (Some ws))

abbrev pub group_of : List (List ℕ) → Option Statement
group_of ws = option_and_then (λ (index, (shape, rest)).
    option_map (λ (keys, aggregates). says.Group index (record { shape = shape; keys = keys; aggregates = aggregates })) (lists group_key_of aggregate_of_word rest))
    (group_head ws)

-- the number of a group and the words after it
abbrev pub put_head : List (List ℕ) → Option (ℕ × List (List ℕ))
put_head [] = None
put_head (w ∷ ws) = both (count_of w) (Some ws)

abbrev pub put_of : List (List ℕ) → Option Op
put_of ws = option_and_then (λ (group, rest). option_map (λ (keys, values). op.Put group keys values) (lists register_of register_of rest)) (put_head ws)

abbrev pub name_of : List ℕ → Option (List ℕ)
name_of word = if is_show_name word then Some word else None

-- a column of a group
unfoldable pub group_column_of : List ℕ → List ℕ → Option GroupColumn
group_column_of word index =
    if same word (codes "key") then option_map column.Key (count_of index)
    else if same word (codes "aggregate") then option_map column.Aggregate (count_of index)
    else None

abbrev pub show_of : List (List ℕ) → Option Show
show_of [] = None
show_of (name ∷ []) = None
show_of (name ∷ word ∷ ws) = option_map (λ (n, c). record { name = n; column = c }) (both (name_of name) (option_and_then (group_column_of word) (only_word ws)))

abbrev pub sort_of : List (List ℕ) → Option SortKey
sort_of [] = None
sort_of (word ∷ []) = None
sort_of (word ∷ index ∷ ws) = option_map (λ (c, d). record { column = c; direction = d }) (both (group_column_of word index) (from_one_word direction_of ws))

abbrev pub header_of : List (List ℕ) → Option Statement
header_of [] = None
header_of (program ∷ ws) = if same program (codes "program") then option_and_then (λ version. if same version (codes "1") then Some says.Header else None) (only_word ws) else None

abbrev pub end_of : List (List ℕ) → Option Statement
end_of [] = Some says.End
end_of (w ∷ ws) = None

-- the words after a keyword
unfoldable pub by_keyword : Keyword → List (List ℕ) → Option Statement
by_keyword keyword.Star ws = header_of ws
by_keyword keyword.Registers ws = option_map says.Registers (from_one_word count_of ws)
by_keyword keyword.Group ws = group_of ws
by_keyword keyword.Keep ws = option_map (λ f. says.Act (op.Keep f)) (from_one_word register_of ws)
by_keyword keyword.Put ws = option_map says.Act (put_of ws)
by_keyword keyword.Scan ws = option_map (λ (table, t). says.Scan table t) (from_two_words table_of_word register_of ws)
by_keyword keyword.End ws = end_of ws
by_keyword keyword.Report ws = option_map says.Report (from_one_word count_of ws)
by_keyword keyword.Show ws = option_map says.Show (show_of ws)
by_keyword keyword.Sort ws = option_map says.Sort (sort_of ws)

-- a keyword and the words after it, or the register that an instruction writes
abbrev pub by_first : Option Keyword → List ℕ → List (List ℕ) → Option Statement
by_first (Some k) w ws = by_keyword k ws
by_first None w ws = option_and_then (λ t. option_map says.Act (assigned t ws)) (register_of w)

unfoldable pub by_words : List (List ℕ) → Option Statement
by_words [] = None
by_words (w ∷ ws) = by_first (keyword_of w) w ws

-- the statement of a line, if it is one; its bytes are printable
unfoldable pub said : List ℕ → Option Statement
said line = if list_all is_printable line then by_words (words_of line) else None

-- the statements of the lines that are not blank, in order
abbrev pub said_in : List (List ℕ) → List (Option Statement)
said_in lines = map said (filter (λ line. not (is_blank_line line)) lines)
