-- The text of a program that can be spelled spells it.
use Rattle.std.{specs.Prelude.{codes, decimal, filter, nat_le, not}, proofs.Common.{◌≡◌, ◌==◌, ◌≤◌, ◌*◌, ◌∙◌, ◌∷◌, ◌++◌, [], ℕ, zero, suc, true, false, List, Option, Some, None, All, append_assoc, append-nil, map, arith, ap, refl, sym, replicate, slice_index_or}, specs.Fmt.signed_decimal, specs.List.{flat_map, list_all}, proofs.lemmas.Bool.{and_parts, leb-true, ne_eqb}, proofs.lemmas.List.Concat.flat_map-append, proofs.lemmas.List.Elements.{All-head, All-tail}, proofs.lemmas.List.{Folds.{list_all-append, list_all-map}, Sums.list_all-from_AllPass}}
use Rattle.star_schema.specs.{Records.with_first, Schema.column_name, Schema.column_of as schema_column, Schema.table_name, Words.aggregate_name, Words.direction_name, Words.shape_name}
use Rattle.star_common.specs.{Printable.is_printable, Quotes.doubled, Quotes.quoted}
use Rattle.star_schema.specs.declared.{column.ColumnId.ColumnId, group.Direction.Direction, group.GroupColumn.GroupColumn}
use Rattle.star_schema.specs.declared.group.GroupColumn.TheVariants as column
use Rattle.star_program.{specs.Text.Keywords.{aggregate_of_word, column_of_word, keyword_name, keyword_of, mnemonic_name, same}, specs.Text.Lines.{is_blank_line, lines_of, words_of}, specs.Text.Numerals.{is_show_name, register_of}, specs.Text.Spelling.Spells, specs.Text.Statements.{Line, lines_of_program}, specs.Text.Said.{by_keyword, by_words, each, group_column_of, group_key_of, lists, operation_of, said, until_colon}, specs.Text.Spellable.{IsKey, IsPrinted, IsSayable, HasFourDigits, IsShortColumn, IsSpellableOp, IsSpellableOperation, Written}, specs.Text.Written.{aggregate_text, assigned_text, written_column, group_text, key_text, written_line, op_text, register_text, show_text, sort_text, statement_text, target_text, program_text}, specs.declared.group.GroupDecl.GroupDecl, specs.declared.group.GroupKey.GroupKey, specs.declared.op.Op.Op, specs.declared.op.Edge.Edge, specs.declared.op.Operation.Operation, specs.declared.spelling.keyword.Mnemonic.Mnemonic, specs.declared.spelling.statement.Statement.Statement, proofs.Text.LineLemmas.{goes_on, no_lines}, proofs.Text.WordLemmas.space_first, proofs.Text.WrittenLemmas.flat_map_map, proofs.Text.SpelledWords.{aggregate_read, aggregate_word, behind, column_apart, column_read, column_word, constant_decimal, constant_word, count_decimal, count_word, direction_read, direction_word, is_word, name_word, mnemonic_read, mnemonic_word, quote_printable, quoted_printable, quoted_read, register_is_word, register_no_keyword, register_read, register_word, shape_read, shape_word, table_read, table_word, words_before_quote, words_behind, words_printable}}
use Rattle.star_program.specs.declared.group.GroupKey.TheVariants as key
use Rattle.star_program.specs.declared.op.Op.TheVariants as op
use Rattle.star_program.specs.declared.op.Operation.TheVariants as operation
use Rattle.star_program.specs.declared.spelling.keyword.Mnemonic.TheVariants as mnemonic
use Rattle.star_program.specs.declared.spelling.statement.Statement.TheVariants as says

-- ---- a statement and its text

-- the text of a statement is printable, begins with no space and says the statement
record IsSpoken (s : Statement) : Type 0 where
  printable : IsPrinted (statement_text s)
  starts : is_blank_line (statement_text s) ≡ false
  means : by_words (words_of (statement_text s)) ≡ Some s

word_starts : (w t : List ℕ) → is_word w ≡ true → is_blank_line (w ++ t) ≡ false
word_starts it t h = grind (arith, and_parts, leb-true, ne_eqb)

spoken : (s : Statement) (w : List ℕ) (ws : List (List ℕ)) → statement_text s ≡ w ++ behind ws
    → is_word w ≡ true → list_all is_word ws ≡ true → by_words (w ∷ ws) ≡ Some s → IsSpoken s
spoken s w ws is h all means = grind (arith, words_printable, word_starts, behind, words_behind)

spoken_quote : (s : Statement) (w : List ℕ) (ws : List (List ℕ)) (q : List ℕ)
    → statement_text s ≡ w ++ (behind ws ++ 32 ∷ 39 ∷ q) → is_word w ≡ true
    → list_all is_word ws ≡ true → IsPrinted (39 ∷ q)
    → by_words (w ∷ (ws ++ (39 ∷ q) ∷ [])) ≡ Some s → IsSpoken s
spoken_quote s w ws q is h all printed means =
    grind (arith, quote_printable, word_starts, behind, words_before_quote)

-- one, two or three words after the first
one_behind : (w : List ℕ) → 32 ∷ w ≡ behind (w ∷ [])
one_behind w = ap (λ t. 32 ∷ t) (sym (append-nil w))

two_behind : (v w : List ℕ) → 32 ∷ (v ++ 32 ∷ w) ≡ behind (v ∷ w ∷ [])
two_behind v w = ap (λ t. 32 ∷ (v ++ 32 ∷ t)) (sym (append-nil w))

three_behind : (u v w : List ℕ) → 32 ∷ (u ++ 32 ∷ (v ++ 32 ∷ w)) ≡ behind (u ∷ v ∷ w ∷ [])
three_behind u v w = ap (λ t. 32 ∷ (u ++ 32 ∷ (v ++ 32 ∷ t))) (sym (append-nil w))

-- ---- instructions that write a register

by_target : (t : ℕ) (m : Mnemonic) (operands : List (List ℕ)) (o : Operation) → HasFourDigits t
    → operation_of m operands ≡ Some o
    → by_words (register_word t ∷ codes "=" ∷ mnemonic_name m ∷ operands)
    ≡ Some (says.Act (op.Assign t o))
unfolding by_words
by_target t m operands o h is =
    rw (register_no_keyword t h, register_read t h, mnemonic_read m, is) refl

target_words : (t : ℕ) (m : Mnemonic) (rest : List ℕ)
    → target_text t m ++ rest
    ≡ register_word t ++ (behind (codes "=" ∷ mnemonic_name m ∷ []) ++ rest)
unfolding target_text
target_words t m rest = grind (arith, append-nil, append_assoc)

spoken_target : (t : ℕ) (m : Mnemonic) (operands : List (List ℕ)) (o : Operation) (text : List ℕ)
    → HasFourDigits t → assigned_text t o ≡ target_text t m ++ text → text ≡ behind operands
    → list_all is_word operands ≡ true
    → operation_of m operands ≡ Some o → IsSpoken (says.Act (op.Assign t o))
unfolding op_text
spoken_target t m operands o text h is follow all means =
    spoken (says.Act (op.Assign t o)) (register_word t) (codes "=" ∷ mnemonic_name m ∷ operands)
    (is ∙ ap (λ y. target_text t m ++ y) follow ∙ target_words t m (behind operands)
    ∙ ap (λ y. register_word t ++ y)
    (sym (flat_map-append (λ w. 32 ∷ w) (codes "=" ∷ mnemonic_name m ∷ []) operands)))
    (register_is_word t h) (rw (mnemonic_word m, all) refl) (by_target t m operands o h means)

spoken_edge : (t : ℕ) (e : Edge) (c : ColumnId) (text : List ℕ) → HasFourDigits t → IsPrinted text
    → IsSpoken (says.Act (op.Assign t (operation.Edge e c text)))
unfolding op_text assigned_text operation_of quoted
spoken_edge t e c text h printed =
    let m : Mnemonic = mnemonic.Edge e in
    let ws : List (List ℕ) = codes "=" ∷ mnemonic_name m ∷ column_name c ∷ [] in
    let end : 32 ∷ (column_name c ++ (32 ∷ quoted text))
    ≡ behind (column_name c ∷ []) ++ 32 ∷ quoted text =
    ap (λ y. 32 ∷ (y ++ 32 ∷ quoted text)) (sym (append-nil (column_name c))) in
    let parted : behind (codes "=" ∷ mnemonic_name m ∷ [])
    ++ (behind (column_name c ∷ []) ++ 32 ∷ quoted text) ≡ behind ws ++ 32 ∷ quoted text =
    sym (append_assoc (behind (codes "=" ∷ mnemonic_name m ∷ [])) (behind (column_name c ∷ []))
    (32 ∷ quoted text))
    ∙ ap (λ y. y ++ 32 ∷ quoted text)
    (sym (flat_map-append (λ w. 32 ∷ w) (codes "=" ∷ mnemonic_name m ∷ [])
    (column_name c ∷ []))) in
    spoken_quote (says.Act (op.Assign t (operation.Edge e c text))) (register_word t) ws
    (flat_map doubled text ++ 39 ∷ [])
    (ap (λ y. target_text t m ++ y) end
    ∙ target_words t m (behind (column_name c ∷ []) ++ 32 ∷ quoted text)
    ∙ ap (λ y. register_word t ++ y) parted)
    (register_is_word t h) (rw (mnemonic_word m, column_word c) refl)
    (quoted_printable text printed)
    (by_target t m (column_name c ∷ quoted text ∷ []) (operation.Edge e c text) h
    (rw (column_read c, quoted_read text) refl))

-- ---- lists parted by a colon

-- a word is read as something, and is no colon
abbrev IsItem : {A : Type 0} → (List ℕ → Option A) → (A → List ℕ) → A → Type 0
IsItem f word x = (f (word x) ≡ Some x) × (same (word x) (codes ":") ≡ false)

until_colon_read : {A : Type 0} (f : List ℕ → Option A) (word : A → List ℕ) (xs : List A)
    (rest : List (List ℕ)) → All (IsItem f word) xs
    → until_colon f (map word xs ++ codes ":" ∷ rest) ≡ Some (xs, rest)
until_colon_read f word [] rest h = refl
until_colon_read f word (x ∷ xs) rest h =
    let here = All-head (IsItem f word) x xs h in
    let later : until_colon f (map word xs ++ codes ":" ∷ rest) ≡ Some (xs, rest) =
    until_colon_read f word xs rest (All-tail (IsItem f word) x xs h) in
    rw (here.1, here.0, later) refl

each_read : {A : Type 0} (f : List ℕ → Option A) (word : A → List ℕ) (xs : List A)
    → All (λ x. f (word x) ≡ Some x) xs → each f (map word xs) ≡ Some xs
each_read f word [] h = refl
each_read f word (x ∷ xs) h =
    let reads : f (word x) ≡ Some x = All-head (λ y. f (word y) ≡ Some y) x xs h in
    let later : each f (map word xs) ≡ Some xs =
    each_read f word xs (All-tail (λ y. f (word y) ≡ Some y) x xs h) in
    rw (reads, later) refl

lists_read : {A B : Type 0} (f : List ℕ → Option A) (g : List ℕ → Option B) (v : A → List ℕ)
    (w : B → List ℕ) (xs : List A) (ys : List B) → All (IsItem f v) xs
    → All (λ y. g (w y) ≡ Some y) ys
    → lists f g (map v xs ++ codes ":" ∷ map w ys) ≡ Some (xs, ys)
lists_read f g v w xs ys front back = grind (arith, until_colon_read, each_read)

words_all : {A : Type 0} (word : A → List ℕ) (xs : List A) → All (λ x. is_word (word x) ≡ true) xs
    → list_all is_word (map word xs) ≡ true
words_all word xs h =
    list_all-map is_word word xs ∙ list_all-from_AllPass (λ x. is_word (word x)) xs h

lists_are_words : {A B : Type 0} (v : A → List ℕ) (w : B → List ℕ) (xs : List A) (ys : List B)
    → All (λ x. is_word (v x) ≡ true) xs → All (λ y. is_word (w y) ≡ true) ys
    → list_all is_word (map v xs ++ codes ":" ∷ map w ys) ≡ true
lists_are_words v w xs ys front back = grind (arith, list_all-append, is_word, words_all)

-- both lists as they are written
lists_text : {A B : Type 0} (v : A → List ℕ) (w : B → List ℕ) (xs : List A) (ys : List B)
    → flat_map (λ x. 32 ∷ v x) xs ++ (32 ∷ 58 ∷ flat_map (λ y. 32 ∷ w y) ys)
    ≡ behind (map v xs ++ codes ":" ∷ map w ys)
lists_text v w xs ys = grind (arith, flat_map-append, behind, flat_map_map)

register_items : (rs : List ℕ) → All HasFourDigits rs → All (IsItem register_of register_word) rs
register_items rs h k d small = (register_read (slice_index_or rs k d) (h k d small), refl)

spoken_put : (g : ℕ) (keys values : List ℕ) → HasFourDigits g → All HasFourDigits keys
    → All HasFourDigits values → IsSpoken (says.Act (op.Put g keys values))
unfolding op_text register_text by_words by_keyword keyword_of keyword_name
spoken_put g keys values h front back =
    let ws : List (List ℕ) = map register_word keys ++ codes ":" ∷ map register_word values in
    let read : lists register_of register_of ws ≡ Some (keys, values) =
    lists_read register_of register_of register_word register_word keys values
    (register_items keys front)
    (λ k d small. register_read (slice_index_or values k d) (back k d small)) in
    let all : list_all is_word ws ≡ true =
    lists_are_words register_word register_word keys values
    (λ k d small. register_is_word (slice_index_or keys k d) (front k d small))
    (λ k d small. register_is_word (slice_index_or values k d) (back k d small)) in
    spoken (says.Act (op.Put g keys values)) (codes "put") (decimal g ∷ ws)
    (ap (λ y. codes "put " ++ (decimal g ++ y))
    (lists_text register_word register_word keys values)) refl
    (rw (count_word g h, all) refl) (rw (count_decimal g h, read) refl)

-- ---- any instruction

spoken_assigned : (t : ℕ) (o : Operation) → HasFourDigits t → IsSpellableOperation o
    → IsSpoken (says.Act (op.Assign t o))
unfolding assigned_text operation_of register_text
spoken_assigned t (operation.Const n) s h =
    spoken_target t mnemonic.Const (signed_decimal n ∷ []) (operation.Const n) _ s refl
    (one_behind (signed_decimal n)) (rw (constant_word n h) refl)
    (rw (constant_decimal n h) refl)
spoken_assigned t (operation.Edge e c text) s h = spoken_edge t e c text s h
spoken_assigned t (operation.Load c row) s h =
    spoken_target t mnemonic.Load (column_name c ∷ register_word row ∷ []) (operation.Load c row) _
    s refl (two_behind (column_name c) (register_word row))
    (rw (column_word c, register_is_word row h) refl) (rw (column_read c, register_read row h) refl)
spoken_assigned t (operation.Find table k) s h =
    spoken_target t mnemonic.Find (table_name table ∷ register_word k ∷ []) (operation.Find table k)
    _ s refl (two_behind (table_name table) (register_word k))
    (rw (table_word table, register_is_word k h) refl)
    (rw (table_read table, register_read k h) refl)
spoken_assigned t (operation.Binary o a b) s h =
    spoken_target t (mnemonic.Binary o) (register_word a ∷ register_word b ∷ [])
    (operation.Binary o a b) _ s refl (two_behind (register_word a) (register_word b))
    (rw (register_is_word a h.0, register_is_word b h.1) refl)
    (rw (register_read a h.0, register_read b h.1) refl)
spoken_assigned t (operation.Within x a b) s h =
    spoken_target t mnemonic.Within (register_word x ∷ register_word a ∷ register_word b ∷ [])
    (operation.Within x a b) _ s refl
    (three_behind (register_word x) (register_word a) (register_word b))
    (rw (register_is_word x h.0, register_is_word a h.1, register_is_word b h.2) refl)
    (rw (register_read x h.0, register_read a h.1, register_read b h.2) refl)
spoken_assigned t (operation.Not f) s h =
    spoken_target t mnemonic.Not (register_word f ∷ []) (operation.Not f) _ s refl
    (one_behind (register_word f)) (rw (register_is_word f h) refl)
    (rw (register_read f h) refl)
spoken_assigned t (operation.Read g a n) s h =
    spoken_target t mnemonic.Read (decimal g ∷ decimal a ∷ signed_decimal n ∷ [])
    (operation.Read g a n) _ s refl (three_behind (decimal g) (decimal a) (signed_decimal n))
    (rw (count_word g h.0, count_word a h.1, constant_word n h.2) refl)
    (rw (count_decimal g h.0, count_decimal a h.1, constant_decimal n h.2) refl)

spoken_op : (o : Op) → IsSpellableOp o → IsSpoken (says.Act o)
unfolding op_text register_text by_words by_keyword keyword_of keyword_name
spoken_op (op.Assign t o) h = spoken_assigned t o h.0 h.1
spoken_op (op.Keep f) h =
    spoken (says.Act (op.Keep f)) (codes "keep") (register_word f ∷ [])
    (ap (λ y. codes "keep" ++ y) (one_behind (register_word f))) refl
    (rw (register_is_word f h) refl) (rw (register_read f h) refl)
spoken_op (op.Put g keys values) h = spoken_put g keys values h.0 h.1 h.2

-- ---- groups

key_word : GroupKey → List ℕ
key_word key.Number = codes "number"
key_word (key.Text c) = column_name c

key_text_is : (k : GroupKey) → key_text k ≡ 32 ∷ key_word k
unfolding key_text key_word
key_text_is key.Number = refl
key_text_is (key.Text c) = refl

keys_text : (ks : List GroupKey) → flat_map key_text ks ≡ flat_map (λ k. 32 ∷ key_word k) ks
keys_text [] = refl
keys_text (k ∷ ks) = rw (key_text_is k, keys_text ks) refl

number_no_column : column_of_word (codes "number") ≡ None
unfolding column_of_word schema_column
number_no_column = refl

colon_no_column : column_of_word (codes ":") ≡ None
unfolding column_of_word schema_column
colon_no_column = refl

key_item : (k : GroupKey) → IsKey k → IsItem group_key_of key_word k
unfolding group_key_of key_word
key_item it h = grind (arith, column_apart, number_no_column, column_read, colon_no_column)

key_is_word : (k : GroupKey) → is_word (key_word k) ≡ true
unfolding key_word
key_is_word key.Number = refl
key_is_word (key.Text c) = column_word c

spoken_group : (index : ℕ) (group : GroupDecl) → HasFourDigits index × All IsKey group.keys
    → IsSpoken (says.Group index group)
unfolding group_text by_words by_keyword keyword_of keyword_name
spoken_group index group h =
    let ws : List (List ℕ) =
    map key_word group.keys ++ codes ":" ∷ map aggregate_name group.aggregates in
    let read : lists group_key_of aggregate_of_word ws ≡ Some (group.keys, group.aggregates) =
    lists_read group_key_of aggregate_of_word key_word aggregate_name group.keys group.aggregates
    (λ k d small. key_item (slice_index_or group.keys k d) (h.1 k d small))
    (λ k d small. aggregate_read (slice_index_or group.aggregates k d)) in
    let all : list_all is_word ws ≡ true =
    lists_are_words key_word aggregate_name group.keys group.aggregates
    (λ k d small. key_is_word (slice_index_or group.keys k d))
    (λ k d small. aggregate_word (slice_index_or group.aggregates k d)) in
    spoken (says.Group index group) (codes "group") (decimal index ∷ shape_name group.shape ∷ ws)
    (ap (λ y. codes "group " ++ (decimal index ++ 32 ∷ (shape_name group.shape ++ y)))
    (ap (λ y. y ++ (32 ∷ 58 ∷ flat_map aggregate_text group.aggregates)) (keys_text group.keys)
    ∙ lists_text key_word aggregate_name group.keys group.aggregates)) refl
    (rw (count_word index h.0, shape_word group.shape, all) refl)
    (rw (count_decimal index h.0, shape_read group.shape, read) refl)

-- ---- the other statements

spoken_show : (name : List ℕ) (c : GroupColumn) → is_show_name name ≡ true → IsShortColumn c
    → IsSpoken (says.Show (record { name = name; column = c }))
unfolding by_words by_keyword keyword_of keyword_name show_text written_column group_column_of
spoken_show name (column.Key k) named h =
    spoken (says.Show (record { name = name; column = column.Key k })) (codes "show")
    (name ∷ codes "key" ∷ decimal k ∷ [])
    (ap (λ y. codes "show" ++ y) (three_behind name (codes "key") (decimal k))) refl
    (rw (name_word name named, count_word k h) refl) (rw (named, count_decimal k h) refl)
spoken_show name (column.Aggregate a) named h =
    spoken (says.Show (record { name = name; column = column.Aggregate a })) (codes "show")
    (name ∷ codes "aggregate" ∷ decimal a ∷ [])
    (ap (λ y. codes "show" ++ y) (three_behind name (codes "aggregate") (decimal a))) refl
    (rw (name_word name named, count_word a h) refl) (rw (named, count_decimal a h) refl)

spoken_sort : (c : GroupColumn) (d : Direction) → IsShortColumn c
    → IsSpoken (says.Sort (record { column = c; direction = d }))
unfolding by_words by_keyword keyword_of keyword_name sort_text written_column group_column_of
spoken_sort (column.Key k) d h =
    spoken (says.Sort (record { column = column.Key k; direction = d })) (codes "sort")
    (codes "key" ∷ decimal k ∷ direction_name d ∷ [])
    (ap (λ y. codes "sort" ++ y) (three_behind (codes "key") (decimal k) (direction_name d)))
    refl
    (rw (count_word k h, direction_word d) refl) (rw (count_decimal k h, direction_read d) refl)
spoken_sort (column.Aggregate a) d h =
    spoken (says.Sort (record { column = column.Aggregate a; direction = d })) (codes "sort")
    (codes "aggregate" ∷ decimal a ∷ direction_name d ∷ [])
    (ap (λ y. codes "sort" ++ y) (three_behind (codes "aggregate") (decimal a) (direction_name d)))
    refl
    (rw (count_word a h, direction_word d) refl) (rw (count_decimal a h, direction_read d) refl)

spoken_statement : (s : Statement) → IsSayable s → IsSpoken s
unfolding by_words by_keyword keyword_of keyword_name register_text
spoken_statement says.Header h =
    spoken says.Header (codes "star") (codes "program" ∷ codes "1" ∷ []) refl refl refl refl
spoken_statement (says.Registers n) h =
    spoken (says.Registers n) (codes "registers") (decimal n ∷ [])
    (ap (λ y. codes "registers" ++ y) (one_behind (decimal n))) refl (rw (count_word n h) refl)
    (rw (count_decimal n h) refl)
spoken_statement (says.Group index group) h = spoken_group index group h
spoken_statement (says.Act o) h = spoken_op o h
spoken_statement (says.Scan table t) h =
    spoken (says.Scan table t) (codes "scan") (table_name table ∷ register_word t ∷ [])
    (ap (λ y. codes "scan" ++ y) (two_behind (table_name table) (register_word t))) refl
    (rw (table_word table, register_is_word t h) refl)
    (rw (table_read table, register_read t h) refl)
spoken_statement says.End h = spoken says.End (codes "end") [] refl refl refl refl
spoken_statement (says.Report g) h =
    spoken (says.Report g) (codes "report") (decimal g ∷ [])
    (ap (λ y. codes "report" ++ y) (one_behind (decimal g))) refl (rw (count_word g h) refl)
    (rw (count_decimal g h) refl)
spoken_statement (says.Show show) h = spoken_show show.name show.column h.0 h.1
spoken_statement (says.Sort key) h = spoken_sort key.column key.direction h

-- ---- lines

line_cut : (content rest : List ℕ) → IsPrinted content
    → lines_of (content ++ 10 ∷ rest) ≡ content ∷ lines_of rest
unfolding lines_of
line_cut [] rest h = refl
line_cut (b ∷ content) rest h =
    grind (arith, and_parts, list_all, leb-true, nat_le, ne_eqb, goes_on, line_cut content rest)

abbrev content_of : Line → List ℕ
content_of l = replicate (2 * l.depth) 32 ++ statement_text l.says

spaces_printable : (k : ℕ) → list_all is_printable (replicate k 32) ≡ true
spaces_printable zero = refl
spaces_printable (suc k) = spaces_printable k

spaces_words : (k : ℕ) (t : List ℕ) → words_of (replicate k 32 ++ t) ≡ words_of t
spaces_words zero t = refl
spaces_words (suc k) t = space_first (replicate k 32 ++ t) ∙ spaces_words k t

spaces_blank : (k : ℕ) (t : List ℕ) → is_blank_line (replicate k 32 ++ t) ≡ is_blank_line t
spaces_blank zero t = refl
spaces_blank (suc k) t = spaces_blank k t

indented_printable : (k : ℕ) (t : List ℕ) → IsPrinted t → IsPrinted (replicate k 32 ++ t)
indented_printable k t h =
    rw (list_all-append is_printable (replicate k 32) t, spaces_printable k, h) refl

said_line : (l : Line) → IsSpoken l.says → said (content_of l) ≡ Some l.says
unfolding said
said_line l h = grind (arith, indented_printable, spaces_words)

line_first : (l : Line) (rest : List ℕ) → IsSpoken l.says
    → lines_of (written_line l ++ rest) ≡ content_of l ∷ lines_of rest
unfolding written_line
line_first l rest h = grind (arith, append_assoc, line_cut, indented_printable)

lines_said : (ls : List Line) → All IsSayable (map (λ l. l.says) ls)
    → map said (filter (λ line. not (is_blank_line line)) (lines_of (flat_map written_line ls)))
    ≡ map Some (map (λ l. l.says) ls)
lines_said [] h = rw no_lines refl
lines_said (l ∷ ls) h =
    let here : IsSpoken l.says =
    spoken_statement l.says (All-head IsSayable l.says (map (λ k. k.says) ls) h) in
    let filled : is_blank_line (content_of l) ≡ false =
    spaces_blank (2 * l.depth) (statement_text l.says) ∙ here.starts in
    let later = lines_said ls (All-tail IsSayable l.says (map (λ k. k.says) ls) h) in
    rw (line_first l (flat_map written_line ls) here, filled, said_line l here, later) refl

pub written : Written
unfolding Spells program_text
written p h = lines_said (lines_of_program p) h
