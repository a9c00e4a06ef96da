-- What a line says can be said: its numbers are short, its names and texts have the right bytes.
use Rattle.std.{specs.Prelude.{codes, filter, nat_le, not, ℤ, pos, neg_ℤ, if◌then◌else◌}, proofs.Common.{◌≡◌, ◌==◌, ◌&&◌, ◌≤◌, ◌^◌, ◌∷◌, [], ℕ, zero, suc, Bool, true, false, List, Option, Some, None, All, drop, map, arith, refl, subst, inl, inr}, specs.List.list_all, specs.Option.{option_and_then, option_map}, specs.Str.Parse.starts_with_minus, proofs.lemmas.Bool.{and_parts, cases_Bool, leb-true, lt-ltb}, proofs.lemmas.List.Elements.{All-cons, All-nil}}
use Rattle.star_interval.specs.Range.{is_i64}
use Rattle.star_schema.specs.Records.{is_filled, with_first}
use Rattle.star_common.{specs.Printable.is_printable, specs.Numerals.numeral_of, proofs.NumeralLemmas.numeral_below}
use Rattle.star_schema.specs.declared.group.GroupColumn.TheVariants as column
use Rattle.star_program.specs.{Text.Keywords.{aggregate_of_word, column_of_word, direction_of, keyword_of, mnemonic_of, same, shape_of_word, table_of_word}, Text.Lines.{begins_with, is_blank_line, lines_of, pieces_of, words_of}, Text.Numerals.{constant_of, count_of, is_show_name, register_of, up_to}, Text.Said.{assigned, both, by_first, by_keyword, by_words, each, end_of, from_one_word, from_three_words, from_two_words, group_column_of, group_key_of, group_of, header_of, lists, name_of, operation_of, put_of, quoted_text_of, said, show_of, sort_of, text_key, unquoted, until_colon}, Text.Spellable.{IsKey, IsPrinted, IsSayable, HasFourDigits, IsShortColumn, IsSpellableOp, IsSpellableOperation, OnlySpellable}, Text.Spelling.{Spells, program_statements}, World.is_text, declared.spelling.keyword.Keyword.Keyword, declared.spelling.keyword.Mnemonic.Mnemonic, declared.spelling.statement.Statement.Statement}
use Rattle.star_program.specs.declared.op.Op.TheVariants as op
use Rattle.star_program.specs.declared.op.Operation.TheVariants as operation
use Rattle.star_program.specs.declared.spelling.keyword.Keyword.TheVariants as keyword
use Rattle.star_program.specs.declared.spelling.keyword.Mnemonic.TheVariants as mnemonic
use Rattle.star_program.specs.declared.spelling.statement.Statement.TheVariants as says

-- ---- what holds of an answer, if there is one

data IfThere {A : Type 0} (P : A → Type 0) : Option A → Type 0 where
  none : IfThere P None
  some : {x : A} → P x → IfThere P (Some x)

of_some : {A : Type 0} {P : A → Type 0} {o : Option A} {x : A} → IfThere P o → o ≡ Some x → P x
of_some none is = let bad : ⊥ = cc in absurd bad
of_some {P = P} {x = x} (some {x = y} h) is = let same : y ≡ x = cc in subst P same h

if_some : {A : Type 0} {P : A → Type 0} (o : Option A) → ((x : A) → o ≡ Some x → P x) → IfThere P o
if_some None h = none
if_some (Some x) h = some (h x refl)

if_mapped : {A B : Type 0} {P : A → Type 0} {Q : B → Type 0} (f : A → B) {o : Option A}
    → IfThere P o → ((x : A) → P x → Q (f x)) → IfThere Q (option_map f o)
if_mapped f none each = none
if_mapped f (some {x} h) each = some (each x h)

if_chained : {A B : Type 0} {P : A → Type 0} {Q : B → Type 0} (f : A → Option B) {o : Option A}
    → IfThere P o → ((x : A) → P x → IfThere Q (f x)) → IfThere Q (option_and_then f o)
if_chained f none each = none
if_chained f (some {x} h) each = each x h

if_both : {A B : Type 0} {P : A → Type 0} {Q : B → Type 0} {a : Option A} {b : Option B}
    → IfThere P a → IfThere Q b → IfThere (λ p. P p.0 × Q p.1) (both a b)
if_both none h = none
if_both (some g) none = none
if_both (some g) (some h) = some (g, h)

if_either : {A : Type 0} {P : A → Type 0} (b : Bool) {x y : Option A} → (b ≡ true → IfThere P x)
    → IfThere P y → IfThere P (if b then x else y)
if_either true g h = g refl
if_either false g h = h

-- anything
abbrev Any : {A : Type 0} → A → Type 0
Any x = Unit {0}

any : {A : Type 0} (o : Option A) → IfThere Any o
any None = none
any (Some x) = some tt

-- ---- what holds of each answer of a reader of words

abbrev Gives : {A : Type 0} → (List ℕ → Option A) → (A → Type 0) → Type 0
Gives f P = (w : List ℕ) → IfThere P (f w)

one_gives : {A : Type 0} {f : List ℕ → Option A} {P : A → Type 0} → Gives f P
    → (ws : List (List ℕ)) → IfThere P (from_one_word f ws)
one_gives first [] = none
one_gives first (w ∷ []) = first w
one_gives first (w ∷ v ∷ ws) = none

two_gives : {A B : Type 0} {f : List ℕ → Option A} {g : List ℕ → Option B} {P : A → Type 0}
    {Q : B → Type 0} → Gives f P → Gives g Q → (ws : List (List ℕ))
    → IfThere (λ p. P p.0 × Q p.1) (from_two_words f g ws)
two_gives first second [] = none
two_gives first second (w ∷ ws) = if_both (first w) (one_gives second ws)

three_gives : {A B C : Type 0} {f : List ℕ → Option A} {g : List ℕ → Option B}
    {k : List ℕ → Option C} {P : A → Type 0} {Q : B → Type 0} {R : C → Type 0} → Gives f P
    → Gives g Q → Gives k R → (ws : List (List ℕ))
    → IfThere (λ p. P p.0 × (Q p.1.0 × R p.1.1)) (from_three_words f g k ws)
three_gives first second third [] = none
three_gives first second third (w ∷ ws) = if_both (first w) (two_gives second third ws)

each_gives : {A : Type 0} {f : List ℕ → Option A} (P : A → Type 0) → Gives f P
    → (ws : List (List ℕ)) → IfThere (All P) (each f ws)
each_gives P gives [] = some (All-nil P)
each_gives P gives (w ∷ ws) = if_mapped (λ (x, xs). x ∷ xs)
    (if_both (gives w) (each_gives P gives ws)) (λ p h. All-cons P p.0 p.1 h.0 h.1)

until_colon_gives : {A : Type 0} {f : List ℕ → Option A} (P : A → Type 0) → Gives f P
    → (ws : List (List ℕ)) → IfThere (λ r. All P r.0) (until_colon f ws)
until_colon_gives P gives [] = none
until_colon_gives P gives (w ∷ ws) =
    if_either (same w (codes ":")) (λ colon. some (All-nil P))
    (if_mapped (λ (x, (xs, rest)). (x ∷ xs, rest))
    (if_both (gives w) (until_colon_gives P gives ws))
    (λ p h. All-cons P p.0 p.1.0 h.0 h.1))

lists_gives : {A B : Type 0} {f : List ℕ → Option A} {g : List ℕ → Option B} (P : A → Type 0)
    (Q : B → Type 0) → Gives f P → Gives g Q → (ws : List (List ℕ))
    → IfThere (λ r. All P r.0 × All Q r.1) (lists f g ws)
lists_gives {g = g} P Q first second ws =
    if_chained (λ (xs, rest). option_map (λ ys. (xs, ys)) (each g rest))
    (until_colon_gives P first ws)
    (λ r front. if_mapped (λ ys. (r.0, ys)) (each_gives Q second r.1) (λ ys back. (front, back)))

-- ---- numbers

count_short : Gives count_of HasFourDigits
unfolding count_of
count_short w = grind (arith, if_some, numeral_below)

register_short : Gives register_of HasFourDigits
unfolding register_of
register_short w = if_either (begins_with 114 w) (λ begins. count_short (drop 1 w)) none

up_to_within : (most : ℕ) (o : Option ℕ) → IfThere (λ n. n ≤ most) (up_to most o)
up_to_within most None = none
up_to_within most (Some n) = if_either (nat_le n most) (λ h. some (leb-true n most h)) none

-- a number of 64 bits
abbrev Fits : ℤ → Type 0
Fits z = is_i64 z ≡ true

negative_fits : (n : ℕ) → n ≤ 9223372036854775808 → Fits (neg_ℤ (pos n))
unfolding is_i64
negative_fits zero h = lt-ltb 0 (2 ^ 63) (omega arith)
negative_fits (suc n) h = lt-ltb n (2 ^ 63) (omega (arith, h))

positive_fits : (n : ℕ) → n ≤ 9223372036854775807 → Fits (pos n)
unfolding is_i64
positive_fits n h = lt-ltb n (2 ^ 63) (omega (arith, h))

constant_fits : Gives constant_of Fits
unfolding constant_of
constant_fits w =
    if_either (starts_with_minus w) (λ minus. if_mapped (λ n. neg_ℤ (pos n))
    (up_to_within 9223372036854775808 (numeral_of 19 (drop 1 w))) negative_fits)
    (if_mapped pos (up_to_within 9223372036854775807 (numeral_of 19 w)) positive_fits)

-- ---- texts

abbrev all_printed : List (List ℕ) → Bool
all_printed ws = list_all (λ w. list_all is_printable w) ws

first_printed : (b : ℕ) (ws : List (List ℕ)) → is_printable b ≡ true → all_printed ws ≡ true
    → all_printed (with_first b ws) ≡ true
first_printed b [] h all = rw h refl
first_printed b (w ∷ ws) h all = rw h all

pieces_printed : (line : List ℕ) → IsPrinted line → all_printed (pieces_of line) ≡ true
unfolding pieces_of
pieces_printed [] h = refl
pieces_printed (b ∷ line) h =
    let parts = and_parts (is_printable b) (list_all is_printable line) h in
    elim (cases_Bool (b == 39)) [
      | inl quote ↦ rw (quote, parts.0, parts.1) refl
      | inr other ↦ elim (cases_Bool (b == 32)) [
        | inl space ↦ rw (other, space) (pieces_printed line parts.1)
        | inr plain ↦ rw (other, plain)
            (first_printed b (pieces_of line) parts.0 (pieces_printed line parts.1))
      ]
    ]

filled_printed : (ws : List (List ℕ)) → all_printed ws ≡ true
    → all_printed (filter is_filled ws) ≡ true
filled_printed [] h = refl
filled_printed ([] ∷ ws) h = filled_printed ws h
filled_printed ((b ∷ w) ∷ ws) h =
    let parts = and_parts (list_all is_printable (b ∷ w)) (all_printed ws) h in
    rw parts.0 (filled_printed ws parts.1)

words_printed : (line : List ℕ) → IsPrinted line → all_printed (words_of line) ≡ true
unfolding words_of
words_printed line h = filled_printed (pieces_of line) (pieces_printed line h)

unquoted_printed : (q : List ℕ) → IsPrinted q → IfThere IsPrinted (unquoted q)
unfolding unquoted
unquoted_printed [] h = none
unquoted_printed (b ∷ []) h = if_either (b == 39) (λ quote. some refl) none
unquoted_printed (b ∷ d ∷ rest) h =
    let parts = and_parts (is_printable b) (list_all is_printable (d ∷ rest)) h in
    let later = and_parts (is_printable d) (list_all is_printable rest) parts.1 in
    if_either ((b == 39) && (d == 39))
    (λ quotes. if_mapped (λ t. 39 ∷ t) (unquoted_printed rest later.1) (λ t all. all))
    (if_either (b == 39)
    (λ quote. if_either (is_blank_line (d ∷ rest)) (λ blank. some refl) none)
    (if_mapped (λ t. b ∷ t) (unquoted_printed (d ∷ rest) parts.1)
    (λ t all. rw (parts.0, all) refl)))

quoted_printed : (w : List ℕ) → IsPrinted w → IfThere IsPrinted (quoted_text_of w)
quoted_printed [] h = none
quoted_printed (b ∷ rest) h = if_either (b == 39) (λ quote. unquoted_printed rest
    (and_parts (is_printable b) (list_all is_printable rest) h).1) none

last_printed : (ws : List (List ℕ)) → all_printed ws ≡ true
    → IfThere IsPrinted (from_one_word quoted_text_of ws)
last_printed [] all = none
last_printed (w ∷ []) all = quoted_printed w (and_parts (list_all is_printable w) true all).0
last_printed (w ∷ v ∷ ws) all = none

-- a column and a text
search_printed : (ws : List (List ℕ)) → all_printed ws ≡ true
    → IfThere (λ p. Any p.0 × IsPrinted p.1) (from_two_words column_of_word quoted_text_of ws)
search_printed [] all = none
search_printed (w ∷ ws) all = if_both (any (column_of_word w))
    (last_printed ws (and_parts (list_all is_printable w) (all_printed ws) all).1)

-- ---- instructions

any_column : Gives column_of_word Any
any_column w = any (column_of_word w)

any_table : Gives table_of_word Any
any_table w = any (table_of_word w)

operation_spellable : (m : Mnemonic) (ws : List (List ℕ)) → all_printed ws ≡ true
    → IfThere IsSpellableOperation (operation_of m ws)
unfolding operation_of
operation_spellable mnemonic.Const ws all =
    if_mapped operation.Const (one_gives constant_fits ws) (λ z h. h)
operation_spellable (mnemonic.Edge e) ws all =
    if_mapped (λ (k, text). operation.Edge e k text) (search_printed ws all) (λ p h. h.1)
operation_spellable mnemonic.Load ws all = if_mapped (λ (k, row). operation.Load k row)
    (two_gives any_column register_short ws) (λ p h. h.1)
operation_spellable mnemonic.Find ws all = if_mapped (λ (table, k). operation.Find table k)
    (two_gives any_table register_short ws) (λ p h. h.1)
operation_spellable (mnemonic.Binary x) ws all = if_mapped (λ (a, b). operation.Binary x a b)
    (two_gives register_short register_short ws) (λ p h. h)
operation_spellable mnemonic.Within ws all =
    if_mapped (λ (y, (a, b)). operation.Within y a b)
    (three_gives register_short register_short register_short ws) (λ p h. (h.0, h.1.0, h.1.1))
operation_spellable mnemonic.Not ws all =
    if_mapped operation.Not (one_gives register_short ws) (λ f h. h)
operation_spellable mnemonic.Read ws all = if_mapped (λ (g, (a, n)). operation.Read g a n)
    (three_gives count_short count_short constant_fits ws) (λ p h. (h.0, h.1.0, h.1.1))

assigned_spellable : (t : ℕ) (ws : List (List ℕ)) → HasFourDigits t → all_printed ws ≡ true
    → IfThere IsSpellableOp (assigned t ws)
assigned_spellable t [] short all = none
assigned_spellable t (w ∷ []) short all = none
assigned_spellable t (w ∷ name ∷ ws) short all =
    let rest = and_parts (list_all is_printable name) (all_printed ws)
    (and_parts (list_all is_printable w) (all_printed (name ∷ ws)) all).1 in
    if_either (same w (codes "=")) (λ equals. if_mapped (op.Assign t)
    (if_chained (λ m. operation_of m ws) (any (mnemonic_of name))
    (λ m h. operation_spellable m ws rest.1)) (λ o h. (short, h))) none

put_spellable : (ws : List (List ℕ)) → IfThere IsSpellableOp (put_of ws)
put_spellable [] = none
put_spellable (w ∷ ws) =
    if_chained (λ (group, rest). option_map (λ (keys, values). op.Put group keys values)
    (lists register_of register_of rest)) (if_both (count_short w) (any (Some ws)))
    (λ p h. if_mapped (λ (keys, values). op.Put p.0 keys values)
    (lists_gives HasFourDigits HasFourDigits register_short register_short p.1)
    (λ r items. (h.0, items.0, items.1)))

-- ---- statements

header_sayable : (ws : List (List ℕ)) → IfThere IsSayable (header_of ws)
header_sayable [] = none
header_sayable (w ∷ ws) = if_either (same w (codes "program")) (λ program. one_gives
    (λ v. if_either (same v (codes "1")) (λ one. some tt) none) ws) none

key_given : Gives group_key_of IsKey
unfolding group_key_of
key_given w = if_either (same w (codes "number")) (λ number. some tt)
    (if_chained text_key (any (column_of_word w))
    (λ c h. if_either (is_text c) (λ texts. some texts) none))

group_sayable : (ws : List (List ℕ)) → IfThere IsSayable (group_of ws)
group_sayable [] = none
group_sayable (w ∷ []) = none
group_sayable (w ∷ v ∷ ws) =
    if_chained (λ (index, (shape, rest)). option_map (λ (keys, aggregates).
    says.Group index (record { shape = shape; keys = keys; aggregates = aggregates }))
    (lists group_key_of aggregate_of_word rest))
    (if_both (count_short w) (any (both (shape_of_word v) (Some ws))))
    (λ p h. if_mapped (λ (keys, aggregates).
    says.Group p.0 (record { shape = p.1.0; keys = keys; aggregates = aggregates }))
    (lists_gives IsKey Any key_given (λ word. any (aggregate_of_word word)) p.1.1)
    (λ r items. (h.0, items.0)))

end_sayable : (ws : List (List ℕ)) → IfThere IsSayable (end_of ws)
end_sayable [] = some tt
end_sayable (w ∷ ws) = none

column_short : (word index : List ℕ) → IfThere IsShortColumn (group_column_of word index)
unfolding group_column_of
column_short word index =
    if_either (same word (codes "key"))
    (λ is. if_mapped column.Key (count_short index) (λ n h. h))
    (if_either (same word (codes "aggregate"))
    (λ is. if_mapped column.Aggregate (count_short index) (λ n h. h)) none)

show_sayable : (ws : List (List ℕ)) → IfThere (λ s. IsSayable (says.Show s)) (show_of ws)
show_sayable [] = none
show_sayable (name ∷ []) = none
show_sayable (name ∷ word ∷ ws) =
    let named : IfThere (λ n. is_show_name n ≡ true) (name_of name) =
    if_either (is_show_name name) some none in
    if_mapped (λ (n, k). record { name = n; column = k })
    (if_both named (one_gives (column_short word) ws)) (λ p h. h)

sort_sayable : (ws : List (List ℕ)) → IfThere (λ k. IsSayable (says.Sort k)) (sort_of ws)
sort_sayable [] = none
sort_sayable (word ∷ []) = none
sort_sayable (word ∷ index ∷ ws) =
    if_mapped (λ (e, d). record { column = e; direction = d })
    (if_both (column_short word index) (any (from_one_word direction_of ws))) (λ p h. h.0)

by_keyword_sayable : (k : Keyword) (ws : List (List ℕ)) → IfThere IsSayable (by_keyword k ws)
unfolding by_keyword
by_keyword_sayable keyword.Star ws = header_sayable ws
by_keyword_sayable keyword.Registers ws =
    if_mapped says.Registers (one_gives count_short ws) (λ n h. h)
by_keyword_sayable keyword.Group ws = group_sayable ws
by_keyword_sayable keyword.Keep ws =
    if_mapped (λ f. says.Act (op.Keep f)) (one_gives register_short ws) (λ f h. h)
by_keyword_sayable keyword.Put ws = if_mapped says.Act (put_spellable ws) (λ o h. h)
by_keyword_sayable keyword.Scan ws = if_mapped (λ (table, t). says.Scan table t)
    (two_gives any_table register_short ws) (λ p h. h.1)
by_keyword_sayable keyword.End ws = end_sayable ws
by_keyword_sayable keyword.Report ws =
    if_mapped says.Report (one_gives count_short ws) (λ g h. h)
by_keyword_sayable keyword.Show ws = if_mapped says.Show (show_sayable ws) (λ s h. h)
by_keyword_sayable keyword.Sort ws = if_mapped says.Sort (sort_sayable ws) (λ k h. h)

by_words_sayable : (ws : List (List ℕ)) → all_printed ws ≡ true → IfThere IsSayable (by_words ws)
unfolding by_words
by_words_sayable [] all = none
by_words_sayable (w ∷ ws) all = go (keyword_of w)
  where
    go : (k : Option Keyword) → IfThere IsSayable (by_first k w ws)
    go (Some k) = by_keyword_sayable k ws
    go None = if_chained (λ t. option_map says.Act (assigned t ws)) (register_short w)
        (λ t h. if_mapped says.Act (assigned_spellable t ws h
        (and_parts (list_all is_printable w) (all_printed ws) all).1) (λ o spellable. spellable))

said_sayable : (line : List ℕ) → IfThere IsSayable (said line)
unfolding said
said_sayable line = if_either (list_all is_printable line)
    (λ printed. by_words_sayable (words_of line) (words_printed line printed)) none

-- ---- programs

all_sayable : (texts : List (List ℕ)) (ss : List Statement) → map said texts ≡ map Some ss
    → All IsSayable ss
all_sayable texts [] h = All-nil IsSayable
all_sayable [] (s ∷ ss) h = let bad : ⊥ = cc in absurd bad
all_sayable (text ∷ texts) (s ∷ ss) h =
    let here : said text ≡ Some s = cc in
    let rest : map said texts ≡ map Some ss = cc in
    All-cons IsSayable s ss (of_some (said_sayable text) here) (all_sayable texts ss rest)

pub only_spellable : OnlySpellable
unfolding Spells
only_spellable text p spells =
    all_sayable (filter (λ line. not (is_blank_line line)) (lines_of text)) (program_statements p)
    spells
