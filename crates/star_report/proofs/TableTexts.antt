-- The texts of a table stand in one field of a line.
use Rattle.std.{proofs.Common.{◌≡◌, ◌++◌, ◌&&◌, ◌||◌, ℕ, zero, suc, All, Bool, true, false, IsTrue, List, [], ◌∷◌, filter, map, not, refl, take, if◌then◌else◌}, proofs.lemmas.List.Elements.All-from_recursion, proofs.lemmas.Bool.{and_from, not_from_false}, specs.List.{AllByRecursion, list_all}}
use Rattle.star_schema.specs.{Records.{ends_line, fields_of, is_bar, is_filled, pieces, records_in, records_of, with_first}, Tables.{cells_of, ends_in_bar, row_of, rows_of, values_of}, declared.column.Kind.Kind, declared.table.TableId.TableId, Schema.{kinds_of, width_of}}
use Rattle.star_report.specs.Columns.{IsFieldValue, is_field}
use Rattle.star_schema.specs.declared.column.Kind.TheVariants as kind

-- ---- elements that all have a property

if_each : {X : Type 0} (P : X → Type 0) (b : Bool) (xs ys : List X)
    → (b ≡ true → AllByRecursion P xs) → (b ≡ false → AllByRecursion P ys)
    → AllByRecursion P (if b then xs else ys)
if_each P true xs ys f g = f refl
if_each P false xs ys f g = g refl

filter_each : {X : Type 0} (P : X → Type 0) (f : X → Bool) (xs : List X) → AllByRecursion P xs
    → AllByRecursion P (filter f xs)
filter_each P f [] h = tt
filter_each P f (x ∷ xs) h =
    if_each P (f x) (x ∷ filter f xs) (filter f xs)
    (λ e. (h.0, filter_each P f xs h.1)) (λ e. filter_each P f xs h.1)

take_each : {X : Type 0} (P : X → Type 0) (n : ℕ) (xs : List X) → AllByRecursion P xs
    → AllByRecursion P (take n xs)
take_each P zero xs h = tt
take_each P (suc n) [] h = tt
take_each P (suc n) (x ∷ xs) h = (h.0, take_each P n xs h.1)

map_each : {X Y : Type 0} (P : X → Type 0) (Q : Y → Type 0) (f : X → Y) → ((x : X) → P x → Q (f x))
    → (xs : List X) → AllByRecursion P xs → AllByRecursion Q (map f xs)
map_each P Q f gives [] h = tt
map_each P Q f gives (x ∷ xs) h = (gives x h.0, map_each P Q f gives xs h.1)

each_all : {X : Type 0} (P : X → Type 0) (xss : List (List X))
    → AllByRecursion (AllByRecursion P) xss → AllByRecursion (All P) xss
each_all P [] h = tt
each_all P (xs ∷ xss) h = (All-from_recursion P xs h.0, each_all P xss h.1)

-- ---- pieces

-- all bytes of a piece pass a test
abbrev Passes : (ℕ → Bool) → List ℕ → Type 0
Passes r piece = IsTrue (list_all r piece)

first_passes : (r : ℕ → Bool) (b : ℕ) (ps : List (List ℕ)) → r b ≡ true
    → AllByRecursion (Passes r) ps → AllByRecursion (Passes r) (with_first b ps)
first_passes r b [] passes h = (and_from (r b) true passes refl, tt)
first_passes r b (p ∷ ps) passes h = (and_from (r b) (list_all r p) passes h.0, h.1)

-- bytes that part the text are in no piece
pieces_pass : (parts r : ℕ → Bool) (text : List ℕ)
    → AllByRecursion (λ b. parts b ≡ false → r b ≡ true) text
    → AllByRecursion (Passes r) (pieces parts text)
unfolding pieces
pieces_pass parts r [] h = (refl, tt)
pieces_pass parts r (b ∷ bs) h =
    let rest = pieces_pass parts r bs h.1 in
    if_each (Passes r) (parts b) ([] ∷ pieces parts bs) (with_first b (pieces parts bs))
    (λ e. (refl, rest)) (λ e. first_passes r b (pieces parts bs) (h.0 e) rest)

-- ---- lines and fields

neither : (x y : Bool) → not y ≡ true → x ≡ false → not (x || y) ≡ true
neither false y h k = h
neither true y h k = absurd cc

each_in_line : (text : List ℕ)
    → AllByRecursion (λ b. ends_line b ≡ false → not (ends_line b) ≡ true) text
each_in_line [] = tt
each_in_line (b ∷ bs) = (not_from_false (ends_line b), each_in_line bs)

conjuncts : (p q : Bool) → (p && q) ≡ true → (p ≡ true) × (q ≡ true)
conjuncts true q h = (refl, h)
conjuncts false q h = absurd cc

each_in_field : (line : List ℕ) → Passes (λ b. not (ends_line b)) line
    → AllByRecursion (λ b. is_bar b ≡ false → not (is_bar b || ends_line b) ≡ true) line
each_in_field [] h = tt
each_in_field (b ∷ bs) h =
    let parts = conjuncts (not (ends_line b)) (list_all (λ x. not (ends_line x)) bs) h in
    (neither (is_bar b) (ends_line b) parts.0, each_in_field bs parts.1)

abbrev IsField : List ℕ → Type 0
IsField text = IsTrue (is_field text)

fields_are : (line : List ℕ) → Passes (λ b. not (ends_line b)) line
    → AllByRecursion IsField (fields_of line)
fields_are line h =
    pieces_pass is_bar (λ b. not (is_bar b || ends_line b)) line (each_in_field line h)

cells_are : (width : ℕ) (fields : List (List ℕ)) → AllByRecursion IsField fields
    → AllByRecursion IsField (cells_of width fields)
cells_are width fields h =
    if_each IsField (ends_in_bar width fields) (take width fields) fields
    (λ e. take_each IsField width fields h) (λ e. h)

values_are : (kinds : List Kind) (cells : List (List ℕ)) → AllByRecursion IsField cells
    → AllByRecursion IsFieldValue (values_of kinds cells)
values_are [] cells h = tt
values_are (k ∷ ks) [] h = tt
values_are (kind.Number ∷ ks) (cell ∷ cells) h = (tt, values_are ks cells h.1)
values_are (kind.Text ∷ ks) (cell ∷ cells) h = (h.0, values_are ks cells h.1)

row_is : (t : TableId) (line : List ℕ) → Passes (λ b. not (ends_line b)) line
    → AllByRecursion IsFieldValue (row_of t line)
row_is t line h =
    values_are (kinds_of t) (cells_of (width_of t) (fields_of line))
    (cells_are (width_of t) (fields_of line) (fields_are line h))

-- ---- records

append_each : {X : Type 0} (P : X → Type 0) (xs ys : List X) → AllByRecursion P xs
    → AllByRecursion P ys → AllByRecursion P (xs ++ ys)
append_each P [] ys h k = k
append_each P (x ∷ xs) ys h k = (h.0, append_each P xs ys h.1 k)

-- the records of a part
records_are : (part : List ℕ) → AllByRecursion (Passes (λ b. not (ends_line b))) (records_of part)
records_are part =
    filter_each (Passes (λ b. not (ends_line b))) is_filled (pieces ends_line part)
    (pieces_pass ends_line (λ b. not (ends_line b)) part (each_in_line part))

-- the records of all parts
records_in_are : (parts : List (List ℕ))
    → AllByRecursion (Passes (λ b. not (ends_line b))) (records_in parts)
records_in_are [] = tt
records_in_are (part ∷ later) =
    append_each (Passes (λ b. not (ends_line b))) (records_of part) (records_in later)
    (records_are part) (records_in_are later)

pub table_texts_are_fields : (t : TableId) (parts : List (List ℕ))
    → All (All IsFieldValue) (rows_of t parts)
table_texts_are_fields t parts =
    let P : List ℕ → Type 0 = Passes (λ b. not (ends_line b)) in
    let rows = map_each P (AllByRecursion IsFieldValue) (row_of t) (row_is t) (records_in parts)
    (records_in_are parts) in
    All-from_recursion (All IsFieldValue) (rows_of t parts)
    (each_all IsFieldValue (rows_of t parts) rows)
