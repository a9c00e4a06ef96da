-- The names, numbers and texts of a plan are those of its query, or names made of a function's word
-- and a number.
use Rattle.std.{proofs.Common.{◌≡◌, ◌∙◌, sym, ap, ℕ, ◌+◌, ◌<◌, ◌≤◌, ◌^◌, Bool, true, ◌&&◌, List, [], ◌∷◌, ◌++◌, Option, Some, None, length, option_map, arith, refl, length-append}, specs.Prelude.decimal, specs.List.list_all, specs.Str.Parse.AllDigits, proofs.lemmas.Fmt.{decimal_is_IsNumeral, length-decimal-le}, proofs.lemmas.Str.Parse.tells_digits, proofs.lemmas.Bool.{and_from, and_parts, le-leb, or_right}, proofs.lemmas.List.Folds.list_all-append}
use Rattle.star_schema.specs.{declared.column.ColumnId.ColumnId, Tables.Value}
use Rattle.star_query.specs.declared.token.Fold.TheVariants as fold
use Rattle.star_query.specs.Tree as tree
use Rattle.star_query.specs.{Tree.{Aggregate, Comparison, Item, Name, Expression, or, and, not, test, compare, between, Measure}, Tokens.{begins_with_letter, is_letter, is_word_byte}, Spelled.{is_name, has_few_digits, comparison_is_spelled}}
use Rattle.star_query.specs.Spelled as asked
use Rattle.star_plan.{specs.Meaning.RowCondition, specs.Naming.{name_of_aggregate, default_name, function_word, names_from}, specs.Spelled.{condition_is_spelled, expression_is_spelled, measure_is_spelled, value_is_spelled}, specs.Private.Stages.resolved_measures, specs.Resolved.{conjuncts_of, resolved_condition, resolved_expression, resolved_measure, resolved_test, where_conjuncts}, proofs.Options.{both_gave, mapped_gave}, proofs.Related.{condition_related, expression_related}}

-- ---- numbers and texts

both_true : (a b c d : Bool) → (a ≡ true → b ≡ true) → (c ≡ true → d ≡ true)
    → (a && c) ≡ true → (b && d) ≡ true
both_true a b c d l r e = let p = and_parts a c e in and_from b d (l p.0) (r p.1)

expression_spelled : (e : Expression Name) (x : Expression ColumnId)
    → resolved_expression e ≡ Some x → asked.expression_is_spelled e ≡ true
    → expression_is_spelled x ≡ true
expression_spelled =
    expression_related (λ a b. a ≡ true → b ≡ true) (λ n. is_name n.text) (λ c. true) has_few_digits
    (λ op. ◌&&◌) (λ n c h e. refl) (λ k e. e) (λ op. both_true)

resolved_spelled : (m : tree.Measure tree.Name) (x : Measure ColumnId) → resolved_measure m ≡ Some x
    → asked.measure_is_spelled m ≡ true → measure_is_spelled x ≡ true
resolved_spelled it x e good = grind (arith, mapped_gave, expression_spelled)

pub measures_spelled : (is' : List Item) (ms : List (Measure ColumnId))
    → resolved_measures is' ≡ Some ms → list_all asked.item_is_spelled is' ≡ true
    → list_all measure_is_spelled ms ≡ true
measures_spelled [] ms e good = let none : [] ≡ ms = cc in
    ap (list_all measure_is_spelled) (sym none)
measures_spelled (tree.plain n ∷ is') ms e good =
    let parts = and_parts (is_name n.text) (list_all asked.item_is_spelled is') good in
    measures_spelled is' ms e parts.1
measures_spelled (tree.aggregate a ∷ is') ms e good =
    let g = both_gave (λ m ms'. m ∷ ms') (resolved_measure a.measure) (resolved_measures is') ms
    e in
    let parts = and_parts (asked.item_is_spelled (tree.aggregate a))
    (list_all asked.item_is_spelled is') good in
    let here = and_parts (asked.measure_is_spelled a.measure) (asked.alias_is_spelled (a.name))
    parts.0 in
    ap (list_all measure_is_spelled) (sym g.made)
    ∙ and_from _ _ (resolved_spelled a.measure g.left g.first here.0)
    (measures_spelled is' g.right g.second parts.1)

test_spelled : (t : tree.Test) (c : Comparison ColumnId Value) → resolved_test t ≡ Some c
    → asked.test_is_spelled t ≡ true → comparison_is_spelled (λ c. true) value_is_spelled c ≡ true
test_spelled it c e good = grind (arith, mapped_gave, and_parts)

condition_spelled : (q : tree.Condition tree.Test) (x : RowCondition)
    → resolved_condition q ≡ Some x → asked.condition_is_spelled q ≡ true
    → condition_is_spelled x ≡ true
condition_spelled =
    condition_related (λ a b. a ≡ true → b ≡ true) asked.test_is_spelled
    (comparison_is_spelled (λ c. true) value_is_spelled) (λ b. b) ◌&&◌ ◌&&◌ test_spelled
    (λ a b h. h) both_true both_true

lone_spelled : (q : tree.Condition tree.Test) (xs : List RowCondition)
    → option_map (λ x. x ∷ []) (resolved_condition q) ≡ Some xs
    → asked.condition_is_spelled q ≡ true → list_all condition_is_spelled xs ≡ true
lone_spelled q xs e good = grind (arith, mapped_gave, and_from, condition_spelled)

conjuncts_spelled : (q : tree.Condition tree.Test) (xs : List RowCondition)
    → conjuncts_of q ≡ Some xs → asked.condition_is_spelled q ≡ true
    → list_all condition_is_spelled xs ≡ true
conjuncts_spelled (tree.and a b) xs e good =
    let g = both_gave (λ ys zs. ys ++ zs) (conjuncts_of a) (conjuncts_of b) xs e in
    let parts = and_parts (asked.condition_is_spelled a) (asked.condition_is_spelled b) good in
    ap (list_all condition_is_spelled) (sym g.made)
    ∙ list_all-append condition_is_spelled g.left g.right
    ∙ and_from _ _ (conjuncts_spelled a g.left g.first parts.0)
    (conjuncts_spelled b g.right g.second parts.1)
conjuncts_spelled (tree.test (tree.pair m n)) xs e good = let none : [] ≡ xs = cc in
    ap (list_all condition_is_spelled) (sym none)
conjuncts_spelled (tree.or a b) xs e good = lone_spelled (tree.or a b) xs e good
conjuncts_spelled (tree.not a) xs e good = lone_spelled (tree.not a) xs e good
conjuncts_spelled (tree.test (tree.comparison (tree.compare n s l))) xs e good =
    lone_spelled (tree.test (tree.comparison (tree.compare n s l))) xs e good
conjuncts_spelled (tree.test (tree.comparison (tree.between n from upto))) xs e good =
    lone_spelled (tree.test (tree.comparison (tree.between n from upto))) xs e good

pub where_spelled : (o : Option (tree.Condition tree.Test)) (xs : List RowCondition)
    → where_conjuncts o ≡ Some xs → asked.where_is_spelled (o) ≡ true
    → list_all condition_is_spelled xs ≡ true
where_spelled None xs e good = let none : [] ≡ xs = cc in
    ap (list_all condition_is_spelled) (sym none)
where_spelled (Some q) xs e good = conjuncts_spelled q xs e good

-- ---- names

digits_spelled : (ds : List ℕ) → AllDigits 10 ds → list_all is_word_byte ds ≡ true
digits_spelled [] all = refl
digits_spelled (d ∷ ds) all =
    let parts = tells_digits.parts d ds all in
    and_from _ _ (or_right (is_letter d) _
    (and_from _ _ (le-leb 48 d parts.0.0) (le-leb d 57 parts.0.1))) (digits_spelled ds parts.1)

word_then_digits : (word ds : List ℕ) → begins_with_letter word ≡ true
    → list_all is_word_byte word ≡ true → length word ≤ 5 → list_all is_word_byte ds ≡ true
    → length ds ≤ 20 → is_name (word ++ ds) ≡ true
unfolding is_name
word_then_digits it ds begins word short digits few =
    grind (arith, length-append, and_from, begins, list_all-append, digits, le-leb)

default_spelled : (m : tree.Measure tree.Name) (n : ℕ) → n < 2 ^ 64
    → is_name (default_name m n) ≡ true
unfolding function_word
default_spelled m n below = by_word (function_word m) (begins m) (letters m) (short m)
  where
    digits : list_all is_word_byte (decimal n) ≡ true
    digits = let numeral = decimal_is_IsNumeral n below in digits_spelled (decimal n) numeral.0.1

    begins : (x : tree.Measure tree.Name) → begins_with_letter (function_word x) ≡ true
    begins tree.count = refl
    begins (tree.fold fold.Sum e) = refl
    begins (tree.fold fold.Min e) = refl
    begins (tree.fold fold.Max e) = refl

    letters : (x : tree.Measure tree.Name) → list_all is_word_byte (function_word x) ≡ true
    letters tree.count = refl
    letters (tree.fold fold.Sum e) = refl
    letters (tree.fold fold.Min e) = refl
    letters (tree.fold fold.Max e) = refl

    short : (x : tree.Measure tree.Name) → length (function_word x) ≤ 5
    short tree.count = omega arith
    short (tree.fold fold.Sum e) = omega arith
    short (tree.fold fold.Min e) = omega arith
    short (tree.fold fold.Max e) = omega arith

    by_word : (word : List ℕ) → begins_with_letter word ≡ true → list_all is_word_byte word ≡ true
        → length word ≤ 5 → is_name (word ++ decimal n) ≡ true
    by_word word b l s = word_then_digits word (decimal n) b l s digits
        (length-decimal-le 20 n (omega arith) (omega arith) below)

name_spelled : (n : ℕ) (a : Aggregate) → n < 2 ^ 64 → asked.alias_is_spelled (a.name) ≡ true
    → is_name (name_of_aggregate n a) ≡ true
name_spelled n a d good = grind (arith, default_spelled)

pub names_spelled : (number : ℕ) (is' : List Item) → number + length is' < 2 ^ 64
    → list_all asked.item_is_spelled is' ≡ true → list_all is_name (names_from number is') ≡ true
names_spelled number [] few good = refl
names_spelled number (tree.plain n ∷ is') few good =
    let parts = and_parts (is_name n.text) (list_all asked.item_is_spelled is') good in
    names_spelled number is' (omega arith) parts.1
names_spelled number (tree.aggregate a ∷ is') few good =
    let parts = and_parts (asked.item_is_spelled (tree.aggregate a))
    (list_all asked.item_is_spelled is') good in
    let here = and_parts (asked.measure_is_spelled a.measure) (asked.alias_is_spelled (a.name))
    parts.0 in
    and_from _ _ (name_spelled number a (omega arith) here.1)
    (names_spelled (number + 1) is' (omega arith) parts.1)
