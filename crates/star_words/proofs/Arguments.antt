-- Limits of trials, and arguments that are separated one by one.
use Rattle.std.{proofs.Common.{◌+◌, Global, String, add-one, drop-cons, get_or, map, string_bytes, ◌≡◌, ◌∙◌, ◌<◌, ◌≤◌, ◌++◌, ◌&&◌, ap, sym, subst, ℕ, List, [], ◌∷◌, length, Bool, true, false, Option, Some, None, if◌then◌else◌, drop, append-nil, append_assoc, refl, nat_lt, tests, rules}, proofs.lemmas.List.drop_all, specs.Borrow.Bor, specs.Option.option_map, specs.Char.digit_value, specs.List.list_all, specs.Str.Parse.{AllDigits, IsNumeral, digits_value, without_leading_plus}}
use Rattle.star_words.specs.{Private.Parting.{AreArguments, IsAdded, all_operands, all_options, texts}, Requests.{Word, limit_of, part_of, parts_of, operands_from, options_from}, declared.request.Arguments.Arguments}

-- ---- limits

abbrev is_digit : ℕ → Bool
is_digit digit = nat_lt (digit_value digit) 10

are_digits : (digits : List ℕ) → AllDigits 10 digits → list_all is_digit digits ≡ true
are_digits [] all = refl
are_digits (digit ∷ digits) all =
    let first : is_digit digit ≡ true = search (rules, tests) in
    rw (first, are_digits digits all.1) refl

both : (x y : Bool) → x && y ≡ true → (x ≡ true) × (y ≡ true)
both true y is = (refl, is)
both false y is = cc

all_digits : (digits : List ℕ) → list_all is_digit digits ≡ true → AllDigits 10 digits
all_digits [] are = tt
all_digits (digit ∷ digits) are =
    let each = both (is_digit digit) (list_all is_digit digits) are in
    let first : is_digit digit ≡ true = each.0 in
    let less : digit_value digit < 10 = search (rules, tests) in
    (less, all_digits digits each.1)

chosen : (x y z : Bool) (value : Option ℕ) → x ≡ true → y ≡ true → z ≡ true
    → (if x && y && z then value else None) ≡ value
chosen x y z value is_x is_y is_z = rw (is_x, is_y, is_z) refl

not_chosen : (x y z : Bool) (value : Option ℕ) → (x ≡ true → y ≡ true → z ≡ true → ⊥)
    → (if x && y && z then value else None) ≡ None
not_chosen true true true value never = absurd (never refl refl refl)
not_chosen true true false value never = refl
not_chosen true false z value never = refl
not_chosen false y z value never = refl

pub limited : (word : Word) → IsNumeral 10 (without_leading_plus word)
    → digits_value 10 (without_leading_plus word) ≤ 1000000000000000
    → limit_of word ≡ Some (digits_value 10 (without_leading_plus word))
unfolding limit_of
limited word numeral small =
    let digits = without_leading_plus word in
    let some : 0 < length digits = numeral.0 in
    chosen _ _ _ _ (search (rules, tests)) (are_digits digits numeral.1) (search (rules, tests))

pub unlimited : (word : Word) → (IsNumeral 10 (without_leading_plus word)
    → digits_value 10 (without_leading_plus word) ≤ 1000000000000000 → ⊥) → limit_of word ≡ None
unfolding limit_of
unlimited word never =
    let digits = without_leading_plus word in
    not_chosen _ _ _ _ (λ some are small.
    let is_some : 0 < length digits = search (rules, tests) in
    let is_small : digits_value 10 digits ≤ 1000000000000000 = search (rules, tests) in
    never (is_some, all_digits digits are) is_small)

-- ---- arguments

-- what is separated so far, with the remaining arguments, is the whole
pub record IsPartway (words rest : List Word) (arguments : Arguments) : Type 0 where
  pub operands : all_operands arguments rest ≡ operands_from false words
  pub options : all_options arguments rest ≡ options_from false words

ends_as : (given : List Word) (is_ended : Bool) (some none : List Word) → none ≡ []
    → given ++ (if is_ended then [] else none) ≡ some → given ≡ some
ends_as given true some none is_none all = sym (append-nil given) ∙ all
ends_as given false some none is_none all =
    sym (append-nil given) ∙ (ap (λ l. given ++ l) (sym is_none) ∙ all)

pub separated : {words : List Word} {arguments : Arguments} → IsPartway words [] arguments
    → AreArguments words arguments
separated {words} {arguments} partway = record {
  operands = ends_as (texts arguments.operands.items) arguments.is_ended
      (operands_from false words) (operands_from arguments.is_value []) refl partway.operands;
  options = ends_as (texts arguments.options.items) arguments.is_ended (options_from false words)
      (options_from arguments.is_value []) refl partway.options;
}

pub none_yet : (words : List Word) (arguments : Arguments) → arguments.operands.items ≡ []
    → arguments.options.items ≡ [] → arguments.is_value ≡ false → arguments.is_ended ≡ false
    → IsPartway words words arguments
none_yet words arguments no_operands no_options no_value going = record {
  operands = rw (no_operands, no_value, going) refl;
  options = rw (no_options, no_value, going) refl;
}

pub one_more : {words rest : List Word} {word : Word} {old new : Arguments}
    → IsPartway words (word ∷ rest) old → IsAdded old word new → IsPartway words rest new
one_more {rest = rest} partway added = record {
  operands = added.operands rest ∙ partway.operands;
  options = added.options rest ∙ partway.options;
}

pub next_word : (words : List (String Global)) (i : ℕ) (word : String Global) → i < length words
    → word ≡ get_or words i word
    → map string_bytes (drop i words) ≡ string_bytes word ∷ map string_bytes (drop (i + 1) words)
next_word words i word less is =
    rw (add-one, drop-cons words i word, ← is) refl

-- the next argument is separated; and the last was
pub next_added : (words : List (String Global)) (i : ℕ) (word : String Global) (bytes : Word)
    (old new : Arguments) → i < length words → word ≡ get_or words i word
    → bytes ≡ string_bytes word
    → IsPartway (map string_bytes words) (map string_bytes (drop i words)) old
    → IsAdded old bytes new
    → IsPartway (map string_bytes words) (map string_bytes (drop (i + 1) words)) new
next_added words i word bytes old new less is same partway added =
    let list = next_word words i word less is in
    one_more (subst (λ rest. IsPartway (map string_bytes words) rest old) list partway)
    (subst (λ b. IsAdded old b new) same added)

pub all_added : (words : List (String Global)) (i : ℕ) (arguments : Arguments) → length words ≤ i
    → IsPartway (map string_bytes words) (map string_bytes (drop i words)) arguments
    → AreArguments (map string_bytes words) arguments
all_added words i arguments past partway =
    let none : drop i words ≡ [] = drop_all i words past in
    separated (subst (λ rest. IsPartway (map string_bytes words) (map string_bytes rest) arguments)
    none partway)

-- ---- the numbers of parts

-- some numbers, with those of the remaining arguments, are those of all
abbrev pub ArePartsSoFar : List (Bor Word) → ℕ → List ℕ → Type 0
ArePartsSoFar words i some =
    option_map (λ more. some ++ more) (parts_of (texts (drop i words))) ≡ parts_of (texts words)

next_text : (words : List (Bor Word)) (i : ℕ) (word : Bor Word) → i < length words
    → word ≡ get_or words i word → texts (drop i words) ≡ word.now ∷ texts (drop (i + 1) words)
next_text words i word less is = rw (add-one, drop-cons words i word, ← is) refl

none_before : (rest : Option (List ℕ)) → option_map (λ more. [] ++ more) rest ≡ rest
none_before None = refl
none_before (Some more) = refl

one_before : (some : List ℕ) (part : ℕ) (rest : Option (List ℕ))
    → option_map (λ more. (some ++ part ∷ []) ++ more) rest
    ≡ option_map (λ more. some ++ more) (option_map (λ more. part ∷ more) rest)
one_before some part None = refl
one_before some part (Some more) = ap Some (append_assoc some (part ∷ []) more)

pub parts_start : (words : List (Bor Word)) (some : List ℕ) → some ≡ [] → ArePartsSoFar words 0 some
parts_start words some none = rw none (none_before (parts_of (texts words)))

pub parts_more : (words : List (Bor Word)) (i : ℕ) (word : Bor Word) (some : List ℕ) (part : ℕ)
    → i < length words → word ≡ get_or words i word → part_of word.now ≡ Some part
    → ArePartsSoFar words i some → ArePartsSoFar words (i + 1) (some ++ part ∷ [])
parts_more words i word some part less is of_word so_far =
    let before : option_map (λ more. some ++ more)
    (option_map (λ more. part ∷ more) (parts_of (texts (drop (i + 1) words))))
    ≡ parts_of (texts words) = rw (next_text words i word less is, of_word) at so_far in
    one_before some part (parts_of (texts (drop (i + 1) words))) ∙ before

pub parts_none : (words : List (Bor Word)) (i : ℕ) (word : Bor Word) (some : List ℕ)
    → i < length words → word ≡ get_or words i word → part_of word.now ≡ None
    → ArePartsSoFar words i some → None ≡ parts_of (texts words)
parts_none words i word some less is of_word so_far =
    rw (next_text words i word less is, of_word) at so_far

pub parts_end : (words : List (Bor Word)) (i : ℕ) (some : List ℕ) → length words ≤ i
    → ArePartsSoFar words i some → Some some ≡ parts_of (texts words)
parts_end words i some past so_far =
    ap Some (sym (append-nil some)) ∙ (rw (drop_all i words past) at so_far)
