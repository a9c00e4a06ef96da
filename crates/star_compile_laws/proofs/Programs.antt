-- A compiled plan is a program: within the limits, of a report that is there, and one that a text
-- spells.
use Rattle.std.{proofs.Common.{◌≡◌, ℕ, zero, suc, ◌+◌, ◌≤◌, ◌<◌, Bool, true, false, ◌||◌, ◌==◌, List, [], ◌∷◌, ◌++◌, length, map, Option, Some, None, All, refl, ap, ◌∙◌, arith}, specs.Prelude.{nat_lt, nat_le, slice_index_or, if◌then◌else◌}, specs.Int.is_in_range, specs.List.list_all, proofs.lemmas.Bool.{and_parts, and_from, or_right, lt-ltb, ltb-true, le-leb}, proofs.lemmas.List.length-map, proofs.lemmas.List.Elements.{All-nil, All-cons, All-append, All-map}, proofs.lemmas.List.Folds.list_all-append, proofs.lemmas.Grind.common_steps}
use Rattle.star_schema.specs.{declared.column.ColumnId.ColumnId, declared.column.ColumnId.TheVariants.DDatekey, declared.group.GroupColumn.GroupColumn, declared.group.SortKey.SortKey, Schema.{column_name, column_of}}
use Rattle.star_schema.specs.declared.group.GroupColumn.TheVariants as group
use Rattle.star_query.specs.Tokens.{begins_with_letter, is_word_byte}
use Rattle.star_query.specs.Spelled as asked
use Rattle.star_plan.specs.{Meaning.aggregate_of, Meaning.Plan, Limits.IsPlanWithinLimits, Sound.IsSoundPlan, Sound.is_group_column, Spelled.IsSpelledPlan}
use Rattle.star_program.specs.{declared.group.GroupDecl.GroupDecl, declared.program.Show.Show, Code.{code_size, Code, Stop, Then, Each}, Limits.{IsSmall, IsWithinLimits}, Text.Numerals.{is_show_name, is_name_byte}, Text.Spellable.{IsKey, IsShortColumn, IsSayable, IsSpellable}, ShowLines.{has_column, first_unshown, named_columns, reports, shown_fault}, Text.Statements.{Line, line, lines_of_code, show_line, sort_line, lines_of_program}}
use Rattle.star_program.specs.declared.group.GroupKey.TheVariants as key
use Rattle.star_program.specs.declared.spelling.statement.Statement.TheVariants as says
use Rattle.star_compile_laws.{specs.Compiled.{compiled, body_code, turn_code, plan_group, key_of_group, plan_show}, proofs.Flat.{turn_is_flat, flat_depth}, proofs.Sizes.{body_size, registers_size}, proofs.Sayable.{Spelled, turn_spelled}}
use Rattle.star_query_meaning.specs.Answers.{shown_name}

-- ---- limits

small : (p : Plan) → IsPlanWithinLimits p → IsSmall (plan_group p)
small p l = grind (arith, common_steps, length-map)

pub is_short : (p : Plan) → IsPlanWithinLimits p → code_size (compiled p).body ≤ 2578
is_short p l = omega (arith, body_size p, l.comparisons, l.keys, l.operands)

pub is_within_limits : (p : Plan) → IsPlanWithinLimits p → IsWithinLimits (compiled p)
is_within_limits p l =
    grind (arith, common_steps, is_short, flat_depth, turn_is_flat, registers_size, small)

-- ---- the report

first_by : (b : Bool) (n : ℕ) (o : Option ℕ) → b ≡ true → o ≡ None
    → (if b then o else Some n) ≡ None
first_by true n o e h = h
first_by false n o e h = absurd (cc)

none_unshown : (d : GroupDecl) (n : ℕ) (cs : List GroupColumn) → list_all (has_column d) cs ≡ true
    → first_unshown d n cs ≡ None
none_unshown d n [] h = refl
none_unshown d n (c ∷ cs) h =
    let hs = and_parts (has_column d c) (list_all (has_column d) cs) h in
    first_by (has_column d c) n (first_unshown d (n + 1) cs) hs.0 (none_unshown d (n + 1) cs hs.1)

has_same : (p : Plan) (c : GroupColumn)
    → has_column (plan_group p) c ≡ is_group_column (length p.keys) (length p.measures) c
has_same p (group.Key n) = ap (nat_lt n) (length-map p.keys key_of_group)
has_same p (group.Aggregate n) = ap (nat_lt n) (length-map p.measures aggregate_of)

abbrev is_there : Plan → GroupColumn → Bool
is_there p c = is_group_column (length p.keys) (length p.measures) c

abbrev column_of_show : Show → GroupColumn
column_of_show show = show.column

abbrev column_of_sort : SortKey → GroupColumn
column_of_sort sort = sort.column

shows_there : (p : Plan) (cs : List GroupColumn) → list_all (is_there p) cs ≡ true
    → list_all (has_column (plan_group p)) (map column_of_show (map (plan_show p) cs)) ≡ true
shows_there p [] h = refl
shows_there p (c ∷ cs) h =
    let parts = and_parts (is_there p c) (list_all (is_there p) cs) h in
    and_from _ _ (has_same p c ∙ parts.0) (shows_there p cs parts.1)

sorts_there : (p : Plan) (ss : List SortKey) → list_all (λ s. is_there p s.column) ss ≡ true
    → list_all (has_column (plan_group p)) (map column_of_sort ss) ≡ true
sorts_there p [] h = refl
sorts_there p (s ∷ ss) h =
    let parts = and_parts (is_there p s.column) (list_all (λ s. is_there p s.column) ss) h in
    and_from _ _ (has_same p s.column ∙ parts.0) (sorts_there p ss parts.1)

pub shows_what_is_there : (p : Plan) → IsSoundPlan p → shown_fault (compiled p) ≡ None
shows_what_is_there p sound =
    let shows = map (plan_show p) p.items in
    let some : 0 < length shows = omega (arith, length-map p.items (plan_show p), sound.shown) in
    let there =
    and_from _ _ (shows_there p p.items sound.items) (sorts_there p p.sorts sound.sorts) in
    first_by (reports (compiled p)) 0 (first_unshown (plan_group p) 1 (named_columns (compiled p)))
    (lt-ltb 0 (length shows) some)
    (none_unshown (plan_group p) 1 (named_columns (compiled p))
    (list_all-append (has_column (plan_group p)) (map column_of_show shows)
    (map column_of_sort p.sorts) ∙ there))

-- ---- names

turned : (a b c d : Bool) → (((b || c) || d) || a) ≡ true → (((a || b) || c) || d) ≡ true
turned it b c d h = grind (arith, common_steps, or_right)

named : (bs : List ℕ) → list_all is_word_byte bs ≡ true → list_all is_name_byte bs ≡ true
named [] h = refl
named (b ∷ bs) h =
    let hs = and_parts (is_word_byte b) (list_all is_word_byte bs) h in
    and_from _ _
    (turned (is_in_range 48 57 b) (is_in_range 65 90 b) (is_in_range 97 122 b) (b == 95) hs.0)
    (named bs hs.1)

filled : (bs : List ℕ) → begins_with_letter bs ≡ true → nat_le 1 (length bs) ≡ true
filled [] h = absurd (cc)
filled (b ∷ bs) h = le-leb 1 (length (b ∷ bs)) (omega arith)

name_said : (bs : List ℕ) → asked.is_name bs ≡ true → is_show_name bs ≡ true
unfolding asked.is_name is_show_name
name_said bs h = grind (arith, common_steps, and_parts, and_from, filled, named)

column_named : (c : ColumnId) → is_show_name (column_name c) ≡ true
unfolding column_of is_show_name
column_named DDatekey = refl
column_named _ = refl

at_position : {A : Type 0} (test : A → Bool) (xs : List A) (n : ℕ) (d : A) → list_all test xs ≡ true
    → n < length xs → test (slice_index_or xs n d) ≡ true
at_position test [] n d h below = absurd (omega arith)
at_position test (x ∷ xs) zero d h below = (and_parts (test x) (list_all test xs) h).0
at_position test (x ∷ xs) (suc n) d h below =
    at_position test xs n d (and_parts (test x) (list_all test xs) h).1 (omega arith)

shown_named : (p : Plan) → IsSoundPlan p → IsSpelledPlan p → (c : GroupColumn)
    → is_group_column (length p.keys) (length p.measures) c ≡ true
    → is_show_name (shown_name p c) ≡ true
shown_named p sound spelled it h =
    grind (arith, common_steps, column_named, ltb-true, name_said, at_position)

-- ---- statements

key_said : (c : ColumnId) → IsKey (key_of_group c)
key_said c = grind (arith, common_steps)

keys_said : (cs : List ColumnId) → All IsKey (map key_of_group cs)
keys_said [] = All-nil IsKey
keys_said (c ∷ cs) =
    All-cons IsKey (key_of_group c) (map key_of_group cs) (key_said c) (keys_said cs)

abbrev Says : Line → Type 0
Says l = IsSayable l.says

short_column : (p : Plan) → IsPlanWithinLimits p → (c : GroupColumn)
    → is_group_column (length p.keys) (length p.measures) c ≡ true → IsShortColumn c
short_column p l (group.Key n) h = omega (arith, ltb-true n (length p.keys) h, l.keys)
short_column p l (group.Aggregate n) h = omega (arith, ltb-true n (length p.measures) h, l.measures)

shows_said : (p : Plan) → IsPlanWithinLimits p → IsSoundPlan p → IsSpelledPlan p
    → (cs : List GroupColumn) → list_all (is_there p) cs ≡ true
    → All Says (map show_line (map (plan_show p) cs))
shows_said p l sound spelled [] h = All-nil Says
shows_said p l sound spelled (c ∷ cs) h =
    let parts = and_parts (is_there p c) (list_all (is_there p) cs) h in
    All-cons Says (show_line (plan_show p c)) (map show_line (map (plan_show p) cs))
    (shown_named p sound spelled c parts.0, short_column p l c parts.0)
    (shows_said p l sound spelled cs parts.1)

sorts_said : (p : Plan) → IsPlanWithinLimits p → (ss : List SortKey)
    → list_all (λ s. is_there p s.column) ss ≡ true → All Says (map sort_line ss)
sorts_said p l [] h = All-nil Says
sorts_said p l (s ∷ ss) h =
    let parts = and_parts (is_there p s.column) (list_all (λ s. is_there p s.column) ss) h in
    All-cons Says (sort_line s) (map sort_line ss) (short_column p l s.column parts.0)
    (sorts_said p l ss parts.1)

code_said : (n : ℕ) (c : Code) → Spelled c → All Says (lines_of_code n c)
unfolding lines_of_code
code_said n Stop h = All-nil Says
code_said n (Then o rest) h =
    All-cons Says (line n (says.Act o)) (lines_of_code n rest) h.0 (code_said n rest h.1)
code_said n (Each t r body rest) h = absurd h

body_said : (p : Plan) → Spelled (turn_code p) → All Says (lines_of_code 0 (body_code p))
unfolding lines_of_code
body_said p h = grind (arith, common_steps, code_said)

pub is_spellable : (p : Plan) → IsPlanWithinLimits p → IsSoundPlan p → IsSpelledPlan p
    → IsSpellable (compiled p)
is_spellable p l sound spelled =
    let limits = is_within_limits p l in
    let few = limits.registers in
    let turn = turn_spelled p spelled (omega arith) in
    let header = line 0 says.Header in
    let registers = line 0 (says.Registers (compiled p).registers) in
    let group = line 0 (says.Group 0 (plan_group p)) in
    let body = lines_of_code 0 (body_code p) in
    let report = line 0 (says.Report 0) in
    let shows = map show_line (map (plan_show p) p.items) in
    let sorts = map sort_line p.sorts in
    All-map IsSayable (λ (l : Line). l.says) (lines_of_program (compiled p))
    (All-cons Says header (registers ∷ group ∷ (body ++ report ∷ (shows ++ sorts))) tt
    (All-cons Says registers (group ∷ (body ++ report ∷ (shows ++ sorts))) (omega arith)
    (All-cons Says group (body ++ report ∷ (shows ++ sorts)) (omega arith, keys_said p.keys)
    (All-append Says body (report ∷ (shows ++ sorts)) (body_said p turn)
    (All-cons Says report (shows ++ sorts) (omega arith)
    (All-append Says shows sorts (shows_said p l sound spelled p.items sound.items)
    (sorts_said p l p.sorts sound.sorts)))))))
