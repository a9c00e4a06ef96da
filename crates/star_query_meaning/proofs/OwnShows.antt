-- What a query shows by its own words is what its plan shows.
use Rattle.std.{proofs.Common.{◌≡◌, ◌∙◌, ℕ, zero, suc, ◌+◌, ◌<◌, List, [], ◌∷◌, ◌++◌, Some, get_or, length, map, nat_eq, refl, sym, ap, arith}, specs.Cmp.Lexicographic.{pointwise, same_text}, specs.List.{flat_map, position}, specs.Option.option_to_list, proofs.lemmas.List.Quantifiers.position-Some}
use Rattle.star_schema.{specs.declared.column.ColumnId.ColumnId, specs.declared.column.ColumnId.TheVariants.DDatekey, specs.declared.column.TheConstants.COLUMNS, specs.declared.group.GroupColumn.GroupColumn, specs.Schema.column_name, proofs.NamesApart.found_named}
use Rattle.star_schema.specs.declared.group.GroupColumn.TheVariants as group
use Rattle.star_schema.specs.declared.group.SortKey as sorted
use Rattle.star_query.specs.{declared.token.Fold.Fold, Tree.Expression, Tree.Item, Tree.Measure, Tree.Name, Tree.SortKey, Tree.Tree}
use Rattle.star_query.specs.declared.token.Fold.TheVariants as fold
use Rattle.star_query.specs.Tree as tree
use Rattle.star_plan.specs.Meaning as plan
use Rattle.star_plan.{specs.Meaning.{Joined, Plan, joined_value}, specs.Names.{column_at, column_called}, specs.Resolved.{items_from, option_all, resolved_expression, resolved_measure}, specs.Naming.{name_of_aggregate, aggregate_names, names_from, key_column, resolved_key}, proofs.Options.{both_gave, mapped_all, mapped_gave}, proofs.Related.expression_related}
use Rattle.star_query_meaning.{specs.Answers.shown_name, specs.Rows.{measures_of, value_named}, specs.Shows.{columns_from, item_names_from}, proofs.OwnConditions.named}

-- ---- the values of a row

pub keys_same : (names : List Name) (cs : List ColumnId) (row : Joined)
    → option_all column_at names ≡ Some cs
    → map (λ n. value_named n row) names ≡ map (λ c. joined_value c row) cs
keys_same names cs row = mapped_all column_at (λ n. value_named n row) (λ c. joined_value c row)
    (λ n c h. named n c row h) names cs

expression_same : (e : Expression Name) (x : Expression ColumnId) (row : Joined)
    → resolved_expression e ≡ Some x
    → plan.number_with (λ n. value_named n row) e ≡ plan.number_with (λ c. joined_value c row) x
expression_same e x row =
    expression_related (λ a b. a ≡ b) (λ n. plan.value_number (value_named n row))
    (λ c. plan.value_number (joined_value c row)) (λ z. z) (λ op. op)
    (λ n c h. ap plan.value_number (named n c row h)) (λ k. refl) (λ op a b c d l r. cc) e x

measure_same : (m : Measure Name) (x : Measure ColumnId) (row : Joined)
    → resolved_measure m ≡ Some x
    → plan.measured (λ n. value_named n row) m ≡ plan.measured (λ c. joined_value c row) x
measure_same it x row e = grind (arith, mapped_gave, expression_same)

folded_function : (f : Fold) (e : Expression Name) (x : Expression ColumnId)
    → plan.aggregate_of (tree.fold f e) ≡ plan.aggregate_of (tree.fold f x)
folded_function fold.Sum e x = refl
folded_function fold.Min e x = refl
folded_function fold.Max e x = refl

function_same : (m : Measure Name) (x : Measure ColumnId) → resolved_measure m ≡ Some x
    → plan.aggregate_of m ≡ plan.aggregate_of x
function_same it x e = grind (arith, mapped_gave, folded_function)

pub values_same : (items : List Item) (ms : List (Measure ColumnId)) (row : Joined)
    → option_all resolved_measure (measures_of items) ≡ Some ms
    → map (plan.measured (λ n. value_named n row)) (measures_of items)
    ≡ map (plan.measured (λ c. joined_value c row)) ms
values_same items ms row = grind (arith, mapped_all, measure_same)

pub functions_same : (items : List Item) (ms : List (Measure ColumnId))
    → option_all resolved_measure (measures_of items) ≡ Some ms
    → map plan.aggregate_of (measures_of items) ≡ map plan.aggregate_of ms
functions_same items ms =
    mapped_all resolved_measure plan.aggregate_of plan.aggregate_of function_same
    (measures_of items) ms

-- ---- the columns that are shown

pub columns_same : (groups : List Name) (before : ℕ) (items : List Item) (cs : List GroupColumn)
    → items_from groups before items ≡ Some cs → columns_from groups before items ≡ cs
columns_same groups before [] cs e = cc
columns_same groups before (tree.plain n ∷ items) cs e =
    let g = both_gave (λ c cs. c ∷ cs) (key_column groups n.text)
    (items_from groups before items) cs e in
    (λ i. option_to_list (g.first i) ++ columns_same groups before items g.right g.second i)
    ∙ g.made
columns_same groups before (tree.aggregate a ∷ items) cs e =
    let g = both_gave (λ c cs. c ∷ cs) (Some (group.Aggregate before))
    (items_from groups (before + 1) items) cs e in
    let first : group.Aggregate before ≡ g.left = (let h = g.first in cc) in
    (λ i. first i ∷ columns_same groups (before + 1) items g.right g.second i) ∙ g.made

-- ---- names

-- the column at a position
column_there : (names : List Name) (cs : List ColumnId) (index : ℕ) (n : Name) (c : ColumnId)
    → option_all column_at names ≡ Some cs → index < length names
    → column_at (get_or names index n) ≡ Some (get_or cs index c)
column_there [] cs index n c e h = absurd (omega arith)
column_there (m ∷ ms) cs zero n c e h =
    let g = both_gave (λ y ys. y ∷ ys) (column_at m) (option_all column_at ms) cs e in
    g.first ∙ ap (λ ds. Some (get_or ds 0 c)) g.made
column_there (m ∷ ms) cs (suc index) n c e h =
    let g = both_gave (λ y ys. y ∷ ys) (column_at m) (option_all column_at ms) cs e in
    column_there ms g.right index n c g.second (omega arith)
    ∙ ap (λ ds. Some (get_or ds (suc index) c)) g.made

column_named : (n : Name) (c : ColumnId) → column_at n ≡ Some c → column_name c ≡ n.text
unfolding column_called
column_named n c e = found_named column_name n.text COLUMNS c e

-- a group column is shown under the name that stands in SELECT
key_shown : (groups : List Name) (cs : List ColumnId) (text : List ℕ) (index : ℕ)
    → option_all column_at groups ≡ Some cs
    → position (λ n. pointwise nat_eq n.text text) groups ≡ Some index
    → text ≡ column_name (get_or cs index DDatekey)
key_shown [] cs text index e h = absurd (cc)
key_shown (g ∷ gs) cs text index e h =
    let found = position-Some (λ n. pointwise nat_eq n.text text) (g ∷ gs) index g h in
    let there = column_there (g ∷ gs) cs index g DDatekey e found.0 in
    sym (column_named (get_or (g ∷ gs) index g) (get_or cs index DDatekey) there
    ∙ same_text (get_or (g ∷ gs) index g).text text (sym found.1))

-- the names that are shown, where these names of aggregates come last
pub names_same : (groups : List Name) (p : Plan) (before : ℕ) (items : List Item)
    (cs : List GroupColumn) → option_all column_at groups ≡ Some p.keys
    → items_from groups before items ≡ Some cs
    → ((k : ℕ) → get_or p.names (before + k) [] ≡ get_or (names_from (before + 1) items) k [])
    → item_names_from (before + 1) items ≡ map (shown_name p) cs
names_same groups p before [] cs keys e names = let none : [] ≡ cs = cc in
    ap (map (shown_name p)) none
names_same groups p before (tree.plain n ∷ items) cs keys e names =
    let g = both_gave (λ c cs. c ∷ cs) (key_column groups n.text)
    (items_from groups before items) cs e in
    let at = mapped_gave (λ index. group.Key index)
    (position (λ m. pointwise nat_eq m.text n.text) groups) g.left g.first in
    let rest = names_same groups p before items g.right keys g.second names in
    (λ i. (key_shown groups p.keys n.text at.0 keys at.1 ∙ ap (shown_name p) at.2) i ∷ rest i)
    ∙ ap (map (shown_name p)) g.made
names_same groups p before (tree.aggregate a ∷ items) cs keys e names =
    let g = both_gave (λ c cs. c ∷ cs) (Some (group.Aggregate before))
    (items_from groups (before + 1) items) cs e in
    let first : group.Aggregate before ≡ g.left = (let h = g.first in cc) in
    let here : before + 0 ≡ before = omega arith in
    let own : name_of_aggregate (before + 1) a ≡ get_or p.names before [] =
    sym (names 0) ∙ ap (λ k. get_or p.names k []) here in
    let rest = names_same groups p (before + 1) items g.right keys g.second
    (λ k. let next : before + 1 + k ≡ before + suc k = omega arith in
    ap (λ j. get_or p.names j []) next ∙ names (suc k)) in
    (λ i. (own ∙ ap (shown_name p) first) i ∷ rest i) ∙ ap (map (shown_name p)) g.made

-- ---- the order

pub sorts_same : (t : Tree) (ks : List SortKey) (ss : List sorted.SortKey)
    → option_all (resolved_key t.grouping.columns (aggregate_names t.items)) ks ≡ Some ss
    → flat_map (λ k. option_to_list (resolved_key t.grouping.columns (aggregate_names t.items) k))
    ks ≡ ss
sorts_same t [] ss e = cc
sorts_same t (k ∷ ks) ss e =
    let f = resolved_key t.grouping.columns (aggregate_names t.items) in
    let g = both_gave (λ y ys. y ∷ ys) (f k) (option_all f ks) ss e in
    (λ i. option_to_list (g.first i) ++ sorts_same t ks g.right g.second i) ∙ g.made
