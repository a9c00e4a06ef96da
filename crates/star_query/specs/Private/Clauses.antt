-- The parser's functions on the clauses of a query, by the machine.
use Rattle.std.specs.{Prelude.{◌≡◌, ℕ, Bool, List, [], ◌∷◌, map, Option, Some, None, option_map, Result, Ok, Err}, declared.alloc.Global.Global, declared.vec.Vec.Vec}
use Rattle.star_query.specs.{declared.token.Fold.Fold, declared.counts.Part.Part, declared.fault.Fault.TheVariants.TooMany, declared.fault.ParseError.ParseError, declared.clauses.Function.Function, declared.tree.Name.Name, declared.tree.Test.Test, declared.tree.Condition.Condition, declared.tree.Measure.Measure, declared.tree.Aggregate.Aggregate, declared.tree.Item.Item, declared.tree.Grouping.Grouping, declared.tree.SortKey.SortKey, declared.tree.Tree.Tree, Symbols.{Symbol, fold, count, sign}, Private.Phrases.{Several, Expr, Agg, folded, counted, Key, Hiding, Groups, hiding, Query, expr_tree, cond_tree, agg_tree, item_tree, key_tree, listed, names, groups_tree, keys_tree, query_tree}, Private.Machine.{extended, Filtered, Grouped, filtered_by, grouped_by, query_of, ParserState, begin, item_wanted, fold_named, count_named, agg_had, items_had, table_wanted, tables_had, filtered_had, by_had, hiding_had, column_wanted, columns_had, grouped_had, key_wanted, keys_had, done, Whole}, Views.{name_view, condition_view, measure_view, aggregate_view, item_view, grouping_view, sort_key_view, tree_view}, Private.Reads.{Spot, No, verdict, EndsBad, Takes, IsBeyond, ReadsPhrase}}
use Rattle.star_query.specs.declared.token.Sign.TheVariants as s
use Rattle.star_query.specs.declared.counts.Part.TheVariants as part
use Rattle.star_query.specs.declared.fault.ParseError.TheVariants as errors
use Rattle.star_schema.specs.declared.group.Shape.{Shape}
use Rattle.star_query.specs.Tree as tree
use Rattle.star_query.specs.Private.Phrases as grammar

abbrev pub function_symbol : Function → Symbol
function_symbol f = by_fold f.fold
  where
    by_fold : Option Fold → Symbol
    by_fold (Some q) = fold q f.offset
    by_fold None = count f.offset

abbrev pub NoFunction : List Symbol → Type 0
NoFunction (fold f p ∷ xs) = ⊥
NoFunction (count p ∷ xs) = ⊥
NoFunction xs = Unit {0}

abbrev pub IsFunction : List Symbol → Type 0
IsFunction (fold f p ∷ xs) = Unit {0}
IsFunction (count p ∷ xs) = Unit {0}
IsFunction xs = ⊥

abbrev pub function_parts : List Part
function_parts = part.Item ∷ part.Aggregate ∷ []

abbrev pub ReadsFunction : Spot → Spot → Result (Option Function) ParseError → Type 0
ReadsFunction old new (Ok (Some f)) = Takes old new (function_symbol f) function_parts
ReadsFunction old new (Ok None) = NoFunction old.rest × (new ≡ old)
ReadsFunction old new (Err (errors.Fault TooMany)) = IsBeyond function_parts old.counts old.rest
    × IsFunction old.rest × (new.rest ≡ old.rest)
ReadsFunction old new (Err e) = ⊥

-- the word of a function was read
abbrev pub function_named : Option (Several grammar.Item) → Function → ParserState
function_named b f = by_fold f.fold
  where
    by_fold : Option Fold → ParserState
    by_fold (Some q) = fold_named b q f.offset
    by_fold None = count_named b f.offset

abbrev pub Anywhere : {H : Type 0} → H → Type 0
Anywhere h = Unit {0}

abbrev pub ReadsFolded : Fold → Spot → Spot → Result (Measure Name) ParseError → Type 0
ReadsFolded f =
    ReadsPhrase {P = Expr}
    {H = Option (Several grammar.Item) × ℕ} measure_view
    (λ e. tree.fold f (expr_tree e)) Anywhere (λ h. fold_named h.0 f h.1)
    (λ e h. agg_had h.0 (folded f h.1 e))

abbrev pub ReadsCounted : Spot → Spot → Result (Measure Name) ParseError → Type 0
ReadsCounted =
    ReadsPhrase {P = Unit {0}}
    {H = Option (Several grammar.Item) × ℕ} measure_view (λ u. tree.count) Anywhere
    (λ h. count_named h.0 h.1) (λ u h. agg_had h.0 (counted h.1))

abbrev pub unnamed : ℕ → Measure Name → tree.Aggregate
unnamed offset m = record { measure = measure_view m; offset = offset; name = None }

abbrev pub ReadsMeasure : Function → Spot → Spot → Result (Measure Name) ParseError → Type 0
ReadsMeasure f =
    ReadsPhrase {P = Agg} {H = Option (Several grammar.Item)} (unnamed f.offset)
    (λ a. agg_tree a None) Anywhere (λ b. function_named b f) (λ a b. agg_had b a)

abbrev pub ReadsAlias : Spot → Spot → Result (Option Name) ParseError → Type 0
ReadsAlias =
    ReadsPhrase {P = Option tree.Name} {H = Option (Several grammar.Item) × Agg}
    (option_map name_view) (λ p. p) Anywhere (λ h. agg_had h.0 h.1)
    (λ p h. items_had (extended h.0 (grammar.aggregate h.1 p)))

abbrev pub ReadsAggregate : Function → Spot → Spot → Result Aggregate ParseError → Type 0
ReadsAggregate f =
    ReadsPhrase {P = grammar.Item} {H = Option (Several grammar.Item)}
    (λ a. tree.aggregate (aggregate_view a)) item_tree Anywhere (λ b. function_named b f)
    (λ i b. items_had (extended b i))

abbrev pub ReadsItem : Spot → Spot → Result Item ParseError → Type 0
ReadsItem =
    ReadsPhrase {P = grammar.Item}
    {H = Option (Several grammar.Item)} item_view item_tree Anywhere item_wanted
    (λ i b. items_had (extended b i))

abbrev pub NoComma : Spot → Type 0
NoComma spot = No (sign s.Comma) spot

abbrev pub ReadsItems : Spot → Spot → Result (Vec Item Global) ParseError → Type 0
ReadsItems =
    ReadsPhrase {P = Several grammar.Item} {H = Unit {0}} (λ v. map item_view v.items)
    (listed item_tree) Anywhere (λ u. item_wanted None) (λ is u. items_had is)

abbrev pub ReadsTable : Spot → Spot → Result Name ParseError → Type 0
ReadsTable =
    ReadsPhrase {P = tree.Name}
    {H = Several grammar.Item × Option (Several tree.Name)} name_view (λ n. n) Anywhere
    (λ h. table_wanted h.0 h.1) (λ n h. tables_had h.0 (extended h.1 n))

abbrev pub ReadsTables : Spot → Spot → Result (Vec Name Global) ParseError → Type 0
ReadsTables =
    ReadsPhrase {P = Several tree.Name} {H = Several grammar.Item}
    (λ v. map name_view v.items) names Anywhere (λ is. table_wanted is None)
    (λ ts is. tables_had is ts)

abbrev pub ReadsFilter : Spot → Spot → Result (Option (Condition Test)) ParseError → Type 0
ReadsFilter =
    ReadsPhrase {P = Option grammar.Cond} {H = Several grammar.Item × Several tree.Name}
    (option_map condition_view) (option_map cond_tree) Anywhere (λ h. tables_had h.0 h.1)
    (λ c h. filtered_had (filtered_by h.0 h.1 c))

abbrev pub ReadsColumn : Spot → Spot → Result Name ParseError → Type 0
ReadsColumn =
    ReadsPhrase {P = tree.Name}
    {H = (Filtered × Option Hiding) × Option (Several tree.Name)} name_view (λ n. n) Anywhere
    (λ h. column_wanted h.0.0 h.0.1 h.1) (λ n h. columns_had h.0.0 h.0.1 (extended h.1 n))

abbrev pub ReadsColumns : Spot → Spot → Result (Vec Name Global) ParseError → Type 0
ReadsColumns =
    ReadsPhrase {P = Several tree.Name} {H = Filtered × Option Hiding}
    (λ v. map name_view v.items) names Anywhere (λ h. column_wanted h.0 h.1 None)
    (λ is h. columns_had h.0 h.1 is)

-- ( names ), after the word of this shape
abbrev pub ReadsHidden : Shape → Spot → Spot → Result Grouping ParseError → Type 0
ReadsHidden shape =
    ReadsPhrase {P = Several tree.Name}
    {H = Filtered × Hiding} grouping_view (λ is.
    record { shape = shape; columns = names is }) Anywhere (λ h. hiding_had h.0 h.1)
    (λ is h. grouped_had (grouped_by h.0 (hiding h.1 is)))

abbrev pub ReadsGroups : Spot → Spot → Result Grouping ParseError → Type 0
ReadsGroups =
    ReadsPhrase {P = Groups}
    {H = Filtered} grouping_view groups_tree Anywhere by_had
    (λ g f. grouped_had (grouped_by f g))

abbrev pub ReadsGrouping : Spot → Spot → Result Grouping ParseError → Type 0
ReadsGrouping =
    ReadsPhrase {P = Groups}
    {H = Filtered} grouping_view groups_tree Anywhere filtered_had
    (λ g f. grouped_had (grouped_by f g))

abbrev pub ReadsKey : Spot → Spot → Result SortKey ParseError → Type 0
ReadsKey =
    ReadsPhrase {P = Key} {H = Grouped × Option (Several Key)} sort_key_view key_tree Anywhere
    (λ h. key_wanted h.0 h.1) (λ k h. keys_had h.0 (extended h.1 k))

abbrev pub ReadsKeyList : Spot → Spot → Result (Vec SortKey Global) ParseError → Type 0
ReadsKeyList =
    ReadsPhrase {P = Several Key} {H = Grouped} (λ v. map sort_key_view v.items)
    (listed key_tree) Anywhere (λ g. key_wanted g None) (λ ks g. keys_had g ks)

abbrev pub ReadsKeys : Spot → Spot → Result (Vec SortKey Global) ParseError → Type 0
ReadsKeys =
    ReadsPhrase {P = Option (Several Key)} {H = Grouped}
    (λ v. map sort_key_view v.items) keys_tree Anywhere grouped_had (λ ks g. done g ks)

abbrev pub ReadsEnd : {A : Type 0} → Spot → Spot → Result A ParseError → Type 0
ReadsEnd old new (Ok u) = (end : Bool)
    × ((g : Grouped) (ks : Option (Several Key))
    → verdict old (done g ks) ≡ Whole (query_of g ks end))
ReadsEnd old new (Err e) = (g : Grouped) (ks : Option (Several Key))
    → EndsBad e new (verdict old (done g ks))

abbrev pub ReadsQuery : Spot → Spot → Result Tree ParseError → Type 0
ReadsQuery old new (Ok t) = (q : Query) × (query_tree q ≡ tree_view t)
    × (verdict old begin ≡ Whole q)
ReadsQuery old new (Err e) = EndsBad e new (verdict old begin)
