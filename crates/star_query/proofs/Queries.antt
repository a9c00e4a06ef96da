-- The parser's functions on the clauses of a query go with the machine.
use Rattle.std.{proofs.Common.{◌≡◌, ◌∙◌, ℕ, ◌<◌, ◌≤◌, Bool, false, List, [], ◌∷◌, map, length, Option, Some, None, Result, Ok, Err, refl, sym, ap, subst, arith}, specs.Prelude.{OnOk, ◌==◌}, specs.Bool.{OnTrue, OnFalse}, specs.declared.alloc.Global.Global, specs.declared.vec.Vec.Vec}
use Rattle.star_query.{specs.declared.token.Fold.Fold, specs.declared.fault.Fault.TheVariants.Unexpected, specs.declared.fault.ParseError.ParseError, specs.declared.clauses.Function.Function, specs.declared.parser.Parser.Parser, specs.declared.token.Token.Token, specs.declared.tree.Name.Name, specs.declared.tree.Expression.Expression, specs.declared.tree.Test.Test, specs.declared.tree.Condition.Condition, specs.declared.tree.Measure.Measure, specs.declared.tree.Grouping.Grouping, specs.declared.tree.SortKey.SortKey, specs.declared.tree.Tree.Tree, specs.declared.counts.Part.Part, specs.Private.Lexed.symbol_of, specs.Symbols.{Symbol, keyword, sign, name}, specs.Private.Lists.{PassesComma, bad_along}, specs.Private.Phrases.{Several, Agg, folded, counted, Cond, lone_conj, or_conj, Key, unmarked, ascending, descending, grouped, hiding, at, first, ident, agg_tree, Hiding, cube, rollup, hiding_word, shape_of}, specs.Private.Machine.{extended, in_where, Filtered, Grouped, filtered_by, grouped_by, query_of, ParserState, item_wanted, fold_named, count_named, cond_had, agg_had, alias_wanted, items_had, table_wanted, tables_had, filtered_had, by_had, hiding_had, column_wanted, columns_had, grouped_had, key_wanted, key_named, keys_had, done, to, next_step, query_at_end, Bad}, specs.Views.{name_view, measure_view}, specs.Private.Reads.{Spot, spot_of, head_of, No, verdict, EndsBad, Takes, NoName, ReadsName, ReadsExpr, ReadsCond, NoLogic}, specs.Private.Clauses.{function_symbol, function_named, function_parts, ReadsFolded, ReadsCounted, ReadsMeasure, ReadsAlias, ReadsAggregate, ReadsItem, NoComma, ReadsItems, ReadsTable, ReadsTables, ReadsFilter, ReadsColumn, ReadsColumns, ReadsHidden, ReadsGroups, ReadsGrouping, ReadsKey, ReadsKeyList, ReadsKeys, ReadsEnd, ReadsQuery}, proofs.Accepting.fold_closes, proofs.Descent.{takes, stuck, bad_name, same_from, head_no_name}}
use Rattle.star_query.specs.declared.token.Keyword.TheVariants as k
use Rattle.star_query.specs.declared.token.Sign.TheVariants as s
use Rattle.star_query.specs.declared.counts.Part.TheVariants as part
use Rattle.star_query.specs.declared.fault.ParseError.TheVariants as errors
use Rattle.star_query.specs.declared.tree.Measure.TheVariants as measures
use Rattle.star_query.specs.declared.tree.Item.TheVariants as items
use Rattle.star_schema.specs.declared.group.{Shape.Shape, Shape.TheVariants.Plain, Direction.TheVariants.Ascending, Direction.TheVariants.Descending}
use Rattle.star_query.specs.Tree as tree
use Rattle.star_query.specs.Private.Phrases as grammar

zero_deep : 0 ≤ 32
zero_deep = omega arith

-- past a symbol that stands under no nesting
pub past : {old new : Spot} {x : Symbol} {ps : List Part} (from next : ParserState)
    → Takes old new x ps → next_step from x ≡ to next (first ps 0 x)
    → verdict old from ≡ verdict new next
past {old} {new} {x} {ps} from next t e = takes old new x ps 0 from next t zero_deep e

pub comma_passed : (here mid : Spot) → Takes here mid (sign s.Comma) [] → PassesComma here mid
comma_passed here mid t = λ from next e. past from next t e

-- what has to be next, and isn't
pub not_next : (x : Symbol) (old new : Spot) (from : ParserState) (e : ParseError)
    → query_at_end from ≡ None
    → ((y : Symbol) → head_of old.rest ≡ Some y → (y ≡ x → ⊥) → next_step from y ≡ None)
    → (e ≡ errors.Fault Unexpected) × No x old × (new ≡ old) → EndsBad e new (verdict old from)
not_next x old new from e no_end others b =
    subst (λ f. EndsBad f new (verdict old from)) (sym b.0)
    (stuck old from (λ e. no_end) (λ y head. others y head (λ q. b.1 (head ∙ ap Some q)))
    ∙ ap (λ s. Bad Unexpected s.rest) (sym b.2))

-- aggregates
pub read_folded : (old a b new : Spot) (f : Fold) (x : Expression Name)
    → Takes old a (sign s.Open) [] → ReadsExpr 0 a b (Ok x) → Takes b new (sign s.Close) []
    → ReadsFolded f old new (Ok (measures.Fold f x))
read_folded old a b new f x opened reads closed = grind (arith, past, fold_closes)

pub read_counted : (old a b new : Spot) → Takes old a (sign s.Open) [] → Takes a b (sign s.Star) []
    → Takes b new (sign s.Close) [] → ReadsCounted old new (Ok measures.Count)
read_counted old a b new opened star closed = grind (arith, past)

pub folded_measure : (f : Function) (q : Fold) (old new : Spot)
    (r : Result (Measure Name) ParseError) → f.fold ≡ Some q → ReadsFolded q old new r
    → ReadsMeasure f old new r
folded_measure f q old new (Ok m) e reads = (
  folded q f.offset reads.0,
  ap (λ x. record { measure = x; offset = f.offset; name = None }) reads.1,
  λ b u. ap (verdict old) (named b) ∙ reads.2 (b, f.offset) tt,
)
  where
    named : (b : Option (Several grammar.Item)) → function_named b f ≡ fold_named b q f.offset
    named b = rw e refl
folded_measure f q old new (Err x) e reads =
    λ b u. bad_along x new _ _
    (ap (verdict old) (let named : function_named b f ≡ fold_named b q f.offset = rw e refl in
    named)) (reads (b, f.offset) tt)

pub counted_measure : (f : Function) (old new : Spot) (r : Result (Measure Name) ParseError)
    → f.fold ≡ None → ReadsCounted old new r → ReadsMeasure f old new r
counted_measure f old new (Ok m) e reads = (
  counted f.offset,
  ap (λ x. record { measure = x; offset = f.offset; name = None }) reads.1,
  λ b u. ap (verdict old) (let named : function_named b f ≡ count_named b f.offset =
      rw e refl in named) ∙ reads.2 (b, f.offset) tt,
)
counted_measure f old new (Err x) e reads =
    λ b u. bad_along x new _ _
    (ap (verdict old) (let named : function_named b f ≡ count_named b f.offset = rw e refl in
    named)) (reads (b, f.offset) tt)

agg_step : (b : Option (Several grammar.Item)) (a : Agg) (x : Symbol) → (x ≡ keyword k.As → ⊥)
    → next_step (agg_had b a) x ≡ next_step (items_had (extended b (grammar.aggregate a None))) x
agg_step b a (keyword k.As) other = absurd (other refl)
agg_step b a _ other = refl

pub read_no_alias : (old new : Spot) → No (keyword k.As) old → new ≡ old
    → ReadsAlias old new (Ok None)
read_no_alias old new none same = grind (arith, same_from, agg_step)

pub read_alias : (old mid new : Spot) (n : Name) → Takes old mid (keyword k.As) []
    → Takes mid new (ident (name_view n)) [] → ReadsAlias old new (Ok (Some n))
read_alias old mid new n t u = grind (arith, past)

only_alias : (b : Option (Several grammar.Item)) (a : Agg) (x : Symbol) → NoName (x ∷ [])
    → next_step (alias_wanted b a) x ≡ None
only_alias b a (name t p) none = absurd none
only_alias b a _ none = refl

pub bad_alias : (old mid new : Spot) (e : ParseError) → Takes old mid (keyword k.As) []
    → ReadsName [] mid new (Err e) → ReadsAlias old new (Err e)
bad_alias old mid new e t b h u =
    grind (arith, past, bad_name, zero_deep, stuck, only_alias, head_no_name)

abbrev with_name : Option tree.Name → tree.Aggregate → tree.Aggregate
with_name p x = record x { name = p }

abbrev aggregate_with : tree.Measure tree.Name → ℕ → Option tree.Name → tree.Aggregate
aggregate_with m offset p = record { measure = m; offset = offset; name = p }

renamed : (a : Agg) (p : Option tree.Name) → agg_tree a p ≡ with_name p (agg_tree a None)
renamed (folded f p e) i = refl
renamed (counted p) i = refl

pub read_aggregate : (f : Function) (old mid new : Spot) (m : Measure Name) (n : Option Name)
    → ReadsMeasure f old mid (Ok m) → ReadsAlias mid new (Ok n)
    → ReadsAggregate f old new (Ok (record { measure = m; offset = f.offset; name = n }))
read_aggregate f old mid new m n measure alias = (
  grammar.aggregate measure.0 alias.0,
  ap tree.aggregate (renamed measure.0 alias.0 ∙ ap (with_name alias.0) measure.1
      ∙ ap (aggregate_with (measure_view m) f.offset) alias.1),
  λ b u. measure.2 b tt ∙ alias.2 (b, measure.0) tt,
)

function_step : (b : Option (Several grammar.Item)) (o : Option Fold) (p : ℕ)
    → next_step (item_wanted b) (function_symbol (record { fold = o; offset = p }))
    ≡ to (function_named b (record { fold = o; offset = p }))
    (first function_parts 0 (function_symbol (record { fold = o; offset = p })))
function_step b (Some f) p = refl
function_step b None p = refl

pub read_item_name : (old mid new : Spot) (n : Name) → mid ≡ old
    → Takes mid new (ident (name_view n)) (part.Item ∷ []) → ReadsItem old new (Ok (items.Column n))
read_item_name old mid new n same t = (
  grammar.plain (name_view n),
  refl,
  λ b u. ap (λ s. verdict s (item_wanted b)) (sym same) ∙ past _ _ t refl,
)

-- items tables
only_table : (is : Several grammar.Item) (b : Option (Several tree.Name)) (x : Symbol)
    → NoName (x ∷ []) → next_step (table_wanted is b) x ≡ None
only_table is b (name t p) none = absurd none
only_table is b _ none = refl

bad_table : (is : Several grammar.Item) (b : Option (Several tree.Name)) (old new : Spot)
    (e : ParseError) → ReadsName [] old new (Err e)
    → EndsBad e new (verdict old (table_wanted is b))
bad_table is b old new e reads = grind (arith, bad_name, zero_deep, stuck, only_table, head_no_name)

pub read_table : (old new : Spot) (r : Result Name ParseError) → ReadsName [] old new r
    → ReadsTable old new r
read_table old new (Ok n) t = (name_view n, refl, λ h u. past _ _ t refl)
read_table old new (Err e) bad = λ h u. bad_table h.0 h.1 old new e bad

-- the filter
cond_acts_end : (a : Cond) (is : Several grammar.Item) (ts : Several tree.Name)
    → query_at_end (cond_had a (in_where is ts))
    ≡ query_at_end (filtered_had (filtered_by is ts (Some a)))
cond_acts_end (lone_conj c) is ts = refl
cond_acts_end (or_conj a c) is ts = refl

cond_step : (a : Cond) (is : Several grammar.Item) (ts : Several tree.Name) (x : Symbol)
    → (x ≡ keyword k.And → ⊥) → (x ≡ keyword k.Or → ⊥)
    → next_step (cond_had a (in_where is ts)) x
    ≡ next_step (filtered_had (filtered_by is ts (Some a))) x
cond_step (lone_conj c) is ts (keyword k.And) f g = absurd (f refl)
cond_step (lone_conj c) is ts (keyword k.Or) f g = absurd (g refl)
cond_step (lone_conj c) is ts _ f g = refl
cond_step (or_conj a c) is ts (keyword k.And) f g = absurd (f refl)
cond_step (or_conj a c) is ts (keyword k.Or) f g = absurd (g refl)
cond_step (or_conj a c) is ts _ f g = refl

pub read_filter : (old mid new : Spot) (c : Condition Test) → Takes old mid (keyword k.Where) []
    → ReadsCond 0 mid new (Ok c) → NoLogic new → ReadsFilter old new (Ok (Some c))
read_filter old mid new c t reads none = (
  Some reads.0,
  ap Some reads.1,
  λ h u. past _ _ t refl ∙ reads.2 (in_where h.0 h.1) refl
      ∙ same_from new (cond_had reads.0 (in_where h.0 h.1))
      (filtered_had (filtered_by h.0 h.1 (Some reads.0))) (cond_acts_end reads.0 h.0 h.1)
      (λ x head. cond_step reads.0 h.0 h.1 x (λ q. none.0 (head ∙ ap Some q))
      (λ q. none.1 (head ∙ ap Some q))),
)

pub bad_filter : (old mid new : Spot) (e : ParseError) → Takes old mid (keyword k.Where) []
    → ReadsCond 0 mid new (Err e) → ReadsFilter old new (Err e)
bad_filter old mid new e t b =
    λ h u. bad_along e new _ _ (past _ _ t refl) (b (in_where h.0 h.1) refl)

tables_step : (is : Several grammar.Item) (ts : Several tree.Name) (x : Symbol)
    → (x ≡ sign s.Comma → ⊥) → (x ≡ keyword k.Where → ⊥)
    → next_step (tables_had is ts) x ≡ next_step (filtered_had (filtered_by is ts None)) x
tables_step is ts (sign s.Comma) f g = absurd (f refl)
tables_step is ts (keyword k.Where) f g = absurd (g refl)
tables_step is ts _ f g = refl

pub read_no_filter : (old new : Spot) → NoComma old → No (keyword k.Where) old → new ≡ old
    → ReadsFilter old new (Ok None)
read_no_filter old new no_comma no_where same = grind (arith, same_from, tables_step)

-- columns
only_column : (f : Filtered) (h : Option Hiding) (b : Option (Several tree.Name)) (x : Symbol)
    → NoName (x ∷ []) → next_step (column_wanted f h b) x ≡ None
only_column f h b (name t p) none = absurd none
only_column f h b _ none = refl

bad_column_name : (f : Filtered) (h : Option Hiding) (b : Option (Several tree.Name))
    (old new : Spot) (e : ParseError) → ReadsName (part.GroupColumn ∷ []) old new (Err e)
    → EndsBad e new (verdict old (column_wanted f h b))
bad_column_name f h b old new e reads =
    grind (arith, bad_name, zero_deep, stuck, only_column, head_no_name)

pub read_column : (old new : Spot) (r : Result Name ParseError)
    → ReadsName (part.GroupColumn ∷ []) old new r → ReadsColumn old new r
read_column old new (Ok n) t = (name_view n, refl, λ h u. past _ _ t refl)
read_column old new (Err e) bad = λ h u. bad_column_name h.0.0 h.0.1 h.1 old new e bad

-- groups
hidden_ends : (f : Filtered) (h : Hiding) (is : Several tree.Name) (x : Symbol)
    → (x ≡ sign s.Comma → ⊥) → (x ≡ sign s.Close → ⊥)
    → next_step (columns_had f (Some h) is) x ≡ None
hidden_ends f h is (sign s.Comma) a b = absurd (a refl)
hidden_ends f h is (sign s.Close) a b = absurd (b refl)
hidden_ends f h is _ a b = refl

pub read_hidden : (shape : Shape) (old a b new : Spot) (v : _) → Takes old a (sign s.Open) []
    → ReadsColumns a b (Ok v) → Takes b new (sign s.Close) []
    → ReadsHidden shape old new (Ok (record { shape = shape; columns = v }))
read_hidden shape old a b new v opened reads closed = (
  reads.0,
  ap (λ x. record { shape = shape; columns = x }) reads.1,
  λ h u. past _ _ opened refl ∙ reads.2 (h.0, Some h.1) tt ∙ past _ _ closed refl,
)

pub bad_hidden_columns : (shape : Shape) (old a new : Spot) (e : ParseError)
    → Takes old a (sign s.Open) [] → ReadsColumns a new (Err e) → ReadsHidden shape old new (Err e)
bad_hidden_columns shape old a new e opened bad =
    λ h u. bad_along e new _ _ (past _ _ opened refl) (bad (h.0, Some h.1) tt)

pub bad_hidden_close : (shape : Shape) (old a b new : Spot) (v : _) (e : ParseError)
    → Takes old a (sign s.Open) [] → ReadsColumns a b (Ok v) → NoComma b
    → (e ≡ errors.Fault Unexpected) × No (sign s.Close) b × (new ≡ b)
    → ReadsHidden shape old new (Err e)
bad_hidden_close shape old a b new v e opened reads no_comma bad =
    λ h u. bad_along e new _ _ (past _ _ opened refl ∙ reads.2 (h.0, Some h.1) tt)
    (not_next (sign s.Close) b new (columns_had h.0 (Some h.1) reads.0) e refl
    (λ y head other. hidden_ends h.0 h.1 reads.0 y (λ q. no_comma (head ∙ ap Some q)) other) bad)

on_word : (f : Filtered) (h : Hiding)
    → next_step (by_had f) (keyword (hiding_word h))
    ≡ to (hiding_had f h) (at 0 (keyword (hiding_word h)))
on_word f cube = refl
on_word f rollup = refl

word_taken : (h : Hiding) (old here a : Spot) (f : Filtered) → here ≡ old
    → Takes here a (keyword (hiding_word h)) []
    → verdict old (by_had f) ≡ verdict a (hiding_had f h)
word_taken h old here a f same word =
    ap (λ s. verdict s (by_had f)) (sym same) ∙ past _ _ word (on_word f h)

pub read_hiding : (h : Hiding) (old here a new : Spot) (r : Result Grouping ParseError) → here ≡ old
    → Takes here a (keyword (hiding_word h)) [] → ReadsHidden (shape_of h) a new r
    → ReadsGroups old new r
read_hiding h old here a new (Ok v) same word reads =
    (hiding h reads.0, reads.1, λ f u. word_taken h old here a f same word ∙ reads.2 (f, h) tt)
read_hiding h old here a new (Err e) same word bad =
    λ f u. bad_along e new _ _ (word_taken h old here a f same word) (bad (f, h) tt)

by_step : (f : Filtered) (x : Symbol) → (x ≡ keyword k.Cube → ⊥) → (x ≡ keyword k.Rollup → ⊥)
    → next_step (by_had f) x ≡ next_step (column_wanted f None None) x
by_step f (keyword k.Cube) no_cube no_rollup = absurd (no_cube refl)
by_step f (keyword k.Rollup) no_cube no_rollup = absurd (no_rollup refl)
by_step f _ no_cube no_rollup = refl

plain_step : (f : Filtered) (is : Several tree.Name) (x : Symbol) → (x ≡ sign s.Comma → ⊥)
    → next_step (columns_had f None is) x ≡ next_step (grouped_had (grouped_by f (grouped is))) x
plain_step f is (sign s.Comma) other = absurd (other refl)
plain_step f is _ other = refl

by_columns : (old mid here : Spot) (f : Filtered) → No (keyword k.Cube) old × (mid ≡ old)
    → No (keyword k.Rollup) mid × (here ≡ mid)
    → verdict old (by_had f) ≡ verdict here (column_wanted f None None)
by_columns old mid here f no_cube no_rollup = grind (arith, same_from, by_step)

pub read_plain : (old mid here new : Spot) (v : _) → No (keyword k.Cube) old × (mid ≡ old)
    → No (keyword k.Rollup) mid × (here ≡ mid) → ReadsColumns here new (Ok v) → NoComma new
    → ReadsGroups old new (Ok (record { shape = Plain; columns = v }))
read_plain old mid here new v no_cube no_rollup reads no_comma = (
  grouped reads.0,
  ap (λ x. record { shape = Plain; columns = x }) reads.1,
  λ f u. by_columns old mid here f no_cube no_rollup ∙ reads.2 (f, None) tt
      ∙ same_from new (columns_had f None reads.0) (grouped_had (grouped_by f (grouped reads.0)))
      refl (λ x head. plain_step f reads.0 x (λ q. no_comma (head ∙ ap Some q))),
)

pub bad_plain : (old mid here new : Spot) (e : ParseError)
    → No (keyword k.Cube) old × (mid ≡ old) → No (keyword k.Rollup) mid × (here ≡ mid)
    → ReadsColumns here new (Err e) → ReadsGroups old new (Err e)
bad_plain old mid here new e no_cube no_rollup b =
    λ f u. bad_along e new _ _ (by_columns old mid here f no_cube no_rollup) (b (f, None) tt)

-- sort keys
key_step : (g : Grouped) (b : Option (Several Key)) (i : tree.Name) (x : Symbol)
    → (x ≡ keyword k.Asc → ⊥) → (x ≡ keyword k.Desc → ⊥)
    → next_step (key_named g b i) x ≡ next_step (keys_had g (extended b (unmarked i))) x
key_step g b i (keyword k.Asc) p q = absurd (p refl)
key_step g b i (keyword k.Desc) p q = absurd (q refl)
key_step g b i _ p q = refl

pub read_descending : (old mid new : Spot) (n : Name)
    → Takes old mid (ident (name_view n)) (part.SortKey ∷ []) → Takes mid new (keyword k.Desc) []
    → ReadsKey old new (Ok (record { name = n; direction = Descending }))
read_descending old mid new n t u = (
  descending (name_view n),
  refl,
  λ h v. past _ _ t refl ∙ past _ _ u refl,
)

pub read_ascending : (old mid here new : Spot) (n : Name)
    → Takes old mid (ident (name_view n)) (part.SortKey ∷ []) → here ≡ mid
    → Takes here new (keyword k.Asc) []
    → ReadsKey old new (Ok (record { name = n; direction = Ascending }))
read_ascending old mid here new n t same u = (
  ascending (name_view n),
  refl,
  λ h v. past _ _ t refl
      ∙ ap (λ s. verdict s (key_named h.0 h.1 (name_view n))) (sym same)
      ∙ past _ _ u refl,
)

pub read_unmarked : (old mid here new : Spot) (n : Name)
    → Takes old mid (ident (name_view n)) (part.SortKey ∷ []) → No (keyword k.Desc) mid → here ≡ mid
    → No (keyword k.Asc) here → new ≡ here
    → ReadsKey old new (Ok (record { name = n; direction = Ascending }))
read_unmarked old mid here new n t no_desc same no_asc last = (
  unmarked (name_view n),
  refl,
  λ h v. past _ _ t refl
      ∙ same_from mid (key_named h.0 h.1 (name_view n))
      (keys_had h.0 (extended h.1 (unmarked (name_view n)))) refl
      (λ x head. key_step h.0 h.1 (name_view n) x
      (λ q. no_asc (ap (λ s. head_of s.rest) same ∙ head ∙ ap Some q))
      (λ q. no_desc (head ∙ ap Some q)))
      ∙ ap (λ s. verdict s (keys_had h.0 (extended h.1 (unmarked (name_view n)))))
      (sym (last ∙ same)),
)

keys_step : (g : Grouped) (ks : Several Key) (x : Symbol) → (x ≡ sign s.Comma → ⊥)
    → next_step (keys_had g ks) x ≡ next_step (done g (Some ks)) x
keys_step g ks (sign s.Comma) other = absurd (other refl)
keys_step g ks _ other = refl

-- behind ORDER BY
order_by_passed : (old a b : Spot) (g : Grouped) → Takes old a (keyword k.Order) []
    → Takes a b (keyword k.By) [] → verdict old (grouped_had g) ≡ verdict b (key_wanted g None)
order_by_passed old a b g order by = past _ _ order refl ∙ past _ _ by refl

pub read_keys : (old a b new : Spot) (r : Result (Vec SortKey Global) ParseError)
    → Takes old a (keyword k.Order) [] → Takes a b (keyword k.By) [] → ReadsKeyList b new r
    → OnOk r (NoComma new) → ReadsKeys old new r
read_keys old a b new (Ok v) order by reads none = (
  Some reads.0,
  reads.1,
  λ g u.
      order_by_passed old a b g order by ∙ reads.2 g tt
      ∙ same_from new (keys_had g reads.0) (done g (Some reads.0)) refl
      (λ x head. keys_step g reads.0 x (λ q. none (head ∙ ap Some q))),
)
read_keys old a b new (Err e) order by bad none =
    λ g u. bad_along e new _ _ (order_by_passed old a b g order by) (bad g tt)

only_semicolon : (g : Grouped) (ks : Option (Several Key)) (x : Symbol) → (x ≡ sign s.Semicolon → ⊥)
    → next_step (done g ks) x ≡ None
only_semicolon g ks (sign s.Semicolon) other = absurd (other refl)
only_semicolon g ks _ other = refl

pub bad_end : (old new : Spot) (b : Bool) → (OnTrue b (Takes old new (sign s.Semicolon) []))
    → (OnFalse b (No (sign s.Semicolon) old × (new ≡ old))) → 0 < length new.rest
    → ReadsEnd {A = Unit {0}} old new (Err (errors.Fault Unexpected))
bad_end old new it t f some = grind (arith, past, stuck, only_semicolon)

some_remain : (f : Token → Symbol) (ts : List Token) (b : Bool) → b ≡ (length ts == 0) → b ≡ false
    → 0 < length (map f ts)
some_remain f [] b e none = cc
some_remain f (t ∷ ts) b e none = omega arith

pub more_remains : (parser : Parser) (b : Bool) → b ≡ (length parser.rest.now == 0) → b ≡ false
    → 0 < length (spot_of parser).rest
more_remains parser b e none = some_remain (λ t. symbol_of t.kind t.offset) parser.rest.now b e none

-- what was refused in a list
pub bad_aggregate : (f : Function) (old mid new : Spot) (m : Measure Name) (e : ParseError)
    → ReadsMeasure f old mid (Ok m) → ReadsAlias mid new (Err e) → ReadsAggregate f old new (Err e)
bad_aggregate f old mid new m e measure b =
    λ h u. bad_along e new _ _ (measure.2 h tt) (b (h, measure.0) tt)

pub bad_item_aggregate : (old mid new : Spot) (f : Function) (e : ParseError)
    → Takes old mid (function_symbol f) function_parts → ReadsAggregate f mid new (Err e)
    → ReadsItem old new (Err e)
bad_item_aggregate old mid new f e t b =
    λ h u. bad_along e new _ _
    (past _ _ t (function_step h f.fold f.offset)) (b h tt)

-- a query
items_end : (is : Several grammar.Item) (x : Symbol) → (x ≡ sign s.Comma → ⊥)
    → (x ≡ keyword k.From → ⊥) → next_step (items_had is) x ≡ None
items_end is (sign s.Comma) f g = absurd (f refl)
items_end is (keyword k.From) f g = absurd (g refl)
items_end is _ f g = refl

pub bad_from : (b new : Spot) (is : Several grammar.Item) (e : ParseError) → NoComma b
    → (e ≡ errors.Fault Unexpected) × No (keyword k.From) b × (new ≡ b)
    → EndsBad e new (verdict b (items_had is))
bad_from b new is e none bad =
    not_next (keyword k.From) b new (items_had is) e refl
    (λ y head other. items_end is y (λ q. none (head ∙ ap Some q)) other) bad

abbrev the_tree : List tree.Item → List tree.Name → Option (tree.Condition tree.Test)
    → tree.Grouping → List tree.SortKey → tree.Tree
the_tree i t c g m = record { items = i; tables = t; condition = c; grouping = g; keys = m }

same_tree : (i j : List tree.Item) (t u : List tree.Name) (c d : Option (tree.Condition tree.Test))
    (g h : tree.Grouping) (m n : List tree.SortKey) → i ≡ j → t ≡ u → c ≡ d → g ≡ h → m ≡ n
    → the_tree i t c g m ≡ the_tree j u d h n
same_tree i j t u c d g h m n p q r s v = cc

pub read_query : (old a b c d e f g new : Spot) (t : Tree) (u : Unit {0})
    → Takes old a (keyword k.Select) [] → ReadsItems a b (Ok t.items)
    → Takes b c (keyword k.From) [] → ReadsTables c d (Ok t.tables)
    → ReadsFilter d e (Ok t.condition) → ReadsGrouping e f (Ok t.grouping)
    → ReadsKeys f g (Ok t.keys) → ReadsEnd g new (Ok u) → ReadsQuery old new (Ok t)
read_query old a b c d e f g new t u select is from ts filter groups keys end = (
  query_of (grouped_by (filtered_by is.0 ts.0 filter.0) groups.0) keys.0 end.0,
  same_tree _ _ _ _ _ _ _ _ _ _ is.1 ts.1 filter.1 groups.1 keys.1,
  past _ _ select refl ∙ is.2 tt tt ∙ past _ _ from refl ∙ ts.2 is.0 tt
      ∙ filter.2 (is.0, ts.0) tt ∙ groups.2 (filtered_by is.0 ts.0 filter.0) tt
      ∙ keys.2 (grouped_by (filtered_by is.0 ts.0 filter.0) groups.0) tt
      ∙ end.1 (grouped_by (filtered_by is.0 ts.0 filter.0) groups.0) keys.0,
)
