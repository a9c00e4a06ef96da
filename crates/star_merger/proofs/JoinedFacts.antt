-- The facts of a part and of further parts together.
use Rattle.std.{proofs.Common.{◌≡◌, ◌∙◌, ◌+◌, ◌<◌, ◌≤◌, ◌^◌, ℕ, zero, suc, List, [], ◌∷◌, ◌++◌, ap, append-nil, arith, length, map, refl, rules, slice_get, slice_index_or, subst, sym}, proofs.lemmas.List.{length-append, length-map}, proofs.lemmas.List.Elements.{All-head, All-tail}, specs.List.All, specs.Prelude.{None, pos}}
use Rattle.star_interval.specs.{Range.Range, Interval.range_of, declared.Interval.Interval}
use Rattle.star_schema.{specs.declared.column.ColumnId.ColumnId, specs.declared.table.TableId.TableId, specs.declared.table.TableId.TheVariants.{Date, Customer, Supplier, Part, Lineorder}, specs.Database.{Database, rows_in}, specs.Schema.index_of, specs.Sizes.size_of, proofs.Same.index_within}
use Rattle.star_plan.specs.Meaning.{Row}
use Rattle.star_partial.specs.Contents.{Contents, bounds_at, range_if}
use Rattle.star_merger.specs.{Partials.contents_of, declared.partial.Partial.Partial, Private.Shown.{HasFacts, HasOwnFacts}, Private.Shares.{Share, contents_of_shares, share_rows}}
use Rattle.star_merge_laws.specs.{Facts.AreFactsOf, Facts.Facts, Facts.hull_of_rows, Facts.joined_facts, Parts.with_lineorder, Tables.all_of}
use Rattle.star_verify.specs.{Facts.AreFacts, declared.facts.Facts.Facts as Known}
use Rattle.star_world.specs.WorldOf.{world_of}

at : (xs : List Interval) (index : ℕ) (any : Interval) → index < length xs
    → range_if (slice_get xs index) ≡ range_of (slice_index_or xs index any)
at [] index any h = absurd (omega (arith, h))
at (x ∷ xs) zero any h = refl
at (x ∷ xs) (suc index) any h = at xs index any (omega (arith, h))

-- with the range of no interval past the end
at_any : (xs : List Interval) (index : ℕ) (none : Interval) → range_of none ≡ range_if None
    → range_if (slice_get xs index) ≡ range_of (slice_index_or xs index none)
at_any [] index none is = sym is
at_any (x ∷ xs) zero none is = refl
at_any (x ∷ xs) (suc index) none is = at_any xs index none is

-- what a join of bounds says of each position, it says of each column
pub joined_bounds : (rows more : ℕ) (bounds others joined : List Interval)
    → ((index : ℕ) (any : Interval) → index < 58 → range_of (slice_index_or joined index any)
    ≡ hull_of_rows rows more (range_of (slice_index_or bounds index any))
    (range_of (slice_index_or others index any)))
    → (c : ColumnId)
    → bounds_at joined c ≡ hull_of_rows rows more (bounds_at bounds c) (bounds_at others c)
joined_bounds rows more bounds others joined each c =
    let index = index_of c in
    let none : Interval = record { low = pos 0; high = pos 0; ordered = search rules } in
    at_any joined index none refl ∙ each index none (index_within c)
    ∙ (λ i. hull_of_rows rows more (sym (at_any bounds index none refl) i)
    (sym (at_any others index none refl) i))

module _ (database : Database) (rows others : List Row) (a b sizes : TableId → ℕ)
    (of_rows of_others bounds : ColumnId → Range)
    (h : HasFacts (with_lineorder database rows) a of_rows)
    (k : HasFacts (with_lineorder database others) b of_others) where
  abbrev facts : Facts
  facts = record { rows = a Lineorder; bounds = of_rows }

  abbrev more : Facts
  more = record { rows = b Lineorder; bounds = of_others }

  sizes_are : sizes Lineorder ≡ a Lineorder + b Lineorder → sizes Date ≡ a Date
      → sizes Customer ≡ a Customer → sizes Supplier ≡ a Supplier → sizes Part ≡ a Part
      → (t : TableId) → sizes t ≡ length (rows_in (with_lineorder database (rows ++ others)) t)
  sizes_are sum date customer supplier part it =
      grind (arith, h.sizes, k.sizes, length-append rows others)

  pub many_rows : ¬ (a Lineorder + b Lineorder < 2 ^ 32) → 2 ^ 32 ≤ length (rows ++ others)
  many_rows over =
      omega (arith, length-append rows others, h.sizes Lineorder, k.sizes Lineorder, over)

  pub joined_are : AreFactsOf (with_lineorder database (rows ++ others)) (joined_facts facts more)
      → sizes Lineorder ≡ a Lineorder + b Lineorder → sizes Date ≡ a Date
      → sizes Customer ≡ a Customer → sizes Supplier ≡ a Supplier → sizes Part ≡ a Part
      → ((c : ColumnId) → bounds c
      ≡ hull_of_rows (a Lineorder) (b Lineorder) (of_rows c) (of_others c))
      → HasFacts (with_lineorder database (rows ++ others)) sizes bounds
  joined_are are sum date customer supplier part hulls = record {
    sizes = sizes_are sum date customer supplier part;
    bounds = λ c. hulls c ∙ are.bounds c;
  }

-- the facts of the tables of a database are those of its world
pub are_facts : (database : Database) (facts : Known) → length facts.bounds ≡ 58
    → HasFacts database (size_of facts.sizes) (bounds_at facts.bounds)
    → AreFacts (world_of database) facts
are_facts database facts full has = record {
  sizes = has.sizes;
  bounds = λ c i is. ap range_of is
      ∙ sym (at facts.bounds (index_of c) i (omega (arith, index_within c, full))) ∙ has.bounds c;
}

-- ---- the facts of all parts

pub many_more : (rows others : List Row) → 2 ^ 32 ≤ length others → 2 ^ 32 ≤ length (rows ++ others)
many_more rows others many = omega (arith, length-append rows others, many)

no_items : {X : Type 0} (xs : List X) → length xs ≡ 0 → xs ≡ []
no_items [] e = refl
no_items (x ∷ xs) e = absurd (omega (arith, e))

abbrev head_or : Contents → List Contents → Contents
head_or contents [] = contents
head_or contents (first ∷ rest) = first

abbrev rest_of : List Contents → List Contents
rest_of [] = []
rest_of (first ∷ rest) = rest

module _ (database : Database) (first : Contents) where
  abbrev OfFirst : List Row → Type 0
  OfFirst rows = HasFacts (with_lineorder database rows) first.sizes first.bounds

  own : (share : Share) → first ≡ share.contents → HasOwnFacts database share → OfFirst share.rows
  own share same facts =
      subst (λ (contents : Contents). HasFacts (with_lineorder database share.rows) contents.sizes
      contents.bounds) (sym same) facts

  pub first_facts : (more : List Contents) (share : Share) (shares : List Share) → length more ≡ 0
      → first ∷ more ≡ contents_of_shares (share ∷ shares)
      → All (HasOwnFacts database) (share ∷ shares) → OfFirst (all_of (share_rows (share ∷ shares)))
  first_facts more share [] none same are =
      subst OfFirst (sym (append-nil share.rows))
      (own share (ap (head_or first) same) (All-head (HasOwnFacts database) share [] are))
  first_facts more share (next ∷ shares) none same are =
      absurd (omega (arith, none, ap length same, length-map shares (λ share. share.contents)))

  pub next_facts : (next : Contents) (more rest : List Contents) (share : Share)
      (shares : List Share) (Goal : List Share → Type 0) → more ≡ next ∷ rest
      → first ∷ more ≡ contents_of_shares (share ∷ shares)
      → All (HasOwnFacts database) (share ∷ shares)
      → ((second : Share) (others : List Share) → next ∷ rest ≡ contents_of_shares (second ∷ others)
      → All (HasOwnFacts database) (second ∷ others) → OfFirst share.rows → Goal (second ∷ others))
      → Goal shares
  next_facts next more rest share [] Goal is same are on =
      absurd (omega (arith, ap length is, ap length same))
  next_facts next more rest share (second ∷ others) Goal is same are on =
      on second others (sym is ∙ ap rest_of same)
      (All-tail (HasOwnFacts database) share (second ∷ others) are)
      (own share (ap (head_or first) same)
      (All-head (HasOwnFacts database) share (second ∷ others) are))

pub none_mapped : (partials : List Partial) → length partials ≡ 0
    → length (map contents_of partials) ≡ 0
none_mapped partials none = length-map partials contents_of ∙ none

pub some_mapped : (partials rest : List Partial) (next : Partial) → partials ≡ next ∷ rest
    → map contents_of partials ≡ contents_of next ∷ map contents_of rest
some_mapped partials rest next is = ap (map contents_of) is

pub all_are : (database : Database) (partials more : List Partial) (first : Partial) (share : Share)
    (shares : List Share) (Goal : Type 0) → partials ≡ first ∷ more
    → map contents_of partials ≡ contents_of_shares (share ∷ shares)
    → (contents_of first ∷ map contents_of more ≡ contents_of_shares (share ∷ shares) → Goal) → Goal
all_are database partials more first share shares Goal is same on =
    on (ap (map contents_of) (sym is) ∙ same)
