-- The parts as texts: their rows, their dimensions, and all parts together.
use Rattle.std.{proofs.Common.{◌≡◌, ◌≢◌, ◌∙◌, ◌≤◌, ℕ, Bool, true, false, List, [], ◌∷◌, ◌++◌, AllPairs, None, ap, append-nil, arith, get_or, length, map, refl, subst, sym}, proofs.lemmas.List.{get_or-map, length-map}, proofs.lemmas.List.Elements.{All-cons, All-head, All-map, All-nil, All-tail}, specs.List.All}
use Rattle.star_schema.specs.{declared.{table.TableId.{TheVariants.Lineorder, TableId}, column.ColumnId.ColumnId}, Bounds.{greatest, least, numbers_of}, Columns.bounds_in, Database.{Database, TableTexts, rows_in}, Loadable.{HasDistinctKeys, IsLoadable, database_of, keys_of}, Records.records_in, Schema.table_of, Tables.{rows_of, row_of}}
use Rattle.star_plan.specs.Meaning.{Row}
use Rattle.star_partial.specs.Contents.{Contents}
use Rattle.star_merger.specs.{Partials.contents_of, declared.partial.Partial.Partial, Merged.spans_of, Private.Checked.{AreDisjointSpans, HasDimensions}, Private.Shares.{AreShares, Share, contents_of_shares, share_rows, whole_of}, TextShares.{AreDistinct, IsTextShare, TextShare, all_contents, lineorder_parts, whole_texts}}
use Rattle.star_catalogue.specs.Pieces.{with_lineorder_text}
use Rattle.star_merge_laws.{specs.Parts.{AreDisjoint, IsLoadablePart, LineorderPart, are_disjoint, whole_text, with_lineorder}, specs.Tables.all_of, proofs.LoadableParts.{IsBeside, all_second, keys_joined, loadable_joined, pairs_head, pairs_second, pairs_tail, parts_loadable, records_joined, rows_beside, rows_joined}}
use Rattle.star_engine.specs.Partials.{IsPartialOver, span_view}

abbrev pub row_share : TextShare → Share
row_share share = record { rows = rows_of Lineorder share.text; contents = share.contents }

abbrev pub row_shares : List TextShare → List Share
row_shares shares = map row_share shares

pub contents_same : (shares : List TextShare)
    → all_contents shares ≡ contents_of_shares (row_shares shares)
contents_same [] = refl
contents_same (share ∷ shares) = ap (λ all. share.contents ∷ all) (contents_same shares)

whole_rows : (shares : List TextShare) → all_of (share_rows (row_shares shares))
    ≡ rows_of Lineorder (whole_text (lineorder_parts shares))
whole_rows [] = refl
whole_rows (share ∷ shares) =
    ap (λ rows. rows_of Lineorder share.text ++ rows) (whole_rows shares)
    ∙ sym (rows_joined Lineorder share.text (whole_text (lineorder_parts shares)))

pub whole_same : (texts : TableTexts) (shares : List TextShare)
    → whole_of (database_of texts) (row_shares shares) ≡ database_of (whole_texts texts shares)
whole_same texts shares = ap (with_lineorder (database_of texts)) (whole_rows shares)

pub records_counted : (shares : List TextShare)
    → length (all_of (share_rows (row_shares shares)))
    ≡ length (records_in (whole_text (lineorder_parts shares)))
records_counted shares =
    ap length (whole_rows shares)
    ∙ length-map (records_in (whole_text (lineorder_parts shares))) (row_of Lineorder)

spans_same : (shares : List TextShare)
    → spans_of (all_contents shares) ≡ map (λ part. part.span) (lineorder_parts shares)
spans_same [] = refl
spans_same (share ∷ shares) =
    ap (λ spans. span_view share.contents.span ∷ spans) (spans_same shares)

-- ---- the dimensions

beside : (t : TableId) → t ≢ Lineorder → IsBeside t
beside it h = grind arith

bounds_beside : (database : Database) (rows : List Row) (c : ColumnId) → table_of c ≢ Lineorder
    → bounds_in (rows_in (with_lineorder database rows)) c ≡ bounds_in (rows_in database) c
bounds_beside database rows c h =
    ap (λ rows. record { low = least (numbers_of c rows); high = greatest (numbers_of c rows) })
    (rows_beside database rows (table_of c) (beside (table_of c) h))

-- ---- all parts together

pub all_unmapped : {X Y : Type 0} (P : Y → Type 0) (f : X → Y) (xs : List X) → All P (map f xs)
    → All (λ x. P (f x)) xs
all_unmapped P f xs all = λ k d within.
    subst P (get_or-map f xs k d (f d) within)
    (all k (f d) (omega (arith, length-map xs f, within)))

module _ {X : Type 0} (R : X → X → Type 0) where
  pairs_across : (xs ys : List X) → AllPairs R (xs ++ ys) → All (λ x. All (R x) ys) xs
  pairs_across [] ys h = All-nil (λ x. All (R x) ys)
  pairs_across (x ∷ xs) ys h =
      All-cons (λ x. All (R x) ys) x xs (all_second R (R x) xs ys (pairs_head R x (xs ++ ys) h))
      (pairs_across xs ys (pairs_tail R x (xs ++ ys) h))

module _ (most : ℕ) (texts : TableTexts) where
  -- parts with distinct keys can be loaded together
  distinct_loadable : (part : LineorderPart) (parts : List LineorderPart)
      → All (IsLoadablePart most texts) (part ∷ parts)
      → HasDistinctKeys Lineorder (rows_of Lineorder (whole_text (part ∷ parts)))
      → length (records_in (whole_text (part ∷ parts))) ≤ most
      → IsLoadable most (with_lineorder_text texts (whole_text (part ∷ parts)))
  distinct_loadable part [] all distinct few =
      subst (λ text. IsLoadable most (with_lineorder_text texts text)) (sym (append-nil part.text))
      (All-head (IsLoadablePart most texts) part [] all).loadable
  distinct_loadable part (other ∷ parts) all distinct few =
      let text = whole_text (other ∷ parts) in
      let keys = subst (AllPairs (λ a b. a ≢ b))
      (ap (keys_of Lineorder) (rows_joined Lineorder part.text text)
      ∙ keys_joined Lineorder (rows_of Lineorder part.text) (rows_of Lineorder text)) distinct in
      let sum = records_joined most texts part.text text in
      loadable_joined most texts part.text text
      (All-head (IsLoadablePart most texts) part (other ∷ parts) all).loadable
      (distinct_loadable other parts (All-tail (IsLoadablePart most texts) part (other ∷ parts) all)
      (pairs_second (λ a b. a ≢ b) (keys_of Lineorder (rows_of Lineorder part.text))
      (keys_of Lineorder (rows_of Lineorder text)) keys) (omega (arith, sum, few)))
      few (pairs_across (λ a b. a ≢ b) (keys_of Lineorder (rows_of Lineorder part.text))
      (keys_of Lineorder (rows_of Lineorder text)) keys)

module _ (rows visits : ℕ) (texts : TableTexts) (query hash : List ℕ) where
  abbrev IsOwn : TextShare → Type 0
  IsOwn share = IsTextShare rows visits texts query hash share

  pub own_shares : (shares : List TextShare) → All IsOwn shares
      → AreShares visits (database_of texts) query (row_shares shares)
  own_shares shares are =
      All-map
      (λ (share : Share). IsPartialOver visits (with_lineorder (database_of texts) share.rows) query
      share.contents)
      row_share shares (λ k d within. (are k d within).partial)

  own_dimensions : (share : TextShare) → IsOwn share
      → HasDimensions hash (database_of texts) share.contents
  own_dimensions share own =
      let database = database_of texts in
      let lines = rows_of Lineorder share.text in
      record {
        digest = own.digest;
        sizes = λ t h. own.partial.sizes t ∙ ap length (rows_beside database lines t (beside t h));
        bounds = λ c h. own.partial.bounds c ∙ bounds_beside database lines c h;
      }

  pub all_dimensions : (shares : List TextShare) (partials : List Partial) → All IsOwn shares
      → map contents_of partials ≡ all_contents shares
      → All (λ partial. HasDimensions hash (database_of texts) (contents_of partial)) partials
  all_dimensions shares partials are same =
      let Has : Contents → Type 0 = HasDimensions hash (database_of texts) in
      all_unmapped Has contents_of partials
      (subst (All Has) (sym same)
      (All-map Has (λ share. share.contents) shares
      (λ k d within. own_dimensions (get_or shares k d) (are k d within))))

  pub loadable_parts : (shares : List TextShare) → All IsOwn shares
      → All (IsLoadablePart rows texts) (lineorder_parts shares)
  loadable_parts shares are =
      All-map (IsLoadablePart rows texts) _ shares (λ k d within.
      record { loadable = (are k d within).loadable; within = (are k d within).partial.span })

  pub disjoint_parts : (shares : List TextShare) → AreDisjointSpans (spans_of (all_contents shares))
      → AreDisjoint (lineorder_parts shares)
  disjoint_parts shares disjoint =
      let parts = lineorder_parts shares in
      let spans = subst AreDisjointSpans (spans_same shares) disjoint in
      λ i j d before within.
      let first = get_or-map (λ part. part.span) parts i d None (omega (arith, before, within)) in
      let second = get_or-map (λ part. part.span) parts j d None within in
      ap (λ a. are_disjoint a (get_or parts j d).span) (sym first)
      ∙ ap (are_disjoint (get_or (map (λ part. part.span) parts) i None)) (sym second)
      ∙ spans j i before (omega (arith, length-map parts (λ part. part.span), within))

  -- if not too many, they can be loaded together
  pub whole_loadable : (is_distinct : Bool) (share : TextShare) (shares : List TextShare)
      → All IsOwn (share ∷ shares)
      → length (all_of (share_rows (row_shares (share ∷ shares)))) ≤ rows
      → (is_distinct ≡ true → AreDistinct (share ∷ shares))
      → (is_distinct ≡ false → AreDisjoint (lineorder_parts (share ∷ shares)))
      → IsLoadable rows (whole_texts texts (share ∷ shares))
  whole_loadable true share shares are few distinct disjoint =
      distinct_loadable rows texts _ (lineorder_parts shares) (loadable_parts (share ∷ shares) are)
      (distinct refl) (omega (arith, records_counted (share ∷ shares), few))
  whole_loadable false share shares are few distinct disjoint =
      parts_loadable rows texts _ (lineorder_parts shares) (loadable_parts (share ∷ shares) are)
      (disjoint refl)
      (omega (arith, records_counted (share ∷ shares), few))
