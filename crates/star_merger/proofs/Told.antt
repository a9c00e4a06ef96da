-- What is written and what is due over all parts.
use Rattle.std.{proofs.Common.{◌≡◌, ◌∙◌, ◌<◌, ℕ, List, Some, ◌∷◌, ap, arith, length, subst, sym}, specs.List.All, proofs.lemmas.List.Sorted.{All-permutation, IsPermutation-map, IsPermutation-sym, length_permutation}, specs.List.Sorted.IsPermutation}
use Rattle.star_schema.specs.{declared.table.TableId.TheVariants.Lineorder, Database.{Database, TableTexts}, Loadable.{IsLoadable, database_of}, declared.column.ColumnId.ColumnId, declared.table.TableId.TableId}
use Rattle.star_catalogue.specs.declared.fault.LoadFault.{LoadFault, TheVariants.TooManyRows}
use Rattle.star_plan.specs.Meaning.{Plan}
use Rattle.star_verify.specs.declared.refusal.Refusal.{Refusal}
use Rattle.star_partial.specs.Contents.{Contents}
use Rattle.star_merge_laws.{specs.Tables.all_of, proofs.Many.too_many, specs.Parts.AreDisjoint}
use Rattle.star_engine.specs.{Loads.AreLoadedRows, Notes.quote_line, Queries.FitsRows, Queries.IsPlanOf, Queries.IsQueryQuote, Queries.IsQueryRefusal, Queries.IsQueryRun, Queries.IsQueryRunError, Queries.IsQueryRunOver, Queries.fact_rows, WithNotes.RunText}
use Rattle.star_engine.specs.declared.fault.EngineFault.TheVariants as engine
use Rattle.star_merger.{specs.Private.Outcomes.{HasRoom, IsMergedOutcome}, specs.Private.Shares.{AreShares, Share, contents_of_shares, share_rows, whole_of}, specs.Private.Written.{IsMergedTelling, run_text_of}, specs.TextShares.{IsTextShare, TextShare, all_contents, whole_texts, lineorder_parts}, specs.Private.Shown.{HasFacts, IsUsable}, proofs.AnyOrder.{disjoint_moved, facts_moved, outcome_reordered, room_reordered, rows_moved}, proofs.TextParts.{row_share, contents_same, loadable_parts, own_shares, records_counted, row_shares, whole_same}, proofs.Results.loaded_rows, proofs.Whole.told}
use Rattle.star_interval.specs.Range.{Range}

told_over : (most visits count : ℕ) (note : List ℕ) (database : Database) (query : List ℕ)
    (p : Plan) (meant : IsPlanOf query p) (shares : List Share) (all : List Contents)
    (run : RunText) → AreShares most database query shares → all ≡ contents_of_shares shares
    → count ≡ length (all_of (share_rows shares)) → note ≡ quote_line count
    → FitsRows visits (whole_of database shares) query → IsMergedTelling p all count note run
    → IsQueryRunOver visits (whole_of database shares) query run
told_over most visits count note database query p meant shares all run are same counted quoted
    fits is =
    let merged = subst (λ (X : Type 0). X)
    (λ i. IsMergedOutcome p (same i) (counted i) is.outcome) is.merged in
    subst (IsQueryRunOver visits (whole_of database shares) query)
    (sym (is.told ∙ ap (λ note. run_text_of note is.outcome) (quoted ∙ ap quote_line counted)))
    (told most database query p meant visits shares is.outcome are merged fits)

-- the parts in another order
module _ (rows visits : ℕ) (texts : TableTexts) (query hash : List ℕ) (xs ys : List TextShare)
    (moved : IsPermutation xs ys) where
  pub shares_moved : All (IsTextShare rows visits texts query hash) xs
      → All (IsTextShare rows visits texts query hash) ys
  shares_moved = All-permutation (IsTextShare rows visits texts query hash) xs ys moved

  lines_moved : IsPermutation (all_of (share_rows (row_shares xs)))
      (all_of (share_rows (row_shares ys)))
  lines_moved =
      rows_moved (row_shares xs) (row_shares ys) (IsPermutation-map row_share xs ys moved)

  pub count_moved : length (all_of (share_rows (row_shares ys)))
      ≡ length (all_of (share_rows (row_shares xs)))
  count_moved =
      length_permutation (all_of (share_rows (row_shares xs))) (all_of (share_rows (row_shares ys)))
      lines_moved

  pub known_moved : (counts : TableId → ℕ) (ranges : ColumnId → Range)
      → HasFacts (whole_of (database_of texts) (row_shares xs)) counts ranges
      → HasFacts (whole_of (database_of texts) (row_shares ys)) counts ranges
  known_moved =
      facts_moved (database_of texts) (all_of (share_rows (row_shares xs)))
      (all_of (share_rows (row_shares ys))) lines_moved

  pub parts_moved : AreDisjoint (lineorder_parts xs) → AreDisjoint (lineorder_parts ys)
  parts_moved =
      disjoint_moved (lineorder_parts xs) (lineorder_parts ys) (IsPermutation-map _ xs ys moved)

  contents_moved : IsPermutation (all_contents xs) (all_contents ys)
  contents_moved = IsPermutation-map (λ share. share.contents) xs ys moved

  pub telling_moved : (p : Plan) (count : ℕ) (note : List ℕ) (run : RunText)
      → IsMergedTelling p (all_contents xs) count note run
      → IsMergedTelling p (all_contents ys) count note run
  telling_moved p count note run is = record {
    outcome = is.outcome;
    merged = outcome_reordered p (all_contents xs) (all_contents ys) count is.outcome contents_moved
        is.merged;
    told = is.told;
  }

  pub usable_moved : All IsUsable (all_contents ys) → All IsUsable (all_contents xs)
  usable_moved =
      All-permutation IsUsable (all_contents ys) (all_contents xs)
      (IsPermutation-sym (all_contents xs) (all_contents ys) contents_moved)

  pub room_moved : (p : Plan) → HasRoom p (all_contents ys) → HasRoom p (all_contents xs)
  room_moved p =
      room_reordered p (all_contents ys) (all_contents xs)
      (IsPermutation-sym (all_contents xs) (all_contents ys) contents_moved)

module _ (rows visits : ℕ) (texts : TableTexts) (query hash : List ℕ) (share : TextShare)
    (shares : List TextShare)
    (are : All (IsTextShare rows visits texts query hash) (share ∷ shares)) where
  abbrev pub whole : TableTexts
  whole = whole_texts texts (share ∷ shares)

  abbrev pub whole_rows : Database
  whole_rows = whole_of (database_of texts) (row_shares (share ∷ shares))

  -- too many rows are due if there are too many
  pub too_many_due : (p : Plan) → IsPlanOf query p → (fault : LoadFault)
      → fault ≡ TooManyRows Lineorder → rows < fact_rows whole_rows
      → IsQueryRunError rows visits whole query (engine.Load fault)
  too_many_due p meant fault is many =
      let counted = records_counted (share ∷ shares) in (
        (p, meant),
        record {
          first = too_many rows texts _ _
              (loadable_parts rows visits texts query hash (share ∷ shares) are)
              (omega (arith, counted, many)) ∙ ap Some (sym is);
          not_loadable = λ loadable. omega (arith, counted, many, (loadable.tables Lineorder).0);
        },
      )

  module _ (loads : IsLoadable rows whole) (p : Plan) (meant : IsPlanOf query p) where
    same : whole_rows ≡ database_of whole
    same = whole_same texts (share ∷ shares)

    pub loaded : AreLoadedRows whole_rows
    loaded = subst AreLoadedRows (sym same) (loaded_rows rows whole loads)

    pub quote_due : (count : ℕ) (note quoted : List ℕ) → count ≡ fact_rows whole_rows
        → note ≡ quote_line count → quoted ≡ note → IsQueryQuote rows whole query quoted
    quote_due count note quoted counted is e = record {
      loadable = loads;
      holds = record {
        is_query = (p, meant);
        quoted = e ∙ is ∙ ap quote_line (counted ∙ ap fact_rows same);
      };
    }

    pub telling_due : (count : ℕ) (note : List ℕ) (all : List Contents) (run : RunText)
        → all ≡ all_contents (share ∷ shares) → count ≡ fact_rows whole_rows
        → note ≡ quote_line count → FitsRows visits whole_rows query
        → IsMergedTelling p all count note run → IsQueryRun rows visits whole query run
    telling_due count note all run is counted quoted fits merged = record {
      loadable = loads;
      holds = subst (λ database. IsQueryRunOver visits database query run) same
          (told_over visits visits count note (database_of texts) query p meant
          (row_shares (share ∷ shares)) all run
          (own_shares rows visits texts query hash (share ∷ shares) are)
          (is ∙ contents_same (share ∷ shares)) counted quoted fits merged);
    }

    pub refusal_due : (refusal : Refusal) → IsQueryRefusal visits whole_rows query refusal
        → IsQueryRunError rows visits whole query (engine.Refused refusal)
    refusal_due refusal unfit = record {
      loadable = loads;
      holds = subst (λ database. IsQueryRefusal visits database query refusal) same unfit;
    }
