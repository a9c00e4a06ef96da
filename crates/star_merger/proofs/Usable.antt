-- If the query fits all parts, only a part without rows is refused.
use Rattle.std.{proofs.Common.{◌≡◌, ◌∙◌, ◌≤◌, ℕ, zero, suc, List, [], ◌∷◌, None, Option, Some, arith, length, refl}, proofs.lemmas.List.length-append, proofs.lemmas.List.Elements.{All-cons, All-head, All-nil, All-tail}, specs.List.All, specs.Prelude.MatchOption}
use Rattle.star_schema.specs.{declared.table.TableId.TheVariants.Lineorder, Database.Database}
use Rattle.star_plan.specs.Meaning.{Plan, Row}
use Rattle.star_query_meaning.{specs.Fitting.PlanFitsTables, proofs.OwnFits.own_fits}
use Rattle.star_merge_laws.{specs.Parts.with_lineorder, specs.Tables.{all_of, tables_with}, proofs.Fits.{first_fits, second_fits}}
use Rattle.star_engine.{specs.Partials.IsPartialOver, specs.Queries.{FitsRows, IsPlanOf}, proofs.FittingTexts.text_fits}
use Rattle.star_merger.specs.{Private.Shares.AreShares, Private.Shares.Share, Private.Shares.contents_of_shares, Private.Shares.share_rows, Private.Shares.whole_of, Private.Shown.IsUsable}

none_or_some : (n : ℕ) → (1 ≤ n → ⊥) → n ≡ 0
none_or_some zero none = refl
none_or_some (suc n) none = absurd (none (omega arith))

module _ (most : ℕ) (database : Database) (query : List ℕ) (p : Plan) (meant : IsPlanOf query p)
  where
    abbrev FitsOver : List Row → Type 0
    FitsOver rows = PlanFitsTables most (tables_with database rows) p

    abbrev IsOwn : Share → Type 0
    IsOwn share = IsPartialOver most (with_lineorder database share.rows) query share.contents

    text_fits_over : (rows : List Row) → FitsOver rows
        → FitsRows most (with_lineorder database rows) query
    text_fits_over rows =
        (text_fits most (with_lineorder database rows) query p meant
        (own_fits most (tables_with database rows) meant.tree p meant.resolved)).1

    not_refused : {X : Type 0} (Fits : Type 0) (run : Option X) (P : X → Type 0)
        → MatchOption run (¬ Fits) P → Fits → run ≡ None → ⊥
    not_refused Fits None P is fits refused = is fits
    not_refused Fits (Some x) P is fits refused = cc

    one_usable : (share : Share) → IsOwn share
        → (1 ≤ length share.rows → FitsOver share.rows) → IsUsable share.contents
    one_usable share own fits refused =
        own.sizes Lineorder
        ∙ none_or_some (length share.rows) (λ some.
        not_refused (FitsRows most (with_lineorder database share.rows) query) share.contents.run _
        own.run (text_fits_over share.rows (fits some)) refused)

    all_usable : (shares : List Share) → AreShares most database query shares
        → (1 ≤ length (all_of (share_rows shares)) → FitsOver (all_of (share_rows shares)))
        → All IsUsable (contents_of_shares shares)
    all_usable [] are fits = All-nil IsUsable
    all_usable (share ∷ shares) are fits =
        let rest = all_of (share_rows shares) in
        let sum = length-append share.rows rest in
        All-cons IsUsable share.contents (contents_of_shares shares)
        (one_usable share (All-head IsOwn share shares are)
        (λ some. first_fits database share.rows rest most p some
        (fits (omega (arith, sum, some)))))
        (all_usable shares (All-tail IsOwn share shares are)
        (λ some. second_fits database share.rows rest most p some
        (fits (omega (arith, sum, some)))))

    pub usable : (shares : List Share) → AreShares most database query shares
        → FitsRows most (whole_of database shares) query → All IsUsable (contents_of_shares shares)
    usable shares are fits =
        let rows = all_of (share_rows shares) in
        all_usable shares are
        (λ some. (text_fits most (with_lineorder database rows) query p meant
        (own_fits most (tables_with database rows) meant.tree p meant.resolved)).0 fits)
