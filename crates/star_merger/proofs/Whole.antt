-- What the partials of all parts say of the tables with all parts.
use Rattle.std.{proofs.Common.{◌≡◌, ◌∙◌, ◌+◌, ℕ, List, [], ◌∷◌, ◌++◌, Option, Some, None, ap, append-nil, arith, length, map, refl, subst, sym}, proofs.lemmas.List.Concat.flat_map-append, proofs.lemmas.List.{length-append, map-append}, proofs.lemmas.List.Sums.sum_by-append, proofs.lemmas.List.Sorted.length_permutation, proofs.lemmas.List.Elements.{All-append, All-cons, All-head, All-nil, All-tail}, specs.List.{All, flat_map, sum_by}, specs.Prelude.{IfSome, MatchOption}}
use Rattle.star_query.{proofs.Verdicts.one_meaning, specs.Tree.Tree}
use Rattle.star_schema.specs.{declared.table.TableId.TheVariants.Lineorder, Database.Database, Database.rows_in, Groups.GroupRow, Tables.Value}
use Rattle.star_plan.specs.{Meaning.Plan, Meaning.Row, Meaning.aggregate_of, Meaning.joined_rows, Meaning.plan_rows, Resolved.IsResolved, Sound.IsSoundPlan}
use Rattle.star_program.specs.{declared.outcome.Cell.Cell, declared.outcome.Outcome.Outcome}
use Rattle.star_report.specs.Report.{report_text}
use Rattle.star_query_meaning.{specs.Answers.{IsPlanAnswer, shown_name}, specs.Rows.selected, proofs.OwnWords.{own_answer, selected_reordered}}
use Rattle.star_compile_laws.specs.Counts.{lookups_of, turn_lookups}
use Rattle.star_merge_laws.{specs.Parts.with_lineorder, specs.Plain.plain_plan, specs.Tables.{all_of, tables_with}, proofs.Rows.{joined_together, selected_together}}
use Rattle.star_merge.{specs.Cells.group_of, specs.Merged.{AreOfShape, ArePlainReports, IsMergedRows, PlainReport, groups_shown}, proofs.PlainReports.{merged_answer, of_shape}}
use Rattle.star_engine.{specs.Notes.{counts_line, quote_line}, specs.Partials.{IsPartialOver, IsPlainOutcome}, specs.Queries.{FitsRows, IsPlanOf, IsQueryRunOver}, proofs.PlansOfQueries.plan_sound}
use Rattle.star_merger.specs.Private.{Outcomes.{IsMergedOutcome, all_shown, groups_of}, Shown.{HasOwnFacts, IsUsable, counted, lookups_in, rows_shown, updates_in}, Shares.{AreShares, Share, contents_of_shares, share_rows, whole_of}}

-- ---- a text means one plan

some_same : {X : Type 0} (x y : X) → Some x ≡ Some y → x ≡ y
some_same x y e = cc

one_resolved : (t : Tree) (p o : Plan) → IsResolved t p → IsResolved t o → p ≡ o
one_resolved t p o h k =
    let joins = h.joins ∙ sym k.joins in
    let conjuncts = some_same p.conjuncts o.conjuncts (sym h.conjuncts ∙ k.conjuncts) in
    let shape = h.shape ∙ sym k.shape in
    let keys = some_same p.keys o.keys (sym h.keys ∙ k.keys) in
    let measures = some_same p.measures o.measures (sym h.measures ∙ k.measures) in
    let names = h.names ∙ sym k.names in
    let items = some_same p.items o.items (sym h.items ∙ k.items) in
    let sorts = some_same p.sorts o.sorts (sym h.sorts ∙ k.sorts) in
    λ i. record {
      joins = joins i;
      conjuncts = conjuncts i;
      shape = shape i;
      keys = keys i;
      measures = measures i;
      names = names i;
      items = items i;
      sorts = sorts i;
    }

pub one_plan : (query : List ℕ) (p o : Plan) → IsPlanOf query p → IsPlanOf query o → p ≡ o
one_plan query p o h k =
    one_resolved k.tree p o
    (subst (λ t. IsResolved t p) (one_meaning query h.tree k.tree h.means k.means) h.resolved)
    k.resolved

-- ---- what the partial of one part shows

abbrev pub report_if : List Row → Option Outcome → List PlainReport
report_if rows None = []
report_if rows (Some outcome) =
    record { lineorder = rows; names = outcome.names; rows = outcome.rows } ∷ []

abbrev pub reports_of : List Share → List PlainReport
reports_of shares = flat_map (λ share. report_if share.rows share.contents.run) shares

abbrev pub rows_reported : List PlainReport → List Row
rows_reported reports = all_of (map (λ report. report.lineorder) reports)

no_rows : {X : Type 0} (xs : List X) → length xs ≡ 0 → xs ≡ []
no_rows [] e = refl
no_rows (x ∷ xs) e = absurd (omega (arith, e))

module _ (database : Database) (p : Plan) (sound : IsSoundPlan p) where
  abbrev lookups_over : List Row → ℕ
  lookups_over rows = lookups_of (tables_with database rows) p

  abbrev updates_over : List Row → ℕ
  updates_over rows = length (plan_rows (tables_with database rows) p)

  lookups_together : (xs ys : List Row)
      → lookups_over (xs ++ ys) ≡ lookups_over xs + lookups_over ys
  lookups_together xs ys =
      ap (sum_by (turn_lookups p)) (joined_together database p.joins sound.joins xs ys)
      ∙ sum_by-append (turn_lookups p) (joined_rows (tables_with database xs) p.joins)
      (joined_rows (tables_with database ys) p.joins)

  updates_together : (xs ys : List Row)
      → updates_over (xs ++ ys) ≡ updates_over xs + updates_over ys
  updates_together xs ys =
      ap length (selected_together database p sound.joins xs ys)
      ∙ length-append (plan_rows (tables_with database xs) p)
      (plan_rows (tables_with database ys) p)

  -- the outcome of the plain plan over rows of lineorder
  pub record IsOutcomeOver (rows : List Row) (outcome : Outcome) : Type 0 where
    pub answer : IsPlanAnswer (tables_with database rows) (plain_plan p) outcome.names outcome.rows
    pub lookups : outcome.lookups ≡ lookups_over rows
    pub updates : outcome.updates ≡ updates_over rows

  pub record IsShown (lines : List Row) (run : Option Outcome) : Type 0 where
    pub plain : ArePlainReports database p (report_if lines run)
    pub rows : rows_reported (report_if lines run) ≡ lines
    pub lookups : lookups_in run ≡ lookups_over lines
    pub updates : updates_in run ≡ updates_over lines

  abbrev IsPlain : PlainReport → Type 0
  IsPlain report = IsPlanAnswer (tables_with database report.lineorder) (plain_plan p)
      report.names report.rows

  pub shown : (rows : List Row) (run : Option Outcome) → (run ≡ None → rows ≡ [])
      → IfSome run (IsOutcomeOver rows) → IsShown rows run
  shown rows None none some =
      subst (λ rows. IsShown rows None) (sym (none refl))
      (record { plain = All-nil IsPlain; rows = refl; lookups = refl; updates = refl })
  shown rows (Some outcome) none is = record {
    plain =
        All-cons IsPlain
        (record { lineorder = rows; names = outcome.names; rows = outcome.rows }) [] is.answer
        (All-nil IsPlain);
    rows = append-nil rows;
    lookups = is.lookups;
    updates = is.updates;
  }

  -- ---- what the partials of all parts show

  pub record AreShown (shares : List Share) : Type 0 where
    pub plain : ArePlainReports database p (reports_of shares)
    pub rows : rows_reported (reports_of shares) ≡ all_of (share_rows shares)
    pub lookups : counted lookups_in (contents_of_shares shares)
        ≡ lookups_over (all_of (share_rows shares))
    pub updates : counted updates_in (contents_of_shares shares)
        ≡ updates_over (all_of (share_rows shares))

  reported_together : (xs ys : List PlainReport)
      → rows_reported (xs ++ ys) ≡ rows_reported xs ++ rows_reported ys
  reported_together xs ys =
      ap all_of (map-append (λ report. report.lineorder) xs ys)
      ∙ flat_map-append (λ part. part) (map (λ report. report.lineorder) xs)
      (map (λ report. report.lineorder) ys)

  pub all_shown_are : (shares : List Share)
      → All (λ share. IsShown share.rows share.contents.run) shares → AreShown shares
  all_shown_are [] all = record {
    plain = All-nil IsPlain;
    rows = refl;
    lookups = refl;
    updates = refl;
  }
  all_shown_are (share ∷ shares) all =
      let first = All-head (λ share. IsShown share.rows share.contents.run) share shares all in
      let rest = all_shown_are shares
      (All-tail (λ share. IsShown share.rows share.contents.run) share shares all) in
      let own = report_if share.rows share.contents.run in
      record {
        plain = All-append IsPlain own (reports_of shares) first.plain rest.plain;
        rows = reported_together own (reports_of shares)
            ∙ (λ i. first.rows i ++ rest.rows i);
        lookups = (λ i. first.lookups i + rest.lookups i)
            ∙ sym (lookups_together share.rows (all_of (share_rows shares)));
        updates = (λ i. first.updates i + rest.updates i)
            ∙ sym (updates_together share.rows (all_of (share_rows shares)));
      }

  -- ---- the groups that they show

  abbrev groups_in : List (List Cell) → List (GroupRow Value)
  groups_in rows = map (group_of (length p.keys)) rows

  groups_after : (rows : List Row) (run : Option Outcome) (reports : List PlainReport)
      (more : List (List (List Cell))) → groups_shown p reports ≡ flat_map groups_in more
      → groups_shown p (report_if rows run ++ reports) ≡ flat_map groups_in (rows_shown run ++ more)
  groups_after rows None reports more same = same
  groups_after rows (Some outcome) reports more same =
      ap (λ groups. groups_in outcome.rows ++ groups) same

  pub groups_same : (shares : List Share)
      → groups_shown p (reports_of shares) ≡ groups_of p (contents_of_shares shares)
  groups_same [] = refl
  groups_same (share ∷ shares) =
      groups_after share.rows share.contents.run (reports_of shares)
      (all_shown (contents_of_shares shares)) (groups_same shares)

-- ---- the partials of a query

module _ (most : ℕ) (database : Database) (query : List ℕ) (p : Plan) (meant : IsPlanOf query p)
  where
    abbrev IsOwn : Share → Type 0
    IsOwn share = IsPartialOver most (with_lineorder database share.rows) query share.contents

    pub sound : IsSoundPlan p
    sound = plan_sound query p meant

    outcome_over : (rows : List Row) (o : Plan) (own : IsPlanOf query o) (outcome : Outcome)
        → o ≡ p → IsPlainOutcome (with_lineorder database rows) query o own outcome
        → IsOutcomeOver database p sound rows outcome
    outcome_over rows o own outcome same is =
        let ts = tables_with database rows in
        record {
          answer = subst (λ o. IsPlanAnswer ts (plain_plan o) outcome.names outcome.rows) same
              is.answer;
          lookups = is.lookups ∙ ap (lookups_of ts) same;
          updates =
              is.updates
              ∙ sym (length_permutation (selected ts own.tree) (plan_rows ts o)
              (selected_reordered ts own.tree o own.named own.resolved))
              ∙ ap (λ o. length (plan_rows ts o)) same;
        }

    run_over : (rows : List Row) (o : Plan) (own : IsPlanOf query o) (run : Option Outcome) → o ≡ p
        → MatchOption run (¬ FitsRows most (with_lineorder database rows) query) (λ outcome.
        FitsRows most (with_lineorder database rows) query
        × IsPlainOutcome (with_lineorder database rows) query o own outcome)
        → IfSome run (IsOutcomeOver database p sound rows)
    run_over rows o own None same is = tt
    run_over rows o own (Some outcome) same is = outcome_over rows o own outcome same is.1

    share_shown : (share : Share) → IsOwn share → IsUsable share.contents
        → IsShown database p sound share.rows share.contents.run
    share_shown share own usable =
        shown database p sound share.rows share.contents.run
        (λ refused. no_rows share.rows (sym (own.sizes Lineorder) ∙ usable refused))
        (run_over share.rows own.p own.meant share.contents.run
        (one_plan query own.p p own.meant meant) own.run)

    pub shares_shown : (shares : List Share) → AreShares most database query shares
        → All IsUsable (contents_of_shares shares)
        → All (λ share. IsShown database p sound share.rows share.contents.run) shares
    shares_shown [] are usable =
        All-nil (λ share. IsShown database p sound share.rows share.contents.run)
    shares_shown (share ∷ shares) are usable =
        All-cons (λ share. IsShown database p sound share.rows share.contents.run) share shares
        (share_shown share (All-head IsOwn share shares are)
        (All-head IsUsable share.contents (contents_of_shares shares) usable))
        (shares_shown shares (All-tail IsOwn share shares are)
        (All-tail IsUsable share.contents (contents_of_shares shares) usable))

    pub own_facts : (shares : List Share) → AreShares most database query shares
        → All (HasOwnFacts database) shares
    own_facts [] are = All-nil (HasOwnFacts database)
    own_facts (share ∷ shares) are =
        let own = All-head IsOwn share shares are in
        All-cons (HasOwnFacts database) share shares
        (record { sizes = own.sizes; bounds = own.bounds })
        (own_facts shares (All-tail IsOwn share shares are))

    -- ---- the text of the merged outcome

    module _ (visits : ℕ) (shares : List Share) (outcome : Outcome)
        (are : AreShares most database query shares)
        (merged : IsMergedOutcome p (contents_of_shares shares)
        (length (all_of (share_rows shares))) outcome) where
      all : AreShown database p sound shares
      all = all_shown_are database p sound shares (shares_shown shares are merged.usable)

      abbrev whole : Database
      whole = whole_of database shares

      answer : IsPlanAnswer (rows_in whole) p (map (shown_name p) p.items) outcome.rows
      answer =
          let reports = reports_of shares in
          let same = groups_same database p sound shares in
          let shaped = subst (AreOfShape (length p.keys) (map aggregate_of p.measures)) same
          (of_shape database p reports all.plain) in
          let rows = subst (λ groups. IsMergedRows p.shape (length p.keys)
          (map aggregate_of p.measures) p.sorts p.items groups outcome.rows) (sym same)
          (merged.rows shaped) in
          subst (λ rows. IsPlanAnswer (tables_with database rows) p (map (shown_name p) p.items)
          outcome.rows) all.rows
          (merged_answer database p reports outcome.rows sound all.plain rows)

      pub told : FitsRows visits whole query
          → IsQueryRunOver visits whole query (record {
            quoted = quote_line (length (all_of (share_rows shares)));
            report = report_text outcome.names outcome.rows;
            done = counts_line outcome.visits outcome.lookups outcome.updates;
          })
      told fits = record {
        fitting = fits;
        quoted = refl;
        reported = record {
          tree = meant.tree;
          means = meant.means;
          named = meant.named;
          names = map (shown_name p) p.items;
          rows = outcome.rows;
          answer = own_answer (rows_in whole) meant.tree p meant.named meant.resolved
              (map (shown_name p) p.items) outcome.rows answer;
          printed = ap (λ names. report_text names outcome.rows) merged.names;
        };
        p = p;
        meant = meant;
        done = λ i. counts_line (merged.visits i) ((merged.lookups ∙ all.lookups) i)
            ((merged.updates ∙ all.updates
            ∙ length_permutation (selected (rows_in whole) meant.tree)
            (plan_rows (rows_in whole) p)
            (selected_reordered (rows_in whole) meant.tree p meant.named meant.resolved)) i);
      }
