-- The partials of parts that the query fits together have room: their counts have 64 bits together,
-- and their totals 128 bits.
use Rattle.std.{proofs.Common.{◌≡◌, ◌∙◌, ◌+◌, ◌*◌, ◌<◌, ◌≤◌, ◌^◌, ℕ, zero, suc, Bool, List, ap, arith, get_or, length, map, not, refl, subst}, proofs.lemmas.List.length-map, proofs.lemmas.List.Filters.length-filter_both, proofs.lemmas.List.Sums.sum_by-le, specs.List.All}
use Rattle.star_schema.specs.{Database.Database, Database.rows_in}
use Rattle.star_world.specs.{RowsSeen.IsWorldOf, WorldOf.world_of}
use Rattle.star_plan.specs.{Meaning.Plan, Meaning.all_hold, Meaning.holds, Meaning.joined_rows, Meaning.plan_rows, Meaning.Tables}
use Rattle.star_program.specs.{declared.op.Op.Op, Code.Code, Code.Each, Code.Stop, Code.Then, Code.code_size}
use Rattle.star_query_meaning.proofs.OwnFits.{own_fits}
use Rattle.star_compile_laws.{specs.Compiled.turn_code, specs.Counts.{lookups_in, lookups_of, turn_lookups}, proofs.Programs.is_short, proofs.Rows.{joined_are, row_of_fact}, proofs.SeenRows.sees, proofs.TurnRows.numbers}
use Rattle.star_merge_laws.specs.Tables.{all_of}
use Rattle.star_merge.{proofs.PlainReports.reports_small, specs.Merged.AreSmall}
use Rattle.star_engine.{specs.Loads.AreLoadedRows, specs.Queries.{FitsRows, IsPlanOf, fact_rows}, proofs.FittingTexts.text_fits, proofs.PlansOfQueries.{plan_sound, plan_within}}
use Rattle.star_merger.{specs.Private.Outcomes.HasRoom, specs.Private.Shares.{AreShares, Share, contents_of_shares, share_rows, whole_of}, specs.Private.Shown.IsUsable, proofs.Narrow.rows_narrow, proofs.Whole.{all_shown_are, groups_same, reports_of, shares_shown, sound}}

-- ---- look-ups

more_code : (op : Op) (rest : Code) (flags : List Bool)
    → ((flags : List Bool) → lookups_in rest flags ≤ code_size rest)
    → lookups_in (Then op rest) flags ≤ 1 + code_size rest
more_code it rest flags few = grind (arith, few)

code_lookups : (code : Code) (flags : List Bool) → lookups_in code flags ≤ code_size code
code_lookups Stop flags = omega arith
code_lookups (Then op rest) flags = more_code op rest flags (code_lookups rest)
code_lookups (Each t r body rest) flags = omega arith

numbers_count : (n from : ℕ) → length (numbers n from) ≡ n
numbers_count zero from = refl
numbers_count (suc n) from = ap suc (numbers_count n (from + 1))

module _ (database : Database) (query : List ℕ) (p : Plan) (meant : IsPlanOf query p)
    (loaded : AreLoadedRows database) (world : IsWorldOf database (world_of database)) where
  abbrev ts : Tables
  ts = rows_in database

  joined_count : length (joined_rows ts p.joins) ≡ fact_rows database
  joined_count =
      let w = world_of database in
      let seen = sees database w loaded.rows world in
      let sound = plan_sound query p meant in
      ap length (joined_are ts w seen p sound)
      ∙ length-map (numbers (fact_rows database) 0) (row_of_fact ts w seen p sound)
      ∙ numbers_count (fact_rows database) 0

  few_selected : length (plan_rows ts p) ≤ fact_rows database
  few_selected =
      omega (
        arith,
        joined_count,
        length-filter_both (all_hold p.conjuncts)
            (λ row. not (all_hold p.conjuncts row)) (λ row. refl) (joined_rows ts p.joins),
      )

  few_lookups : lookups_of ts p ≤ fact_rows database * 2578
  few_lookups =
      let short = is_short p (plan_within query p meant) in
      omega (
        arith,
        joined_count,
        sum_by-le (turn_lookups p) 2578 (joined_rows ts p.joins)
            (λ k d within. omega (
              arith,
              short,
              code_lookups (turn_code p)
                  (map (λ c. holds c (get_or (joined_rows ts p.joins) k d)) p.conjuncts),
            )),
      )

-- ---- all parts

pub has_room : (most : ℕ) (database : Database) (query : List ℕ) (p : Plan) (shares : List Share)
    → IsPlanOf query p → AreShares most database query shares
    → All IsUsable (contents_of_shares shares) → AreLoadedRows (whole_of database shares)
    → IsWorldOf (whole_of database shares) (world_of (whole_of database shares))
    → FitsRows most (whole_of database shares) query
    → fact_rows (whole_of database shares) < 2 ^ 32 → HasRoom p (contents_of_shares shares)
has_room most database query p shares meant are usable loaded world fits few =
    let whole = whole_of database shares in
    let sound = sound most database query p meant in
    let all = all_shown_are database p sound shares
    (shares_shown most database query p meant shares are usable) in
    let selected = few_selected whole query p meant loaded world in
    let lookups = few_lookups whole query p meant loaded world in
    let narrow = rows_narrow most (rows_in whole) p sound
    ((text_fits most whole query p meant
    (own_fits most (rows_in whole) meant.tree p meant.resolved)).0 fits) in
    record {
      lookups = omega (arith, all.lookups, lookups, few);
      updates = omega (arith, all.updates, selected, few);
      totals = subst AreSmall (groups_same database p sound shares)
          (reports_small database p (reports_of shares) (all_of (share_rows shares)) sound all.plain
          all.rows (omega (arith, selected, few)) narrow);
    }
