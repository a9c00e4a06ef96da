-- The answers of plans are those of their queries.
use Rattle.std.{proofs.Common.{ℕ, List, refl, ◌∙◌}, proofs.lemmas.List.Sorted.length_permutation, specs.Prelude.All}
use Rattle.star_schema.specs.{declared.table.TableId.TableId, Database.Database, Database.rows_in, Loadable.IsSound, Tables.IsRowOf}
use Rattle.star_query.specs.{Derives.Means, Tree.Tree}
use Rattle.star_plan.{specs.Meaning.{Plan, plan_rows}, specs.Resolved.IsResolved, specs.WellNamed.IsWellNamed, proofs.Conditions.no_fault, proofs.Preserved.preserved_sound}
use Rattle.star_program.specs.World.{World}
use Rattle.star_query_meaning.{specs.Rows.selected, proofs.OwnWords.{own_answer, selected_reordered}}
use Rattle.star_world.specs.{RowsSeen.IsWorldOf, WorldOf.world_of}
use Rattle.star_compile_laws.{specs.Answers.{AnswersTheQuery, ReportsTheQuery}, specs.Counts.CountsTheRows, proofs.Answered.answers_the_plan, proofs.Rows.counts_the_rows, proofs.SeenRows.sees}

pub answers_the_query : (database : Database) (w : World) (query : Tree) (p : Plan)
    → ((t : TableId) → All (IsRowOf t) (rows_in database t)) → IsWorldOf database w
    → IsWellNamed query → IsResolved query p → AnswersTheQuery (rows_in database) w query p
answers_the_query database w query p rows world named resolved may s outcome run told =
    let sound = preserved_sound query p (no_fault query named) resolved in
    own_answer (rows_in database) query p named resolved outcome.names outcome.rows
    (answers_the_plan (rows_in database) w (sees database w rows world) p sound may s outcome run
    told)

pub counts_the_rows_of_the_query : (database : Database) (w : World) (query : Tree) (p : Plan)
    → ((t : TableId) → All (IsRowOf t) (rows_in database t)) → IsWorldOf database w
    → IsWellNamed query → IsResolved query p → CountsTheRows (rows_in database) w query p
counts_the_rows_of_the_query database w query p rows world named resolved may s run =
    let sound = preserved_sound query p (no_fault query named) resolved in
    let ts = rows_in database in
    let counted = counts_the_rows ts w (sees database w rows world) p sound may s run in
    record {
      visits = counted.0;
      lookups = counted.1;
      updates = counted.2
          ∙ length_permutation (selected ts query) (plan_rows ts p)
          (selected_reordered ts query p named resolved);
    }

pub reports_the_query : ((database : Database) → IsSound database → IsWorldOf database
    (world_of database)) → (database : Database) (text : List ℕ) (query : Tree) (p : Plan)
    → IsSound database → ((t : TableId) → All (IsRowOf t) (rows_in database t)) → Means text query
    → IsWellNamed query → IsResolved query p → ReportsTheQuery database text p
reports_the_query shown database text query p sound rows means named resolved may s outcome run
    told =
    record {
      tree = query;
      means = means;
      named = named;
      names = outcome.names;
      rows = outcome.rows;
      answer =
          answers_the_query database (world_of database) query p rows (shown database sound) named
          resolved may s outcome run told;
      printed = refl;
    }
