-- A query has one answer over given tables, and so one printed text.
use Rattle.std.proofs.Common.{◌≡◌, ◌∙◌, ℕ, List, ap, map, subst, sym}
use Rattle.star_schema.specs.{Database.Database, Database.rows_in, Order.row_cmp, Order.value_cmp}
use Rattle.star_query.{specs.Tree.Tree, proofs.Verdicts.one_meaning}
use Rattle.star_plan.specs.Meaning.{Tables}
use Rattle.star_program.specs.{declared.outcome.Cell.Cell, RowCells.cell_of}
use Rattle.star_report.{specs.Report.report_text, proofs.OneOrder.{one_order, row_turned, same_groups}}
use Rattle.star_query_meaning.specs.{Answers.IsAnswer, Reports.IsReport, Shows.item_columns, Shows.sorts_of}

pub one_answer : (ts : Tables) (q : Tree) (names others : List (List ℕ))
    (rows more : List (List Cell)) → IsAnswer ts q names rows → IsAnswer ts q others more
    → (names ≡ others) × (rows ≡ more)
one_answer ts q names others rows more h k =
    let there = same_groups _ _ _ _ _ h.groups k.groups h.each_group k.each_group in
    let back = same_groups _ _ _ _ _ k.groups h.groups k.each_group h.each_group in
    let same : h.groups ≡ k.groups =
    one_order (row_cmp value_cmp (sorts_of q)) (row_turned (sorts_of q)) h.groups k.groups
    h.in_order k.in_order there back in (
      h.headed ∙ sym k.headed,
      h.cells ∙ ap (map (λ group. map (cell_of group) (item_columns q))) same ∙ sym k.cells,
    )

pub one_report : (database : Database) (query a b : List ℕ) → IsReport database query a
    → IsReport database query b → a ≡ b
one_report database query a b h k =
    let same : h.tree ≡ k.tree = one_meaning query h.tree k.tree h.means k.means in
    let ts = rows_in database in
    let moved : IsAnswer ts k.tree h.names h.rows =
    subst (λ q. IsAnswer ts q h.names h.rows) same h.answer in
    let one = one_answer ts k.tree h.names k.names h.rows k.rows moved k.answer in
    h.printed ∙ (λ i. report_text (one.0 i) (one.1 i)) ∙ sym k.printed
