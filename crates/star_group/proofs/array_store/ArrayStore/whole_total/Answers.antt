use Rattle.star_group.proofs.{Common.{Row, ◌≡◌, ◌<◌, Some, [], List, ℤ, ℕ, suc, add-one, ap, arith, get_or, length, pos, subst, sym, false, ◌∙◌, cut, group_view, id_count, Aggregate, Bool, None, ArrayStore, IsMerged, MergeStays}, ArrayRows.{IsRowAt, IsSummed, sum_end, sum_more, sum_skip, sum_start, sum_stays}, array_store.ArrayStore.whole_total.Goals.{then-seen-id, else-seen-id}}
use Rattle.star_group.proofs.array_store.ArrayStore.whole_total.Goals as goal

-- a row that was read from parts that are lent
row_at : (s : ArrayStore) {gs : List Aggregate} {seen : List Bool} {cells : List ℤ} (row : Row)
    (n : ℕ) → gs ≡ s.rest.aggregates.items → seen ≡ s.seen.items → cells ≡ s.cells.items
    → ((a : ℕ) → a < length gs
    → get_or row a None ≡ Some (get_or (get_or (cut (length seen) (length gs) cells) a []) n
    (pos 0))) → IsRowAt (group_view s) s.seen.items s.cells.items n row
row_at s row n same marks numbers is = λ a h. is a (omega (arith, h, ap length same))
    ∙ (λ i. Some (get_or (get_or (cut (length (marks i)) (length (same i)) (numbers i)) a []) n
    (pos 0)))

pub merge-requires-clause-stays : goal.merge-requires-clause-stays
merge-requires-clause-stays c =
    let s = c.args.self.now in
    let same = c.as_slice-aggregates.ensures.value in
    let marks = c.as_slice-seen.ensures.value in
    let n = c.loop-id.id in
    subst (λ gs. MergeStays gs c.loop-id.total c.row_at-row.result) (sym same)
    (sum_stays s n (omega (arith, c.loop-id-test.true, ap length marks)) c.loop-id.total
    c.loop-id.invariant c.row_at-row.result
    (ap (λ xs. get_or xs n false) (sym marks) ∙ c.if-seen-id.true)
    (row_at s _ n same marks c.as_slice-cells.ensures.value c.row_at-row.ensures))

pub loop-id-init : goal.loop-id-init
loop-id-init c =
    subst (IsSummed c.args.self.now 0) (sym c.copied-total.ensures) (sum_start c.args.self.now)

pub loop-id-preserved : goal.loop-id-preserved
loop-id-preserved c =
    let s = c.args.self.now in
    let same = c.as_slice-aggregates.ensures.value in
    let marks = c.as_slice-seen.ensures.value in
    let n = c.loop-id.id in
    let here : n < length s.seen.items = omega (arith, c.loop-id-test.true, ap length marks) in
    subst (λ m. IsSummed s m c.if-seen-id.total) (sym (add-one n))
    (elim c.if-seen-id.branch [
      | then-seen-id w ↦ subst (IsSummed s (suc n)) (sym w.total-is)
          (sum_more s n here c.loop-id.total c.loop-id.invariant w.row_at-row.result
          (ap (λ xs. get_or xs n false) (sym marks) ∙ w.if-seen-id.true)
          (row_at s _ n same marks c.as_slice-cells.ensures.value w.row_at-row.ensures)
          w.merge.new.self
          (subst (λ gs. IsMerged gs c.loop-id.total w.row_at-row.result w.merge.new.self) same
          w.merge.ensures))
      | else-seen-id w ↦ subst (IsSummed s (suc n)) (sym w.total-is)
          (sum_skip s n here c.loop-id.total c.loop-id.invariant
          (ap (λ xs. get_or xs n false) (sym marks) ∙ w.if-seen-id.false))
    ])

pub returns : goal.returns
returns c =
    let s = c.args.self.now in
    let all : c.loop-id.id ≡ id_count s.spans.items =
    omega (
      arith,
      c.loop-id-test.false,
      c.loop-id.auto.id-end,
      ap length c.as_slice-seen.ensures.value,
      s.marks,
    ) in
    sum_end s c.loop-id.id all c.loop-id.total c.loop-id.invariant
