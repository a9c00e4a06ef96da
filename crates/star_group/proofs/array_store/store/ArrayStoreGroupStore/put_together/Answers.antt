use Rattle.star_group.proofs.Common.{◌≡◌, ◌<◌, ℕ, Some, get_or, subst, put_in, group_id}
use Rattle.star_group.proofs.array_store.store.ArrayStoreGroupStore.put_together.Goals as goal

pub put_at-requires-clause-at : goal.put_at-requires-clause-at
put_at-requires-clause-at c =
    let b = c.args.batch.now in
    subst (λ spans. (row : ℕ) → row < b.rows
    → group_id spans (put_in b row).keys ≡ Some (get_or c.find_ids.new.at row 0))
    c.as_slice.ensures.value (c.find_ids.ensures.ids c.if-not-find_ids.false)
