use Rattle.star_group.proofs.Common.{◌≡◌, ℕ, ◌<◌, get_or}
use Rattle.star_group.proofs.array_store.ids.clear.Given as goal

abbrev pub invariant-loop-id : goal.invariant-loop-id
invariant-loop-id l = (row : ℕ) → row < l.id-index → get_or l.at row 0 ≡ 0
