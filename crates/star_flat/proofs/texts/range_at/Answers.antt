use Rattle.std.proofs.{Common.{◌≡◌, ◌<◌, ◌-◌, ℕ, List, zero, suc, Some, length, arith, refl, slice_get, ◌∙◌}, lemmas.Option.{get_or_from_slice_get, slice_get_within}}
use Rattle.star_flat.{specs.Private.Cut.text_start, proofs.CutLemmas.start_after}
use Rattle.star_flat.proofs.texts.range_at.Goals as goal

first : (es : List ℕ) (p : ℕ) → p ≡ 0 → 0 ≡ text_start 0 es p
unfolding text_start
first es zero e = refl
first es (suc p) e = absurd (omega (arith, e))

later : (es : List ℕ) (p e : ℕ) → 0 < p → p - 1 < length es → slice_get es (p - 1) ≡ Some e
    → e ≡ text_start 0 es p
later es zero e h within at = absurd (omega arith)
later es (suc p) e h within at = grind (arith, get_or_from_slice_get, start_after, slice_get_within)

pub returns-then-index-eq0-clause-start : goal.returns-then-index-eq0-clause-start
returns-then-index-eq0-clause-start c = grind (arith, first)

pub returns-then-index-eq0-clause-end : goal.returns-then-index-eq0-clause-end
returns-then-index-eq0-clause-end c = rw c.if-index-eq0.true c.get.ensures

pub returns-else-index-eq0-clause-start : goal.returns-else-index-eq0-clause-start
returns-else-index-eq0-clause-start c = grind (arith, later, slice_get_within)
