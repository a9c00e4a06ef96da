-- Bounds that are joined one after another.
use Rattle.std.proofs.{Common.{◌≡◌, ◌∙◌, ℕ, ◌+◌, ◌<◌, List, ap, arith, get_or, length, refl, set, sym, subst, ⊎_elim}, lemmas.Bool.cases_eq, lemmas.List.{get_or-set_other, get_or-set_same}, lemmas.List.Elements.at_read}
use Rattle.star_interval.specs.{Interval.range_of, declared.Interval.Interval}
use Rattle.star_merge_laws.specs.Facts.{hull_of_rows}

abbrev AreJoined : ℕ → ℕ → List Interval → List Interval → List Interval → ℕ → Type 0
AreJoined rows more_rows bounds more joined index =
    (k : ℕ) (any : Interval) → k < index → range_of (get_or joined k any)
    ≡ hull_of_rows rows more_rows (range_of (get_or bounds k any)) (range_of (get_or more k any))

pub hull_more : (rows more_rows : ℕ) (bounds more joined : List Interval) (index : ℕ)
    (x y hull : Interval) → index < length joined → index < length bounds → index < length more
    → x ≡ get_or bounds index x → y ≡ get_or more index y
    → range_of hull ≡ hull_of_rows rows more_rows (range_of x) (range_of y)
    → AreJoined rows more_rows bounds more joined index
    → AreJoined rows more_rows bounds more (set joined index hull) (index + 1)
hull_more rows more_rows bounds more joined index x y hull in_joined in_bounds in_more x_is y_is
    hull_is before k any h =
    ⊎_elim {C = range_of (get_or (set joined index hull) k any)
    ≡ hull_of_rows rows more_rows (range_of (get_or bounds k any)) (range_of (get_or more k any))}
    (λ e. subst (λ j. range_of (get_or (set joined index hull) j any)
    ≡ hull_of_rows rows more_rows (range_of (get_or bounds j any)) (range_of (get_or more j any)))
    (sym e) (ap range_of (get_or-set_same joined index hull any in_joined) ∙ hull_is
    ∙ (λ i. hull_of_rows rows more_rows
    (range_of (at_read bounds (λ v. x ≡ v) index x in_bounds x_is refl any i))
    (range_of (at_read more (λ v. y ≡ v) index y in_more y_is refl any i)))))
    (λ ne. ap range_of (get_or-set_other joined index k hull any ne)
    ∙ before k any (omega (arith, h, ne)))
    (cases_eq k index)
