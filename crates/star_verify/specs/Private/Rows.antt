-- The rows of a report, by grouping, while its keys are shown or hidden one after another.
use Rattle.std.specs.{Prelude.{◌≡◌, ◌⊎◌, ◌≤◌, ◌+◌, ◌*◌, ◌-◌, ◌^◌, ℕ, zero, suc, Bool, true, false, ◌&&◌, not, nat_le, List, ◌∷◌, filter, Option, None, if◌then◌else◌}, List.{list_all, sum_by}, Option.is_none}
use Rattle.star_schema.specs.{declared.group.Shape.Shape, declared.group.Shape.TheVariants.Plain, declared.group.Shape.TheVariants.Cube, Groups.is_grouping}
use Rattle.star_program.specs.Puts.{masks}
use Rattle.star_safety.specs.MostRows.{lists_of}

-- two numbers are equal, or both exceed every number of updates
abbrev pub AgreeUpTo : ℕ → ℕ → Type 0
AgreeUpTo a b = (a ≡ b) ⊎ ((2 ^ 64 - 1 ≤ a) × (2 ^ 64 - 1 ≤ b))

-- no key is hidden of a plain group
abbrev pub MayHide : Shape → Bool → Type 0
MayHide Plain true = ⊥
MayHide _ _ = Unit {0}

-- which of the remaining keys are shown continues a grouping; the flag says whether an earlier key
-- is hidden
abbrev pub grouping_goes_on : Shape → Bool → List (Option ℕ) → Bool
grouping_goes_on s true counts = is_grouping s (None ∷ counts)
grouping_goes_on s false counts = is_grouping s counts

-- the next key may be shown after those, and it may be hidden
abbrev pub may_show : Shape → Bool → Bool
may_show Cube has_hidden = true
may_show _ has_hidden = not has_hidden

abbrev pub may_hide : Shape → Bool
may_hide Plain = false
may_hide _ = true

abbrev pub lesser : ℕ → ℕ → ℕ
lesser a b = if nat_le a b then a else b

-- the rows of one grouping that continues other keys; the flag says whether one of these is shown,
-- and `lists` is the number of their value lists
unfoldable pub rows_of_rest : ℕ → Bool → ℕ → List (Option ℕ) → ℕ
rows_of_rest updates has_shown lists counts =
    if not has_shown && list_all is_none counts then 1
    else lesser updates (lists * lists_of counts)

-- the rows of all groupings
abbrev pub rows_behind : ℕ → Shape → Bool → Bool → ℕ → List ℕ → ℕ
rows_behind updates s has_shown has_hidden lists counts =
    sum_by (rows_of_rest updates has_shown lists)
    (filter (grouping_goes_on s has_hidden) (masks counts))

-- the maximum number of groupings of a number of keys
unfoldable pub groupings : ℕ → ℕ
groupings zero = 1
groupings (suc n) = groupings n + groupings n
