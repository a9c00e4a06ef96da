-- The verifier state between instructions, as the context of the next one.
use Rattle.std.specs.Prelude.{◌≡◌, ◌+◌, ◌*◌, ◌<◌, ◌≤◌, ◌^◌, ℕ, Bool, false, List, length, map, pos, slice_index_or, Option, Some}
use Rattle.star_schema.specs.declared.group.Aggregate.{Aggregate}
use Rattle.star_interval.specs.Range.{only}
use Rattle.star_program.specs.{declared.program.Parts.Parts, Faults.group_at, Puts.aligned}
use Rattle.star_safety.specs.Contexts.{Context}
use Rattle.star_verify.specs.{declared.tally.Tally.Tally, Private.Bounded.IsBounded, Private.Made.AreTallies, Private.Made.IsTallyAt}
use Rattle.star_safety.specs.Ranges as ranges

abbrev pub flag_at : List Bool → ℕ → Bool
flag_at flags n = slice_index_or flags n false

-- eight tallies for each group
abbrev pub HasShares : Parts → List Tally → Context → Type 0
HasShares parts tallies x =
    (g : ℕ) → g < length parts.groups
    → AreTallies tallies (8 * g) (group_at parts g).aggregates (x.so_far g)

-- and for each key
abbrev pub HasKeyShares : Parts → List Tally → Context → Type 0
HasKeyShares parts tallies x =
    (g : ℕ) → g < length parts.groups → (index : ℕ) → index < length (group_at parts g).keys
    → IsTallyAt tallies (8 * g + index) (x.keys_so_far g index)

-- the facts of a put's numbers, one for each aggregate
abbrev pub numbers_known : List Aggregate → ranges.AllKnown → List ℕ → List (Option ranges.Known)
numbers_known aggregates known values =
    aligned (Some (ranges.known_number (only (pos 1)))) aggregates (map known values)

-- ---- how much is put

-- a tally has room for `times` more numbers
pub record HasTallyRoom (tally : Tally) (times : ℕ) : Type 0 where
  pub bounded : IsBounded tally
  pub room : tally.many + times ≤ 2 ^ 62

-- a tally has at most `times` numbers more than before
pub record IsTallyGrown (old new : Tally) (times : ℕ) : Type 0 where
  pub bounded : IsBounded new
  pub many : new.many ≤ old.many + times

-- each tally has at most `most` numbers
abbrev pub AreTalliesFew : List Tally → ℕ → Type 0
AreTalliesFew tallies most =
    (p : ℕ) (t : Tally) → p < length tallies
    → IsBounded (slice_index_or tallies p t) × ((slice_index_or tallies p t).many ≤ most)

-- the groups that are marked are those that are put to
abbrev pub AreMarked : Parts → List Bool → (ℕ → Bool) → Type 0
AreMarked parts flags pending = (g : ℕ) → g < length parts.groups → flag_at flags g ≡ pending g
