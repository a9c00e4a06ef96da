-- The moment behind the put has the update.
use Rattle.std.proofs.Common.{◌≡◌, ◌+◌, ℕ, Bool, true, List, ◌∷◌, Option, Some, None, refl, subst}
use Rattle.star_safety.proofs.Common.{GoesOn, HasRoom, Parts, Put, Registers, State, TrapKind, Updates, World, act, after_op, behind, eq-eqb, group_at, group_declared, marked, moment, nat_eq, trap_of, unless_trap, update_of}
use Rattle.star_safety.proofs.law.each_put_has_room.Goals as goal

-- what goes on did not trap
went_on : (o : Option TrapKind) (r after : Registers) (s t : State)
    → unless_trap o (GoesOn r s) ≡ GoesOn after t → t ≡ s
went_on None r after s t e = cc
went_on (Some trap) r after s t e = let bad : ⊥ = cc in absurd bad

-- its store has the update
with_it : (w : World) (parts : Parts) (inside : Bool) (before after : Registers) (s t : State)
    (g : ℕ) (keys values : List ℕ)
    → act w parts inside before s (Put g keys values) ≡ GoesOn after t
    → t.updates_of g ≡ update_of (group_at parts g) before keys values ∷ s.updates_of g
with_it w parts inside before after s t g keys values goes =
    let same : t ≡ marked (Updates g (update_of (group_at parts g) before keys values)) s =
    went_on (trap_of w parts inside before s (Put g keys values)) before after
    (marked (Updates g (update_of (group_at parts g) before keys values)) s) t goes in
    let here : nat_eq g g ≡ true = eq-eqb g g refl in
    rw (same, here) refl

pub returns : goal.returns
returns c = λ w parts all first x group keys values rest at before after s t holds met goes.
    subst (HasRoom (group_declared (group_at parts group)))
    (with_it w parts x.inside before after s t group keys values goes)
    ((holds (moment (after_op w parts x (Put group keys values)) rest (at + 1) after t)
    (behind x (Put group keys values) rest at before after s t met goes)).room group)
