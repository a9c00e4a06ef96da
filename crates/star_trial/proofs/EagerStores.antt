-- One more update in the store of a group.
use Rattle.std.{proofs.Common.{◌≡◌, ◌⊎◌, inl, inr, ℕ, true, false, List, ◌∷◌, Some, subst, slice_get, slice_set, ⊎_elim}, specs.Prelude.{Result, Ok, Err, OnOk, IfErr, MatchResult}}
use Rattle.star_group.specs.{declared.eager.EagerStore.EagerStore, Eager.group_view, Eager.Has, declared.rows.PutFault.PutFault, declared.rows.PutFault.TheVariants.OutOfMemory}
use Rattle.star_program.specs.{declared.program.Parts.Parts, Effects.with_update, Faults.group_at, Puts.Update, Puts.overflows}
use Rattle.star_outcome.proofs.Stored.{with_put}
use Rattle.star_trial.specs.Private.Runs.{AreStores}

-- what a put into a store answers, in the words of the definitions
pub put_answer : (parts : Parts) (stores : List EagerStore) (updates_of : ℕ → List Update) (g : ℕ)
    (old new : EagerStore) (update : Update) (result : Result (Unit {0}) PutFault)
    → AreStores parts stores updates_of → slice_get stores g ≡ Some old
    → group_view new ≡ group_view old
    → OnOk result ((others : List Update) → Has old others → Has new (update ∷ others))
    → OnOk result ((others : List Update) → Has old others
    → overflows (group_view old).shape (group_view old).aggregates others update ≡ false)
    → IfErr result (λ fault. (fault ≡ OutOfMemory)
    ⊎ ((others : List Update) → Has old others
    → overflows (group_view old).shape (group_view old).aggregates others update ≡ true))
    → MatchResult result (λ _. AreStores parts (slice_set stores g new)
    (with_update updates_of g update)
    × (overflows (group_at parts g).shape (group_at parts g).aggregates (updates_of g) update
    ≡ false)) (λ fault. (fault ≡ OutOfMemory)
    ⊎ (overflows (group_at parts g).shape (group_at parts g).aggregates (updates_of g) update
    ≡ true))
put_answer parts stores updates_of g old new update (Ok u) are there same has stays over =
    let was = are.each g old there in (
      with_put group_view Has parts stores updates_of g old new update are there same has,
      subst (λ d. overflows d.shape d.aggregates (updates_of g) update ≡ false) was.is
          (stays (updates_of g) was.content),
    )
put_answer parts stores updates_of g old new update (Err fault) are there same has stays over =
    let was = are.each g old there in
    ⊎_elim {C = (fault ≡ OutOfMemory)
    ⊎ (overflows (group_at parts g).shape (group_at parts g).aggregates (updates_of g) update
    ≡ true)}
    (λ memory. inl memory)
    (λ leaves. inr (subst (λ d. overflows d.shape d.aggregates (updates_of g) update ≡ true) was.is
    (leaves (updates_of g) was.content)))
    over
