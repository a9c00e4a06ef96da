-- What a put into the stores of groups answers.
use Rattle.std.specs.Prelude.{◌≡◌, ℕ, true, false, List, Result, MatchResult}
use Rattle.star_common.specs.Memory.{UnlessMemory}
use Rattle.star_group.specs.{declared.eager.EagerStore.EagerStore, declared.rows.PutFault.PutFault, declared.rows.PutFault.TheVariants.OutOfMemory}
use Rattle.star_program.specs.{declared.program.Parts.Parts, Effects.with_update, Faults.group_at, Puts.Update, Puts.overflows}
use Rattle.star_trial.specs.Private.Runs.{AreStores}

-- one more update of a group; or memory was refused, or the update would overflow
abbrev pub HasPut : List EagerStore → List EagerStore → ℕ → Update → Result (Unit {0}) PutFault
    → Type 0
HasPut stores new g update result =
    (parts : Parts) (updates_of : ℕ → List Update) → AreStores parts stores updates_of
    → MatchResult result
    (λ _. AreStores parts new (with_update updates_of g update)
    × (overflows (group_at parts g).shape (group_at parts g).aggregates (updates_of g) update
    ≡ false))
    (λ fault. UnlessMemory OutOfMemory fault
    (overflows (group_at parts g).shape (group_at parts g).aggregates (updates_of g) update ≡ true))
