-- A run over eager stores, next to the same run by the definitions.
use Rattle.std.specs.Prelude.{ℕ, List}
use Rattle.star_schema.specs.Database.{Database}
use Rattle.star_group.specs.{declared.eager.EagerStore.EagerStore, Eager.group_view, Eager.Has}
use Rattle.star_program.specs.{declared.program.Parts.Parts, Effects.State, Puts.Update}
use Rattle.star_outcome.specs.declared.work.Work.{Work}
use Rattle.star_outcome.specs.Done as done

abbrev pub Run : Type 0
Run = Work EagerStore

abbrev pub AreStores : Parts → List EagerStore → (ℕ → List Update) → Type 0
AreStores parts stores updates_of = done.AreStores group_view Has parts stores updates_of

abbrev pub HasDone : Database → Parts → Run → State → Type 0
HasDone database parts run s = done.HasDone group_view Has database parts run s
