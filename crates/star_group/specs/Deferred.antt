-- What a contract sees of a deferred store.
use Rattle.std.specs.Prelude.{List}
use Rattle.star_group.specs.{declared.deferred.DeferredStore.DeferredStore, Base.IsBase, Entries.entries_of, Stores.Group}
use Rattle.star_program.specs.Puts.{Update}

abbrev pub group_view : DeferredStore → Group
group_view s = record { shape = s.shape; count = s.key_count; aggregates = s.aggregates.items }

-- the store has the content of these puts
abbrev pub Has : DeferredStore → List Update → Type 0
Has s puts = IsBase (group_view s) (entries_of s.rows) s.total puts
