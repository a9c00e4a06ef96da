-- What a contract sees of an eager store.
use Rattle.std.specs.Prelude.{List}
use Rattle.star_group.specs.{declared.eager.EagerStore.EagerStore, Base.AreGrouped, Base.HasAggregates, Entries.entries_of, Stores.Group}
use Rattle.star_program.specs.Puts.{Update}

abbrev pub group_view : EagerStore → Group
group_view s = record { shape = s.shape; count = s.key_count; aggregates = s.aggregates.items }

-- the store has the content of these puts: their rows and their total
pub record Has (s : EagerStore) (puts : List Update) : Type 0 where
  pub grouped : AreGrouped (group_view s) (entries_of s.rows) puts
  pub total : HasAggregates (group_view s) puts s.total
