-- Rows whose keys can be shown as texts, and their cells.
use Rattle.std.specs.{Prelude.{◌≡◌, List, [], ◌∷◌, Option, Some, None, map}, List.AllByRecursion}
use Rattle.star_schema.specs.{Database.Database, declared.group.SortKey.SortKey, Groups.AreGroups, Groups.GroupRow as Row, Order.AreInOrder, Tables.Value}
use Rattle.star_program.specs.{declared.group.GroupDecl.GroupDecl, declared.group.GroupKey.GroupKey, declared.key.KeyValue.KeyValue, declared.outcome.Cell.Cell, declared.program.Parts.Parts, declared.program.Show.Show, Faults.group_at, Keys.key_value_cmp, Outcome.{AreReportRows, decoded_row, shown_cells}, RowCells.cell_of, Puts.Update, World.World}
use Rattle.star_group.specs.{StoreRows.AreRows, Stores.Group, Stores.group_declared}
use Rattle.star_outcome.specs.SoundKeys.{AreSoundKeys, IsSoundKey}

-- a key of a row: ALL, or as declared
abbrev pub IsDecodable : Database → GroupKey → Option KeyValue → Type 0
IsDecodable database declared None = Unit {0}
IsDecodable database declared (Some k) = IsSoundKey database declared k

abbrev pub AreDecodable : Database → List GroupKey → List (Option KeyValue) → Type 0
AreDecodable database [] [] = Unit {0}
AreDecodable database (declared ∷ rest) (k ∷ ks) =
    IsDecodable database declared k × AreDecodable database rest ks
AreDecodable database _ _ = ⊥

-- the cells of a row, one for each show line
abbrev pub row_cells : World → GroupDecl → List Show → Row KeyValue → List Cell
row_cells w d shows row = map (λ show. cell_of (decoded_row w d row) show.column) shows

-- the groups of some updates as a report has them, but with codes for texts
pub record AreSortedGroups (d : Group) (sorts : List SortKey) (updates : List Update)
    (rows : List (Row KeyValue)) : Type 0 where
  pub groups : AreGroups key_value_cmp d.shape d.count d.aggregates updates rows
  pub in_order : AreInOrder key_value_cmp sorts rows

-- the rows of the reported group with these updates, in any order
pub record AreToReport (database : Database) (parts : Parts) (updates : List Update)
    (rows : List (Row KeyValue)) : Type 0 where
  pub are : AreRows (group_declared (group_at parts parts.report)) updates rows
  pub sound : AllByRecursion
      (λ update. AreSoundKeys database (group_at parts parts.report).keys update.keys) updates

-- the rows of a report, cut to the show lines
pub record AreReported (w : World) (parts : Parts) (updates : List Update)
    (cells : List (List Cell)) : Type 0 where
  pub rows : List (Row Value)
  pub reported : AreReportRows w parts (group_at parts parts.report) updates rows
  pub shown : cells ≡ map (shown_cells parts) rows
