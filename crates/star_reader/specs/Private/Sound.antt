-- Properties of every reader of a table in pieces.
use Rattle.std.specs.Prelude.{◌≤◌, ℕ, List, MatchOption, length}
use Rattle.star_reader.specs.{declared.table_reader.TableReader.TheInside.Inside, Partway.IsPartway, Partway.Reading}

abbrev pub reading_of : Inside → Reading
reading_of kept =
    record {
      table = kept.table;
      most = kept.most;
      progress = kept.progress;
      columns = kept.columns.items;
      fault = kept.fault;
    }

-- while there is no fault, it is partway through some text; it never has more than 17 columns
pub record IsSoundReader (kept : Inside) : Type 0 where
  pub few : length kept.columns.items ≤ 17
  pub partway : MatchOption kept.fault ((parts : List (List ℕ)) × (text : List ℕ)
      × IsPartway kept.table kept.most parts text kept.progress kept.columns.items)
      (λ fault. Unit {0})
