use Rattle.std.proofs.Common.{◌≡◌, map, take, vec_capacity, vec_len}
use Rattle.star_schema.specs.Loadable.{keys_of}
use Rattle.star_catalogue.specs.Private.Referred.{AreFound}
use Rattle.star_catalogue.proofs.referred.find_all.Given as goal

abbrev pub invariant-loop-row : goal.invariant-loop-row
invariant-loop-row g l = record {
  found : AreFound (keys_of l.table.table l.table.rows) (take l.row l.numbers)
      (map g.W.RowWord.number l.rows.items);
  pushed : vec_len l.rows ≡ l.row;
  room : vec_capacity l.rows ≡ l.row-end;
}
