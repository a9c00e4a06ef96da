use Rattle.std.{proofs.Common.{◌≡◌, ◌<◌, ◌^◌, ◌++◌, ◌∷◌, [], List, append_assoc, length, map}, proofs.lemmas.List.map-append, proofs.lemmas.List.Elements.All-tail, specs.Vec.Iter.into_iter_items}
use Rattle.star_reader.specs.{declared.column.RawColumn.RawColumn, Columns.values}
use Rattle.star_catalogue.specs.{declared.columns.Column.Column, Private.Columns.as_read}
use Rattle.star_catalogue.proofs.columns.build_columns.Goals as goal

-- after one more column
moved : (built more : List Column) (column : Column) (raw : RawColumn)
    (left rest all : List RawColumn) → left ≡ raw ∷ rest → more ≡ built ++ column ∷ []
    → as_read column ≡ raw → map as_read built ++ left ≡ all → map as_read more ++ rest ≡ all
moved built more column raw left rest all taken pushed same so_far =
    rw (
      pushed,
      map-append as_read built (column ∷ []),
      append_assoc (map as_read built) (as_read column ∷ []) rest,
      same,
    ) (rw taken at so_far)

pub loop-column-preserved : goal.loop-column-preserved
loop-column-preserved c =
    let left = into_iter_items c.loop-column.column-iterator in
    let rest = into_iter_items c.next.new.self in
    let taken : left ≡ c.in-Some.column ∷ rest = c.in-Some.ensures.steps.0 in
    record {
      so_far = moved c.loop-column.columns.items c.push.new.self.items c.in_ok-build.field-0
          c.in-Some.column left rest c.args.raw.items taken c.in_ok-push.ensures.items
          c.in_ok-build.ensures c.loop-column.invariant.so_far;
      small = All-tail (λ (raw : RawColumn). length (values raw) < 2 ^ 32) c.in-Some.column rest
          (rw taken at c.loop-column.invariant.small);
    }
