use Rattle.std.proofs.{Common.{◌≤◌, [], length, map, arith}, lemmas.List.{length-map, take_all}}
use Rattle.star_reader.proofs.ListSteps.{take_one_more}
use Rattle.star_reader.proofs.table_reader.TableReader.of_parts.Goals as goal

pub loop-index-preserved : goal.loop-index-preserved
loop-index-preserved c =
    rw (take_one_more (map (λ part. part.now) c.args.parts.now) c.loop-index.index _
    c.part_at.ensures)
    (c.end_part.ensures c.args.table c.args.limits.rows _ _
    (c.feed.ensures c.args.table c.args.limits.rows _ [] c.loop-index.invariant))

pub returns : goal.returns
returns c =
    let all : length (map (λ part. part.now) c.args.parts.now) ≤ c.loop-index.index =
    omega (arith, c.loop-index-test.false, length-map c.args.parts.now (λ part. part.now)) in
    rw (take_all c.loop-index.index (map (λ part. part.now) c.args.parts.now) all)
    at c.loop-index.invariant
