use Rattle.std.proofs.Common.{◌≡◌, []}
use Rattle.csv.specs.Records.{fields_of as fields_read}
use Rattle.star_reader.{specs.Private.Lines.TakesSome, proofs.PassedOn.passed_on}
use Rattle.star_reader.proofs.records.read_records.Goals as goal

pub returns-then-not-branch : goal.returns-then-not-branch
returns-then-not-branch c = λ table before all left has begun.
    let (lines, has_left, h) = c.loop.invariant table before all left has begun in
    let none : lines ≡ [] =
    rw c.if-not-branch.true at (c.in_ok-read_next.ensures.reads lines has_left) in
    rw none at h

pub returns-in_err-rows : goal.returns-in_err-rows
returns-in_err-rows c = λ table before all left has begun.
    let (lines, has_left, h) = c.loop.invariant table before all left has begun in
    let next : TakesSome lines (fields_read c.read_next.new.row) c.read_next.new.reader =
    rw c.if-not-branch.false at (c.in_ok-read_next.ensures.reads lines has_left) in
    passed_on _ _ _
    (c.in_err-rows.ensures table c.args.start before all next.others (rw next.was at h))
    c.from_residual-in_err-rows.ensures.1 (λ fault. fault)

pub loop-preserved : goal.loop-preserved
loop-preserved c = λ table before all left has begun.
    let (lines, has_left, h) = c.loop.invariant table before all left has begun in
    let next : TakesSome lines (fields_read c.read_next.new.row) c.read_next.new.reader =
    rw c.if-not-branch.false at (c.in_ok-read_next.ensures.reads lines has_left) in (
      next.others,
      next.rest,
      c.in_ok-rows.ensures table c.args.start before all next.others (rw next.was at h),
    )
