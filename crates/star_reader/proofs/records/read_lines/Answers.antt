use Rattle.std.proofs.Common.{map}
use Rattle.star_schema.specs.Records.{records_of}
use Rattle.star_reader.{specs.Columns.{first_rows, values}, specs.Private.Lines.IsBetween, proofs.Cuts.begun_plain, proofs.TableSteps.{matched, no_mark, start, whole}}
use Rattle.star_reader.proofs.records.read_lines.Goals as goal

pub returns : goal.returns
returns c = λ table begun full within.
    let between : IsBetween c.records_reader-reader.result (records_of c.args.lines.now) =
    rw (no_mark c.args.lines.now (begun_plain c.args.lines.now begun))
    at c.records_reader-reader.ensures.between in
    let left = c.in_ok-leave_out_header.ensures.left (records_of c.args.lines.now)
    c.records_reader-reader.ensures.named between in
    matched _ _ _ c.read_records.result (λ rows h. whole h)
    (c.read_records.ensures table (first_rows c.args.start (map values c.args.columns.now))
    (records_of c.args.lines.now) (records_of c.args.lines.now) left
    (start table c.args.most c.args.start (records_of c.args.lines.now) c.args.columns.now full
    within))
