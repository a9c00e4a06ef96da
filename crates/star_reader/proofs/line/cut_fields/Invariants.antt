-- The fields so far and those that are left.
use Rattle.std.proofs.Common.{◌≡◌, ◌+◌, ◌-◌, ◌++◌, [], length}
use Rattle.csv.specs.Records.{fields_of as fields_read, partial_of}
use Rattle.star_schema.specs.Records.{fields_of}
use Rattle.star_reader.specs.Private.Fronts.{left_of}
use Rattle.star_reader.proofs.line.cut_fields.Given as goal

abbrev pub invariant-loop-at : goal.invariant-loop-at
invariant-loop-at l = record {
  all : fields_read l.fields ++ left_of l.line l.at ≡ fields_of l.line;
  ended : partial_of l.fields ≡ [];
}

abbrev pub decreases-loop-at : goal.decreases-loop-at
decreases-loop-at l = length l.line + 1 - l.at
